-- A store changes the front of one slot and nothing else: seen through its slots, a table after stores is the old one with the
-- bytes laid over the slots stored (`view_put`, `view_store`). From here on laws speak of views, and the table's bytes are left behind.
use mathlib.Core.Path.{◌≡◌, refl, sym, ap, ap₂, ◌∙◌, fun_ext}
use mathlib.Core.Logic.{◌≢◌}
use Prim.Native.Nat.{ℕ, ◌+◌, ◌-◌, ◌*◌, ◌≤◌, ◌<◌}
use native.Mathlib.Nat.{mul-le-mul_right}
use native.Mathlib.Omega.{arith}
use mathlib.Core.Bool.{cond}
use mathlib.Core.List.{List, [], ◌∷◌, ◌++◌}
use lib.ListN.{length, take, drop, length-take, length-drop}
use lib.Seq.{drop_at, take-append-le, drop-append-le, drop-append-add, take-take, drop-drop, take_all, length-take-le}
use lib.Dec.{eqb}
use borrow.Author.Tests.{eq-eqb, ne_eqb}
use Rattle.definition.specs.Numbers.{le, num, over, put}
use Rattle.definition.specs.Slots.{View, view, Store, store}
use Rattle.laws.proofs.Conditions.{cond_yes, cond_no, by_order}
use Rattle.laws.proofs.Lists.{take_append, drop_take, length_part}
use Rattle.laws.proofs.Puts.{length_put}

-- ---- one slot

-- slots lie apart, and a slot below F lies within F slots
pub apart : (E i j : ℕ) → j < i → j * E + E ≤ i * E
apart E i j h = omega (arith, mul-le-mul_right E h)

pub within : (E i F n : ℕ) → i < F → F * E ≤ n → i * E + E ≤ n
within E i F n h g = omega (arith, apart E F i h)

pub length_view : (E i : ℕ) (t : List ℕ) → i * E + E ≤ length t → length (view E t i) ≡ E
unfolding view
length_view E i t h = length_part t (i * E) E h

-- slot 0 is the table's front
pub view_zero : (E : ℕ) (t : List ℕ) → view E t 0 ≡ take E t
unfolding view
view_zero E t = let e : 0 * E ≡ 0 = omega arith in rw e refl

-- a number in a slot is a number in the table
pub view_num : (E i at k : ℕ) (t : List ℕ) → at + k ≤ E → num at k (view E t i) ≡ num (i * E + at) k t
unfolding num view
view_num E i at k t h =
    ap le (ap (take k) (drop_take at E (drop (i * E) t)) ∙ take-take k (E - at) (drop at (drop (i * E) t)) (omega arith) ∙ ap (take k) (drop-drop at (i * E) t))

-- ---- one store

pub view_same : (E i : ℕ) (t bs : List ℕ) → length bs ≤ E → i * E + E ≤ length t → view E (put t (i * E) bs) i ≡ over bs (view E t i)
unfolding view put over
view_same E i t bs hb ht =
    ap (take E) (drop_at (take (i * E) t) (bs ++ drop (length bs) (drop (i * E) t)) (i * E) (length-take-le (i * E) t (omega arith)))
    ∙ take_append E bs (drop (length bs) (drop (i * E) t))
    ∙ ap₂ (λ (a b : List ℕ). a ++ b) (take_all E bs hb) (sym (drop_take (length bs) E (drop (i * E) t)))

view_below : (E i j : ℕ) (t bs : List ℕ) → j < i → i * E ≤ length t → view E (put t (i * E) bs) j ≡ view E t j
unfolding view put over
view_below E i j t bs h ht =
    let a : j * E + E ≤ i * E = apart E i j h in
    let e : length (take (i * E) t) ≡ i * E = length-take-le (i * E) t ht in
    ap (take E) (drop-append-le (j * E) (take (i * E) t) _ (omega arith) ∙ ap (λ (r : List ℕ). r ++ (bs ++ drop (length bs) (drop (i * E) t))) (drop_take (j * E) (i * E) t))
    ∙ take-append-le E (take (i * E - j * E) (drop (j * E) t)) _ (simp (length-take, length-drop) (omega arith))
    ∙ take-take E (i * E - j * E) (drop (j * E) t) (omega arith)

view_above : (E i j : ℕ) (t bs : List ℕ) → i < j → length bs ≤ E → i * E ≤ length t → view E (put t (i * E) bs) j ≡ view E t j
unfolding view put over
view_above E i j t bs h hb ht =
    let a : i * E + E ≤ j * E = apart E j i h in
    let e : length (take (i * E) t) ≡ i * E = length-take-le (i * E) t ht in
    let r : ℕ = j * E - i * E - length bs in
    let back : i * E + (length bs + r) ≡ j * E = omega arith in
    let je : j * E ≡ length (take (i * E) t) + (length bs + r) = rw e (omega arith) in
    ap (take E) (ap (λ (k : ℕ). drop k (put t (i * E) bs)) je
    ∙ drop-append-add (take (i * E) t) _ (length bs + r)
    ∙ drop-append-add bs _ r
    ∙ drop-drop r (length bs) (drop (i * E) t)
    ∙ drop-drop (length bs + r) (i * E) t
    ∙ ap (λ (k : ℕ). drop k t) back)

pub view_other : (E i j : ℕ) (t bs : List ℕ) → j ≢ i → length bs ≤ E → i * E + E ≤ length t → view E (put t (i * E) bs) j ≡ view E t j
view_other E i j t bs n hb ht =
    by_order i j
    (λ h. view_below E i j t bs h (omega arith))
    (λ e. absurd (n e))
    (λ h. view_above E i j t bs h hb (omega arith))

-- a view with bs laid over slot i
unfoldable pub upd : View → ℕ → List ℕ → View
upd f i bs = λ j. cond (eqb j i) (over bs (f j)) (f j)

pub upd_same : (f : View) (i : ℕ) (bs : List ℕ) → upd f i bs i ≡ over bs (f i)
unfolding upd
upd_same f i bs = cond_yes (eqb i i) _ _ (eq-eqb i i refl)

pub upd_other : (f : View) (i j : ℕ) (bs : List ℕ) → j ≢ i → upd f i bs j ≡ f j
unfolding upd
upd_other f i j bs n = cond_no (eqb j i) _ _ (ne_eqb j i n)

pub view_put : (E i : ℕ) (t bs : List ℕ) → length bs ≤ E → i * E + E ≤ length t → view E (put t (i * E) bs) ≡ upd (view E t) i bs
view_put E i t bs hb ht =
    fun_ext (λ (j : ℕ). by_order i j
    (λ h. view_other E i j t bs (omega arith) hb ht ∙ sym (upd_other (view E t) i j bs (omega arith)))
    (λ e. ap (view E (put t (i * E) bs)) e ∙ view_same E i t bs hb ht ∙ sym (upd_same (view E t) i bs) ∙ ap (upd (view E t) i bs) (sym e))
    (λ h. view_other E i j t bs (omega arith) hb ht ∙ sym (upd_other (view E t) i j bs (omega arith))))

-- ---- many stores

unfoldable pub upd_all : View → List Store → View
upd_all f [] = f
upd_all f (w ∷ ws) = upd_all (upd f w.0 w.1) ws

-- every store fits its slot, and its slot the table of L bytes
abbrev pub Fits : ℕ → ℕ → List Store → Type 0
Fits E L [] = Unit {0}
Fits E L (w ∷ ws) = (length w.1 ≤ E) × (w.0 * E + E ≤ L) × Fits E L ws

pub length_store : (E : ℕ) (t : List ℕ) (ws : List Store) → Fits E (length t) ws → length (store E t ws) ≡ length t
unfolding store
length_store E t [] h = refl
length_store E t (w ∷ ws) h =
    let l : length (put t (w.0 * E) w.1) ≡ length t = length_put t (w.0 * E) w.1 (omega (arith, h.0, h.1)) in
    length_store E (put t (w.0 * E) w.1) ws (rw l h.2) ∙ l

pub view_store : (E : ℕ) (t : List ℕ) (ws : List Store) → Fits E (length t) ws → view E (store E t ws) ≡ upd_all (view E t) ws
unfolding store upd_all
view_store E t [] h = refl
view_store E t (w ∷ ws) h =
    let l : length (put t (w.0 * E) w.1) ≡ length t = length_put t (w.0 * E) w.1 (omega (arith, h.0, h.1)) in
    view_store E (put t (w.0 * E) w.1) ws (rw l h.2)
    ∙ ap (λ (g : View). upd_all g ws) (view_put E w.0 t w.1 h.0 h.1)

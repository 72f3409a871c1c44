-- A count stored mid-slot, as code stores it, is the definition's store of the slot's body (`count_store_lem`); over its own slot that body is
-- the slot's front with the new count (`count_over`), and it fits into the slot (`count_long`).
use mathlib.Core.Path.{◌≡◌, refl, sym, ap, ◌∙◌}
use Prim.Native.Nat.{ℕ, zero, suc, ◌+◌, ◌-◌, ◌*◌, ◌≤◌, min}
use native.Mathlib.Omega.{arith}
use native.Mathlib.Decide.{dec_le}
use mathlib.Core.List.{List, [], ◌∷◌, ◌++◌, append_assoc}
use lib.ListN.{length, take, drop, length-append, length-take, length-drop}
use lib.Seq.{take_all, take-length, take-take, drop-drop, take-add, length-take-le}
use Rattle.definition.specs.declared.Settings.{Settings}
use Rattle.definition.specs.Numbers.{bytes, over, put}
use Rattle.definition.specs.Settings.{word_bytes, count_bytes, start_overhead}
use Rattle.definition.specs.Slots.{view, size_of, start_body, store}
use Rattle.definition.specs.Calls.{count_store}
use Rattle.laws.proofs.Conditions.{cond_yes, cond_no, which, Which, is_yes, is_no}
use Rattle.laws.proofs.Lists.{drop_take}
use Rattle.laws.proofs.Bytes.{length_bytes}
use Rattle.laws.proofs.Puts.{put_is}
use Rattle.laws.proofs.Overheads.{start_fixed}

-- bytes put at j past place a are put at a, behind the j bytes that stand there
pub put_inside : (t : List ℕ) (a j : ℕ) (bs : List ℕ) → a + j ≤ length t → put t (a + j) bs ≡ put t a (take j (drop a t) ++ bs)
unfolding put over
put_inside t a j bs h =
    let x : List ℕ = take j (drop a t) in
    let lx : length x ≡ j = length-take-le j (drop a t) (rw length-drop (omega arith)) in
    let d : drop (length (x ++ bs)) (drop a t) ≡ drop (length bs) (drop (a + j) t) =
    ap (λ (n : ℕ). drop n (drop a t)) (length-append x bs ∙ ap (λ (n : ℕ). n + length bs) lx)
    ∙ sym (drop-drop (length bs) j (drop a t)) ∙ ap (drop (length bs)) (drop-drop j a t) in
    rw (d, take-add a j t, append_assoc, append_assoc) refl

-- ---- a part of x laid over x

take_rest : (j : ℕ) (x : List ℕ) → take j x ++ drop (length (take j x)) x ≡ x
take_rest zero x = refl
take_rest (suc j) [] = refl
take_rest (suc j) (a ∷ x) = ap (λ (r : List ℕ). a ∷ r) (take_rest j x)

-- what follows the bytes y in x, laid behind y over x, changes nothing more than y does
over_more : (y x : List ℕ) (j : ℕ) → over (y ++ take j (drop (length y) x)) x ≡ over y x
unfolding over
over_more y x j =
    let z : List ℕ = drop (length y) x in
    ap (λ (n : ℕ). (y ++ take j z) ++ drop n x) (length-append y (take j z))
    ∙ ap (λ (r : List ℕ). (y ++ take j z) ++ r) (sym (drop-drop (length (take j z)) (length y) x))
    ∙ append_assoc y (take j z) _ ∙ ap (λ (r : List ℕ). y ++ r) (take_rest j z)

-- the first n bytes of x, with bs put at o, laid over x
over_part : (x : List ℕ) (n o : ℕ) (bs : List ℕ) → o ≤ n → o ≤ length x → over (put (take n x) o bs) x ≡ over (take o x ++ bs) x
over_part x n o bs h l =
    let y : List ℕ = take o x ++ bs in
    let k : o + length bs ≡ length y = sym (length-append (take o x) bs ∙ ap (λ (m : ℕ). m + length bs) (length-take-le o x l)) in
    let e : put (take n x) o bs ≡ y ++ take (n - length y) (drop (length y) x) =
    put_is (take n x) o bs ∙ ap (λ (r : List ℕ). (r ++ bs) ++ drop (o + length bs) (take n x)) (take-take o n x h)
    ∙ ap (λ (m : ℕ). y ++ drop m (take n x)) k ∙ ap (λ (r : List ℕ). y ++ r) (drop_take (length y) n x) in
    ap (λ (r : List ℕ). over r x) e ∙ over_more y x (n - length y)

take_both : (m n : ℕ) (x : List ℕ) → take m (take n x) ≡ take (min m n) x
take_both m n x = elim (dec_le m n) [
  | yes p ↦ (let e : min m n ≡ m = omega arith in take-take m n x p ∙ ap (λ (k : ℕ). take k x) (sym e))
  | no p ↦ (let e : min m n ≡ n = omega arith in take_all m (take n x) (rw length-take (omega arith)) ∙ ap (λ (k : ℕ). take k x) (sym e))
]

-- ---- the body of the slot where a chain starts

-- a front of the slot, with all that stands before the prefix
start_front : (s : Settings) (b : List ℕ) → start_overhead s ≤ length b → (j : ℕ) × (start_body s b ≡ take j b) × (start_overhead s ≤ j)
unfolding start_body
start_front s b h = go (which s.multipart)
  where
    go : Which s.multipart → (j : ℕ) × (start_body s b ≡ take j b) × (start_overhead s ≤ j)
    go (is_yes m) = (length b, cond_yes s.multipart b _ m ∙ sym (take-length b), h)
    go (is_no m) = (word_bytes + size_of b, cond_no s.multipart b _ m, omega (arith, start_fixed s m))

pub count_over : (s : Settings) (h : ℕ) (b : List ℕ) (c : ℕ) → start_overhead s ≤ length b
    → over (count_store s h b c).1 b ≡ over (take (start_overhead s) b ++ bytes count_bytes c) b
unfolding count_store
count_over s h b c l =
    let f = start_front s b l in
    ap (λ (x : List ℕ). over (put x (start_overhead s) (bytes count_bytes c)) b) f.1 ∙ over_part b f.0 (start_overhead s) (bytes count_bytes c) f.2 l

pub count_long : (s : Settings) (h : ℕ) (b : List ℕ) (c E : ℕ) → start_overhead s + count_bytes ≤ E → start_overhead s ≤ length b → length b ≤ E
    → length (count_store s h b c).1 ≤ E
unfolding count_store
count_long s h b c E inside l long =
    let f = start_front s b l in
    rw (f.1, put_is) (simp (length-append, length-take, length-drop, length_bytes) (omega (arith, f.2)))

pub count_store_lem : (s : Settings) (t : List ℕ) (h c : ℕ) → start_overhead s ≤ s.size → h * s.size + s.size ≤ length t
    → store s.size t (count_store s h (view s.size t h) c ∷ []) ≡ put t (h * s.size + start_overhead s) (bytes count_bytes c)
unfolding store count_store view put
count_store_lem s t h c fits inside =
    let o : ℕ = start_overhead s in
    let a : ℕ = h * s.size in
    let bs : List ℕ = bytes count_bytes c in
    let long : o ≤ length (drop a t) = rw length-drop (omega arith) in
    let f = start_front s (take s.size (drop a t)) (simp (length-take, length-drop) (omega arith)) in
    let body : start_body s (take s.size (drop a t)) ≡ take (min f.0 s.size) (drop a t) = f.1 ∙ take_both f.0 s.size (drop a t) in
    ap (λ (x : List ℕ). put t a (put x o bs)) body
    ∙ ap (λ (x : List ℕ). take a t ++ x) (over_part (drop a t) (min f.0 s.size) o bs (omega (arith, f.2)) long)
    ∙ sym (put_inside t a o bs (omega arith))

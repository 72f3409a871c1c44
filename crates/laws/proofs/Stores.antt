-- Stores to distinct slots are all found (`upd_all_stored`), and a slot that no store names stays (`upd_all_other`).
-- Then which slots the one effect of insert, replace and remove takes and frees: nothing is lost and nothing is doubled (`effect_owns`).
use mathlib.Core.Path.{◌≡◌, refl, sym, ap, ◌∙◌}
use Prim.Native.Nat.{ℕ, ◌+◌, ◌-◌, ◌≤◌, ◌<◌}
use native.Mathlib.Omega.{arith}
use mathlib.Core.Bool.{Bool}
use mathlib.Core.List.{List, [], ◌∷◌, ◌++◌, head_d}
use lib.ListN.{length, take, drop, length-append, drop_of_length-le}
use lib.Seq.{length-take-le}
use lib.Dec.{eqb}
use borrow.Author.Tests.{eq-eqb, ne_eqb}
use Rattle.definition.specs.declared.Settings.{Settings}
use Rattle.definition.specs.Numbers.{range, over}
use Rattle.definition.specs.Slots.{View, Store}
use Rattle.definition.specs.Parts.{rest_stores, chain_stores, free_stores}
use Rattle.definition.specs.Effect.{new_slots, left_over, free_left, free_after, filled_after, header_store, header_stores, effect}
use Rattle.definition.specs.Sound.{hit, occ}
use Rattle.laws.proofs.Conditions.{cond_yes, cond_no, which, Which, is_yes, is_no}
use Rattle.laws.proofs.Lists.{take_append}
use Rattle.laws.proofs.Views.{upd, upd_all, upd_same, upd_other, Fits}
use Rattle.laws.proofs.Counting.{hit_same, hit_none, occ_append, occ_cut, occ_reverse, length_range, take_range, mem_head, mem_tail}

-- ---- what a view holds after stores

-- the slots that stores name
unfoldable pub slots_of : List Store → List ℕ
slots_of [] = []
slots_of (w ∷ ws) = w.0 ∷ slots_of ws

pub slots_of_append : (v w : List Store) → slots_of (v ++ w) ≡ slots_of v ++ slots_of w
unfolding slots_of
slots_of_append [] w = refl
slots_of_append (x ∷ v) w = ap (λ (l : List ℕ). x.0 ∷ l) (slots_of_append v w)

-- g holds what the stores laid over f
abbrev pub Stored : View → View → List Store → Type 0
Stored g f [] = Unit {0}
Stored g f (w ∷ ws) = (g w.0 ≡ over w.1 (f w.0)) × Stored g f ws

pub stored_left : (g f : View) (v w : List Store) → Stored g f (v ++ w) → Stored g f v
stored_left g f [] w h = tt
stored_left g f (x ∷ v) w h = (h.0, stored_left g f v w h.1)

pub stored_right : (g f : View) (v w : List Store) → Stored g f (v ++ w) → Stored g f w
stored_right g f [] w h = h
stored_right g f (x ∷ v) w h = stored_right g f v w h.1

-- the views laid over need agree only in the slots named
pub stored_from : (g f k : View) (ws : List Store) → ((i : ℕ) → 0 < occ i (slots_of ws) → k i ≡ f i) → Stored g k ws → Stored g f ws
unfolding slots_of
stored_from g f k [] e h = tt
stored_from g f k (w ∷ ws) e h = (
  h.0 ∙ ap (over w.1) (e w.0 (mem_head w.0 (slots_of ws))),
  stored_from g f k ws (λ i m. e i (mem_tail i w.0 (slots_of ws) m)) h.1,
)

-- a slot that no store names stays
pub upd_all_other : (f : View) (ws : List Store) (i : ℕ) → occ i (slots_of ws) ≡ 0 → upd_all f ws i ≡ f i
unfolding occ slots_of upd_all
upd_all_other f [] i h = refl
upd_all_other f (w ∷ ws) i h =
    upd_all_other (upd f w.0 w.1) ws i (omega arith) ∙ upd_other f w.0 i w.1 (hit_none i w.0 (omega arith))

-- stores to distinct slots are all found
pub upd_all_stored : (f : View) (ws : List Store) → ((i : ℕ) → occ i (slots_of ws) ≤ 1) → Stored (upd_all f ws) f ws
unfolding occ slots_of upd_all
upd_all_stored f [] d = tt
upd_all_stored f (w ∷ ws) d =
    let once : occ w.0 (slots_of ws) ≡ 0 = omega (arith, d w.0, hit_same w.0) in (
      upd_all_other (upd f w.0 w.1) ws w.0 once ∙ upd_same f w.0 w.1,
      stored_from (upd_all (upd f w.0 w.1) ws) f (upd f w.0 w.1) ws
          (λ (i : ℕ) (m : 0 < occ i (slots_of ws)). upd_other f w.0 i w.1 (hit_none i w.0 (omega (arith, d i))))
          (upd_all_stored (upd f w.0 w.1) ws (λ (i : ℕ). omega (arith, d i))),
    )

pub fits_append : (E L : ℕ) (v w : List Store) → Fits E L v → Fits E L w → Fits E L (v ++ w)
fits_append E L [] w a b = b
fits_append E L (x ∷ v) w a b = (a.0, a.1, fits_append E L v w a.2 b)

-- ---- the slots of the effect

pub slots_of_rest : (m : Bool) (l : List ℕ) (ps : List (List ℕ)) → length ps ≡ length l → slots_of (rest_stores m l ps) ≡ l
unfolding slots_of rest_stores
slots_of_rest m [] ps e = refl
slots_of_rest m (x ∷ l) [] e = absurd (omega arith)
slots_of_rest m (x ∷ []) (p ∷ ps) e = refl
slots_of_rest m (x ∷ y ∷ l) (p ∷ ps) e = ap (λ (k : List ℕ). x ∷ k) (slots_of_rest m (y ∷ l) ps (omega arith))

pub slots_of_chain : (s : Settings) (m : Bool) (total : ℕ) (l : List ℕ) (ps : List (List ℕ)) → length ps ≡ length l → slots_of (chain_stores s m total l ps) ≡ l
unfolding slots_of chain_stores
slots_of_chain s m total [] ps e = refl
slots_of_chain s m total (x ∷ l) [] e = absurd (omega arith)
slots_of_chain s m total (x ∷ []) (p ∷ ps) e = refl
slots_of_chain s m total (x ∷ y ∷ l) (p ∷ ps) e = ap (λ (k : List ℕ). x ∷ k) (slots_of_rest m (y ∷ l) ps (omega arith))

pub slots_of_free : (removed : ℕ) (l : List ℕ) → slots_of (free_stores removed l) ≡ l
unfolding slots_of free_stores
slots_of_free removed [] = refl
slots_of_free removed (x ∷ l) = ap (λ (k : List ℕ). x ∷ k) (slots_of_free x l)

module _ (old free : List ℕ) (F n : ℕ) where
  -- the header's stores: none where neither a slot was taken nor one freed, else one
  pub header_none : n ≡ length old → header_stores old free F n ≡ []
  unfolding header_stores
  header_none e = cond_yes (eqb n (length old)) _ _ (eq-eqb n (length old) e)

  pub header_one : (n ≡ length old → ⊥) → header_stores old free F n ≡ header_store (head_d (free_after old free n) 0) (filled_after old free F n) ∷ []
  unfolding header_stores
  header_one e = cond_no (eqb n (length old)) _ _ (ne_eqb n (length old) e)

  -- they name slot 0 alone
  pub header_slots : (i : ℕ) → occ i (slots_of (header_stores old free F n)) ≤ hit i 0
  unfolding header_stores header_store slots_of occ
  header_slots i = go (which (eqb n (length old)))
    where
      go : Which (eqb n (length old)) → occ i (slots_of (header_stores old free F n)) ≤ hit i 0
      go (is_yes e) = rw (cond_yes {X = List Store} (eqb n (length old)) [] _ e) (omega arith)
      go (is_no e) = rw (cond_no {X = List Store} (eqb n (length old)) [] _ e) (omega arith)

  pub length_new : length (new_slots old free F n) ≡ n
  unfolding new_slots
  length_new = length-take-le n (old ++ (free ++ range F n)) (simp (length-append, length_range) (omega arith))

  -- the new slots, by where they come from
  pub new_cut : new_slots old free F n ≡ take n old ++ (take (n - length old) free ++ range F (n - length old - length free))
  unfolding new_slots
  new_cut =
      take_append n old (free ++ range F n)
      ∙ ap (λ (r : List ℕ). take n old ++ r) (take_append (n - length old) free (range F n)
      ∙ ap (λ (r : List ℕ). take (n - length old) free ++ r) (take_range F (n - length old - length free) n (omega arith)))

  pub occ_free_after : (i : ℕ) → occ i (free_after old free n) ≡ occ i (left_over old n) + occ i (free_left old free n)
  unfolding free_after
  occ_free_after i = occ_reverse i (left_over old n) (free_left old free n)

  -- nothing is lost and nothing is doubled: what is owned afterwards was owned before, or is a slot from FILLED up
  pub effect_owns : (i : ℕ) → occ i (free_after old free n) + occ i (new_slots old free F n)
      ≡ occ i old + occ i free + occ i (range F (n - length old - length free))
  unfolding left_over free_left
  effect_owns i =
      rw (new_cut, occ_free_after)
      (omega (
        arith,
        occ_append i (take n old) (take (n - length old) free ++ range F (n - length old - length free)),
        occ_append i (take (n - length old) free) (range F (n - length old - length free)),
        occ_cut i n old,
        occ_cut i (n - length old) free,
      ))

  -- where as many parts are written as there were, neither the free list nor FILLED moves
  pub nothing_moves : n ≡ length old → (free_after old free n ≡ free) × (filled_after old free F n ≡ F)
  unfolding free_after filled_after left_over free_left
  nothing_moves e =
      let d : drop n old ≡ [] = drop_of_length-le old {i = n} (omega arith) in
      let z : n - length old ≡ 0 = omega arith in
      (rw (d, z) refl, omega arith)

-- the slots that all stores of the effect name
pub effect_slots : (s : Settings) (mark : Bool) (total F : ℕ) (old free : List ℕ) (ps : List (List ℕ)) (i : ℕ)
    → occ i (slots_of (effect s mark total ps old free F))
    ≡ occ i (new_slots old free F (length ps)) + (occ i (left_over old (length ps)) + occ i (slots_of (header_stores old free F (length ps))))
unfolding effect
effect_slots s mark total F old free ps i =
    rw (
      slots_of_append,
      occ_append,
      slots_of_append,
      occ_append,
      slots_of_chain s mark total (new_slots old free F (length ps)) ps (sym (length_new old free F (length ps))),
      slots_of_free (head_d (free_left old free (length ps)) 0) (left_over old (length ps)),
    ) refl

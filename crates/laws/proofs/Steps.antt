-- Document 01's steps, one slot at a time, come to the closed forms of the one effect (`steps`): slots are used from the old chain, then
-- taken from the free list, then from FILLED up; what is left over is freed from its first part to its last, each freed slot getting
-- the LAST_REMOVED of its turn (`free_steps_store`).
use mathlib.Core.Path.{◌≡◌, refl, sym, ap, ap₂, ◌∙◌}
use Prim.Native.Nat.{ℕ, zero, suc, ◌+◌, ◌-◌, ◌≤◌}
use native.Mathlib.Omega.{arith}
use mathlib.Core.List.{List, [], ◌∷◌, ◌++◌, head_d, reverse_aux, reverse_aux-eq}
use lib.ListN.{length, take, drop}
use lib.Seq.{drop-nil}
use Rattle.definition.specs.Numbers.{range}
use Rattle.definition.specs.Slots.{Store}
use Rattle.definition.specs.Parts.{free_slot, free_stores}
use Rattle.definition.specs.Effect.{new_slots, left_over, free_left, free_after, filled_after}
use Rattle.laws.proofs.Lists.{take_append}
use Rattle.laws.proofs.Counting.{take_range}

-- the free slots in order, and FILLED
pub record Pool : Type 0 where
  pub free : List ℕ
  pub filled : ℕ

-- ---- 01's steps

-- take a slot: if LAST_REMOVED is not 0 it is taken and its link becomes LAST_REMOVED; else FILLED is taken and rises by 1
unfoldable pub take_slot : Pool → ℕ × Pool
take_slot p = elim p.free [ [] ↦ (p.filled, record { free = []; filled = suc p.filled }) | x ∷ l ↦ (x, record { free = l; filled = p.filled }) ]

-- the slots of n parts, in chain order: the old chain's, then ones taken
unfoldable pub use_slots : ℕ → List ℕ → Pool → List ℕ × Pool
use_slots zero old p = ([], p)
use_slots (suc n) [] p = ((take_slot p).0 ∷ (use_slots n [] (take_slot p).1).0, (use_slots n [] (take_slot p).1).1)
use_slots (suc n) (x ∷ old) p = (x ∷ (use_slots n old p).0, (use_slots n old p).1)

-- free a slot: it comes on top of the list
unfoldable pub free_one : ℕ → Pool → Pool
free_one x p = record { free = x ∷ p.free; filled = p.filled }

unfoldable pub free_each : List ℕ → Pool → Pool
free_each [] p = p
free_each (x ∷ l) p = free_each l (free_one x p)

-- its ten bytes: the mark, and the old LAST_REMOVED
unfoldable pub free_each_stores : List ℕ → Pool → List Store
free_each_stores [] p = []
free_each_stores (x ∷ l) p = (x, free_slot (head_d p.free 0)) ∷ free_each_stores l (free_one x p)

-- ---- what they come to

abbrev pool : List ℕ → ℕ → Pool
pool free F = record { free = free; filled = F }

range_more : (n j k : ℕ) (l : List ℕ) (F : ℕ) → n ≤ j → n ≤ k → take n (l ++ range F j) ≡ take n (l ++ range F k)
range_more n j k l F a b =
    take_append n l (range F j)
    ∙ ap (λ (z : List ℕ). take n l ++ z) (take_range F (n - length l) j (omega arith) ∙ sym (take_range F (n - length l) k (omega arith)))
    ∙ sym (take_append n l (range F k))

taken : (n : ℕ) (free : List ℕ) (F : ℕ)
    → ((use_slots n [] (pool free F)).0 ≡ take n (free ++ range F n)) × ((use_slots n [] (pool free F)).1 ≡ pool (drop n free) (F + (n - length free)))
unfolding use_slots take_slot range
taken zero free F = (refl, ap (pool free) (omega arith))
taken (suc n) [] F =
    let r = taken n [] (suc F) in
    (ap (λ (l : List ℕ). F ∷ l) r.0, r.1 ∙ ap₂ pool (drop-nil n) (omega arith))
taken (suc n) (x ∷ free) F =
    let r = taken n free F in
    (ap (λ (l : List ℕ). x ∷ l) (r.0 ∙ range_more n n (suc n) free F (omega arith) (omega arith)), r.1 ∙ ap (pool (drop n free)) (omega arith))

used : (n : ℕ) (old free : List ℕ) (F : ℕ) → ((use_slots n old (pool free F)).0 ≡ new_slots old free F n)
    × ((use_slots n old (pool free F)).1 ≡ pool (free_left old free n) (filled_after old free F n))
unfolding new_slots free_left filled_after use_slots range
used n [] free F = let z : n - 0 ≡ n = omega arith in ((taken n free F).0, (taken n free F).1 ∙ rw z refl)
used zero (x ∷ old) free F =
    let e : 0 - suc (length old) ≡ 0 = omega arith in
    let d : F ≡ F + (0 - suc (length old) - length free) = omega arith in
    (refl, ap₂ pool (ap (λ (k : ℕ). drop k free) (sym e)) d)
used (suc n) (x ∷ old) free F =
    let r = used n old free F in
    let e : suc n - suc (length old) ≡ n - length old = omega arith in (
      ap (λ (l : List ℕ). x ∷ l) (r.0 ∙ longer),
      r.1 ∙ rw e refl,
    )
  where
    longer : take n (old ++ (free ++ range F n)) ≡ take n (old ++ (free ++ range F (suc n)))
    longer =
        take_append n old (free ++ range F n)
        ∙ ap (λ (z : List ℕ). take n old ++ z) (range_more (n - length old) n (suc n) free F (omega arith) (omega arith))
        ∙ sym (take_append n old (free ++ range F (suc n)))

freed : (l free : List ℕ) (F : ℕ) → free_each l (pool free F) ≡ pool (reverse_aux l free) F
unfolding free_each free_one
freed [] free F = refl
freed (x ∷ l) free F = freed l (x ∷ free) F

-- n parts written over the old chain, and what is left over of it freed from its first part to its last: the new slots, the free list and
-- FILLED afterwards
pub steps : (n : ℕ) (old free : List ℕ) (F : ℕ) → ((use_slots n old (record { free = free; filled = F })).0 ≡ new_slots old free F n)
    × (free_each (drop n old) (use_slots n old (record { free = free; filled = F })).1 ≡ record { free = free_after old free n; filled = filled_after old free F n })
unfolding free_after left_over
steps n old free F =
    let r = used n old free F in (
      r.0,
      ap (free_each (drop n old)) r.1 ∙ freed (drop n old) (free_left old free n) (filled_after old free F n)
          ∙ ap (λ (l : List ℕ). pool l (filled_after old free F n)) (reverse_aux-eq (drop n old) (free_left old free n)),
    )

-- the stores of freed slots
pub free_steps_store : (l free : List ℕ) (F : ℕ) → free_each_stores l (record { free = free; filled = F }) ≡ free_stores (head_d free 0) l
unfolding free_each_stores free_one free_stores head_d
free_steps_store [] free F = refl
free_steps_store (x ∷ l) free F = ap (λ (ws : List Store). (x, free_slot (head_d free 0)) ∷ ws) (free_steps_store l (x ∷ free) F)

-- Slots taken one at a time: n + 1 new slots are the next one and n of what is left (`new_next`), and what is left over, what is left
-- free and FILLED come out the same (`left_over_next`, `free_left_next`, `filled_next`). The next one is in none of what is left (`next_once`).
use mathlib.Core.Path.{◌≡◌, refl, sym, ap, ◌∙◌}
use mathlib.Core.List.{List, [], ◌∷◌}
use Prim.Native.Nat.{ℕ, suc, ◌+◌, ◌≤◌}
use native.Mathlib.Nat.{sub-zero, suc-sub-suc}
use native.Mathlib.Omega.{arith}
use native.Mathlib.Decide.{dec_lt}
use lib.Seq.{drop-nil}
use Rattle.definition.specs.Effect.{new_slots, left_over, free_left, filled_after}
use Rattle.definition.specs.Sound.{hit, occ}
use Rattle.laws.proofs.Conditions.{by_order}
use Rattle.laws.proofs.Counting.{hit_same, hit_other, In, in_above}
use Rattle.laws.proofs.Distinct.{Apart}
use Rattle.laws.proofs.Steps.{take_slot, use_slots, steps}

-- the old chain, the free list and FILLED
pub record Source : Type 0 where
  pub old : List ℕ
  pub free : List ℕ
  pub filled : ℕ

abbrev source : List ℕ → List ℕ → ℕ → Source
source old free F = record { old = old; free = free; filled = F }

-- the next slot: of the old chain, else of the free list, else FILLED; and what is left
unfoldable pub next_slot : List ℕ → List ℕ → ℕ → ℕ
next_slot (y ∷ old) free F = y
next_slot [] (y ∷ free) F = y
next_slot [] [] F = F

unfoldable pub after_next : List ℕ → List ℕ → ℕ → Source
after_next (y ∷ old) free F = source old free F
after_next [] (y ∷ free) F = source [] free F
after_next [] [] F = source [] [] (suc F)

-- ---- the closed forms, one slot at a time

pub new_next : (old free : List ℕ) (F k : ℕ)
    → new_slots old free F (suc k) ≡ next_slot old free F ∷ new_slots (after_next old free F).old (after_next old free F).free (after_next old free F).filled k
unfolding next_slot after_next use_slots take_slot
new_next (y ∷ old) free F k = sym (steps (suc k) (y ∷ old) free F).0 ∙ ap (λ (l : List ℕ). y ∷ l) (steps k old free F).0
new_next [] (y ∷ free) F k = sym (steps (suc k) [] (y ∷ free) F).0 ∙ ap (λ (l : List ℕ). y ∷ l) (steps k [] free F).0
new_next [] [] F k = sym (steps (suc k) [] [] F).0 ∙ ap (λ (l : List ℕ). F ∷ l) (steps k [] [] (suc F)).0

pub left_over_next : (old free : List ℕ) (F k : ℕ) → left_over old (suc k) ≡ left_over (after_next old free F).old k
unfolding after_next left_over
left_over_next (y ∷ old) free F k = refl
left_over_next [] (y ∷ free) F k = sym (drop-nil k)
left_over_next [] [] F k = sym (drop-nil k)

pub free_left_next : (old free : List ℕ) (F k : ℕ) → free_left old free (suc k) ≡ free_left (after_next old free F).old (after_next old free F).free k
unfolding after_next free_left
free_left_next (y ∷ old) free F k = rw suc-sub-suc refl
free_left_next [] (y ∷ free) F k = simp sub-zero refl
free_left_next [] [] F k = simp (sub-zero, drop-nil) refl

pub filled_next : (old free : List ℕ) (F k : ℕ)
    → filled_after old free F (suc k) ≡ filled_after (after_next old free F).old (after_next old free F).free (after_next old free F).filled k
unfolding after_next filled_after
filled_next (y ∷ old) free F k = omega arith
filled_next [] (y ∷ free) F k = omega arith
filled_next [] [] F k = omega arith

-- ---- the next slot is met once

next_count : (old free : List ℕ) (F i : ℕ)
    → hit i (next_slot old free F) + (occ i (after_next old free F).old + occ i (after_next old free F).free) ≤ occ i old + occ i free + hit i F
unfolding next_slot after_next occ
next_count (y ∷ old) free F i = omega arith
next_count [] (y ∷ free) F i = omega arith
next_count [] [] F i = omega arith

-- what is left holds nothing new
pub next_fewer : (old free : List ℕ) (F i : ℕ) → occ i (after_next old free F).old + occ i (after_next old free F).free ≤ occ i old + occ i free
unfolding after_next occ
next_fewer (y ∷ old) free F i = omega arith
next_fewer [] (y ∷ free) F i = omega arith
next_fewer [] [] F i = omega arith

hit_most : (i x : ℕ) → hit i x ≤ 1
hit_most i x =
    by_order x i (λ b. omega (arith, hit_other i x (omega arith))) (λ (e : i ≡ x). rw e (omega (arith, hit_same x))) (λ b. omega (arith, hit_other i x (omega arith)))

pub next_once : (old free : List ℕ) (F : ℕ) → In F old → In F free → Apart old free
    → (i : ℕ) → hit i (next_slot old free F) + (occ i (after_next old free F).old + occ i (after_next old free F).free) ≤ 1
next_once old free F io fi once i = elim (dec_lt i F) [
  | yes q ↦ omega (arith, next_count old free F i, once i, hit_other i F (omega arith))
  | no q ↦ omega (arith, next_count old free F i, hit_most i F, in_above F old io i (omega arith), in_above F free fi i (omega arith))
]

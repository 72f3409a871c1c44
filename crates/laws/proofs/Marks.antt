-- Marks tell the kinds of slots apart: a size that a slot can hold is no mark (`small_no_mark`), a continuation is neither free nor
-- a head, and a slot marked free starts no chain (`free_idle`). A pair of bytes is read as the number that it spells.
use mathlib.Core.Path.{◌≡◌, refl, ap, ap₂, ◌∙◌}
use Prim.Native.Nat.{ℕ, ◌-◌, ◌≤◌}
use native.Mathlib.Omega.{arith}
use mathlib.Core.Bool.{true, false, not}
use mathlib.Core.List.{List, [], ◌∷◌}
use lib.ListN.{take}
use lib.Dec.{eqb}
use borrow.Author.Tests.{eq-eqb, eqb-true}
use Rattle.definition.specs.declared.Settings.{Settings}
use Rattle.definition.specs.Numbers.{le, num, same_bytes}
use Rattle.definition.specs.Settings.{word_bytes, largest_size}
use Rattle.definition.specs.Slots.{free_mark, continuation_mark, head_mark, compressed_mark, marked, is_free, is_continuation, is_head, size_word, size_of, starts}
use Rattle.laws.proofs.Conditions.{cond_yes, cond_no, which, Which, is_yes, is_no, yes-no, or_no, and_yes, and_split}

-- ---- the same bytes

pub same_bytes_refl : (l : List ℕ) → same_bytes l l ≡ true
unfolding same_bytes
same_bytes_refl [] = refl
same_bytes_refl (x ∷ l) = and_yes (eqb x x) (same_bytes l l) (eq-eqb x x refl) (same_bytes_refl l)

pub same_bytes_eq : (l m : List ℕ) → same_bytes l m ≡ true → l ≡ m
unfolding same_bytes
same_bytes_eq [] [] e = refl
same_bytes_eq [] (y ∷ m) e = yes-no false e refl
same_bytes_eq (x ∷ l) [] e = yes-no false e refl
same_bytes_eq (x ∷ l) (y ∷ m) e =
    let b = and_split (eqb x y) (same_bytes l m) e in
    ap₂ (λ (a : ℕ) (k : List ℕ). a ∷ k) (eqb-true x y b.0) (same_bytes_eq l m b.1)

-- ---- a marked slot

pub marked_is : (mark b : List ℕ) → marked mark b ≡ true → take word_bytes b ≡ mark
unfolding marked
marked_is mark b e = same_bytes_eq (take word_bytes b) mark e

-- the size word of a marked slot is the number that the mark spells
pub marked_word : (mark b : List ℕ) → marked mark b ≡ true → size_word b ≡ le mark
unfolding size_word num
marked_word mark b e = ap le (marked_is mark b e)

-- a mark is not there if its number is not
pub unmarked : (mark b : List ℕ) → (size_word b ≡ le mark → ⊥) → marked mark b ≡ false
unmarked mark b n = go (which (marked mark b))
  where
    go : Which (marked mark b) → marked mark b ≡ false
    go (is_yes e) = absurd (n (marked_word mark b e))
    go (is_no e) = e

-- neither the free mark, nor a head's, nor a continuation's
pub record NoMark (b : List ℕ) : Type 0 where
  pub not_free : is_free b ≡ false
  pub not_head : is_head b ≡ false
  pub not_continuation : is_continuation b ≡ false

-- a size that a slot can hold is no mark
pub small_no_mark : (E : ℕ) (b : List ℕ) → E ≤ largest_size → size_of b ≤ E - word_bytes → NoMark b
unfolding size_of is_free is_head is_continuation le
small_no_mark E b h k = record {
  not_free = unmarked free_mark b (λ e. omega arith);
  not_head = or_no (marked head_mark b) (marked compressed_mark b) (unmarked head_mark b (λ e. omega arith)) (unmarked compressed_mark b (λ e. omega arith));
  not_continuation = unmarked continuation_mark b (λ e. omega arith);
}

pub continuation_not_free : (b : List ℕ) → is_continuation b ≡ true → is_free b ≡ false
unfolding is_free is_continuation le
continuation_not_free b e = let w = marked_word continuation_mark b e in unmarked free_mark b (λ k. omega arith)

pub continuation_not_head : (b : List ℕ) → is_continuation b ≡ true → is_head b ≡ false
unfolding is_head is_continuation le
continuation_not_head b e =
    let w = marked_word continuation_mark b e in
    or_no (marked head_mark b) (marked compressed_mark b) (unmarked head_mark b (λ k. omega arith)) (unmarked compressed_mark b (λ k. omega arith))

pub free_not_head : (b : List ℕ) → is_free b ≡ true → is_head b ≡ false
unfolding is_free is_head le
free_not_head b e =
    let w = marked_word free_mark b e in
    or_no (marked head_mark b) (marked compressed_mark b) (unmarked head_mark b (λ k. omega arith)) (unmarked compressed_mark b (λ k. omega arith))

-- ---- where chains start

pub starts_multi : (s : Settings) (b : List ℕ) → s.multipart ≡ true → starts s b ≡ is_head b
unfolding starts
starts_multi s b m = cond_yes s.multipart (is_head b) (not (is_free b)) m

pub starts_fixed : (s : Settings) (b : List ℕ) → s.multipart ≡ false → starts s b ≡ not (is_free b)
unfolding starts
starts_fixed s b m = cond_no s.multipart (is_head b) (not (is_free b)) m

-- a slot marked free starts no chain
pub free_idle : (s : Settings) (b : List ℕ) → is_free b ≡ true → starts s b ≡ false
free_idle s b e = go (which s.multipart)
  where
    go : Which s.multipart → starts s b ≡ false
    go (is_yes m) = starts_multi s b m ∙ free_not_head b e
    go (is_no m) = starts_fixed s b m ∙ ap not e

pub starts_not_free : (s : Settings) (b : List ℕ) → starts s b ≡ true → is_free b ≡ false
starts_not_free s b h = go (which (is_free b))
  where
    go : Which (is_free b) → is_free b ≡ false
    go (is_yes e) = yes-no (starts s b) h (free_idle s b e)
    go (is_no e) = e

-- An ordered list of tests gives the first refusal: where the tests before one pass and it refuses, its number is the answer, and
-- where the answer is 0 every test passes.
use mathlib.Core.Path.{◌≡◌, refl, sym, ap, ◌∙◌}
use mathlib.Core.Bool.{Bool, true, false}
use mathlib.Core.List.{List, [], ◌∷◌, ◌++◌}
use Prim.Native.Nat.{ℕ, zero, suc, ◌<◌}
use native.Mathlib.Omega.{arith}
use Rattle.definition.specs.declared.Refusal.{Refusal}
use Rattle.definition.specs.declared.Refusal.TheVariants.{Settings, Buffer, Header, Key, Uncounted, Value, Slot, Absent, Size, Chain, FreeList, Room, Output}
use Rattle.definition.specs.Tests.{number_of, refuse, first}

pub refuse_yes : (n : ℕ) (b : Bool) → b ≡ true → refuse n b ≡ n
unfolding refuse
refuse_yes n b e = rw e refl

pub refuse_no : (n : ℕ) (b : Bool) → b ≡ false → refuse n b ≡ 0
unfolding refuse
refuse_no n b e = rw e refl

-- a test that passes, of a refusal's number, did not meet its condition
pub passed : (n : ℕ) (b : Bool) → 0 < n → refuse n b ≡ 0 → b ≡ false
unfolding refuse
passed n true h e = absurd (omega arith)
passed n false h e = refl

-- a test that passes is skipped
pub first_skip : (a : ℕ) (ns : List ℕ) → a ≡ 0 → first (a ∷ ns) ≡ first ns
unfolding first
first_skip a ns e = rw e refl

-- a test that refuses answers
pub first_stop : (a : ℕ) (ns : List ℕ) → 0 < a → first (a ∷ ns) ≡ a
unfolding first
first_stop zero ns h = absurd (omega arith)
first_stop (suc n) ns h = refl

-- where all pass, the first and all others do
pub first_pass : (a : ℕ) (ns : List ℕ) → first (a ∷ ns) ≡ 0 → (a ≡ 0) × (first ns ≡ 0)
unfolding first
first_pass zero ns e = (refl, e)
first_pass (suc n) ns e = absurd (omega arith)

-- the same first test, then lists that answer alike
pub first_cons : (a : ℕ) (ns ms : List ℕ) → first ns ≡ first ms → first (a ∷ ns) ≡ first (a ∷ ms)
unfolding first
first_cons zero ns ms e = e
first_cons (suc n) ns ms e = refl

-- tests one after another are tests of their answers
pub first_append : (ns ms : List ℕ) → first (ns ++ ms) ≡ first (first ns ∷ ms)
unfolding first
first_append [] ms = refl
first_append (zero ∷ ns) ms = first_append ns ms
first_append (suc n ∷ ns) ms = refl

-- where two lots pass one after another, both do
pub first_both : (ns ms : List ℕ) → first (ns ++ ms) ≡ 0 → (first ns ≡ 0) × (first ms ≡ 0)
first_both ns ms e = first_pass (first ns) ms (sym (first_append ns ms) ∙ e)

-- a lot that passes is skipped
pub first_past : (ns ms : List ℕ) → first ns ≡ 0 → first (ns ++ ms) ≡ first ms
first_past ns ms e = first_append ns ms ∙ first_skip (first ns) ms e

pub first_one : (a : ℕ) → first (a ∷ []) ≡ a
unfolding first
first_one zero = refl
first_one (suc n) = refl

-- every refusal has a number above 0
pub number_some : (r : Refusal) → 0 < number_of r
number_some Settings = omega arith
number_some Buffer = omega arith
number_some Header = omega arith
number_some Key = omega arith
number_some Uncounted = omega arith
number_some Value = omega arith
number_some Slot = omega arith
number_some Absent = omega arith
number_some Size = omega arith
number_some Chain = omega arith
number_some FreeList = omega arith
number_some Room = omega arith
number_some Output = omega arith

-- a test that gives this refusal, and tests after it
pub first_refuses : (n a : ℕ) (ns : List ℕ) → a ≡ n → 0 < n → first (a ∷ ns) ≡ n
first_refuses n a ns e h = ap (λ (x : ℕ). first (x ∷ ns)) e ∙ first_stop n ns h

-- the same of tests that go together
pub first_refuse_all : (n : ℕ) (ns ms : List ℕ) → first ns ≡ n → 0 < n → first (ns ++ ms) ≡ n
first_refuse_all n ns ms e h = first_append ns ms ∙ first_refuses n (first ns) ms e h

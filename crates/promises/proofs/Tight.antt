-- Tight: no contract admits two outcomes. Of any two performances of a call, with the same arguments on tables of the same bytes, answer,
-- table and output coincide (`tight`); and an answer is one case of the code's `Result` (`…_one`), so the code's own answers coincide.
-- Two fixed reads of one lent table hand back one part of it, from the same place on (`same_part`).
use Prim.{tt}
use Prim.Native.Nat.{ℕ, ◌+◌}
use mathlib.Core.Path.{◌≡◌, refl, sym, ap, ap₂, ◌∙◌}
use mathlib.Core.Bool.{Bool, false, cond}
use lib.Dec.{eqb}
use Rattle.std.specs.Prelude.{Option, Some, None, Result, Ok, Err}
use contract.Lifetimes.{Lfts}
use Rattle.definition.specs.declared.Settings.{Settings}
use Rattle.definition.specs.declared.Refusal.{Refusal}
use Rattle.definition.specs.declared.Refusal.TheVariants.{Settings as BadSettings, Buffer, Header, Key, Uncounted, Value, Slot, Absent, Size, Chain, FreeList, Room, Output}
use Rattle.definition.specs.declared.Record.{Record}
use Rattle.definition.specs.Tests.{number_of}
use Rattle.definition.specs.Answers.{Answer, refusal, at, accepted, count, last_reference_answer, found, content, members, inserted_of, written_of, changed_of, found_of, free_count_of}
use Rattle.definition.specs.Calls.{part_start, read_fixed}
use Rattle.definition.specs.Run.{run}
use Rattle.slots.specs.Keys.{lent_key}
use Rattle.table.proofs.read_fixed.Reads as read-fixed-code
use Rattle.promises.proofs.Performed.{Lent, Performed, call_of, start_of, outcome_of, performed_is}

pub tight : {s : Settings} (p q : Performed s) → call_of p ≡ call_of q → start_of p ≡ start_of q → outcome_of p ≡ outcome_of q
tight {s} p q c t = performed_is p ∙ ap₂ (run s) c t ∙ sym (performed_is q)

-- the parts r and q that two fixed reads hand back, the table lent being one and the keys, if any, of the same bytes: one block of memory, one
-- place in it, the same bytes and so as many: all that a part lent by `&` has
pub same_part : (s : Settings) (table : Lent) (h : ℕ) (κ μ : Lfts 2) (key other : Option Lent) (r q : Lent) → lent_key key ≡ lent_key other
    → read-fixed-code.Post κ (table, (s, (h, (key, tt)))) r (table, (s, (h, (key, tt))))
    → read-fixed-code.Post μ (table, (s, (h, (other, tt)))) q (table, (s, (h, (other, tt)))) → (r.ref_ptr ≡ q.ref_ptr) × (r.now ≡ q.now)
same_part s table h κ μ key other r q k e f = (
  ap₂ (λ (block place : ℕ). (block, place)) (e.1.0 ∙ sym f.1.0)
      (e.1.1 ∙ ap (λ b. table.ref_ptr.1 + part_start s b h table.now) k ∙ sym f.1.1),
  e.0 ∙ ap (λ b. read_fixed s b h table.now) k ∙ sym f.0,
)

-- ---- the code's answers: each is one case of its `Result`

-- the refusal of a number
refusal_at : ℕ → Refusal
refusal_at n =
    cond (eqb n 1) BadSettings (
    cond (eqb n 2) Buffer (
    cond (eqb n 3) Header (
    cond (eqb n 4) Key (
    cond (eqb n 5) Uncounted (
    cond (eqb n 6) Value (
    cond (eqb n 7) Slot (
    cond (eqb n 8) Absent (
    cond (eqb n 9) Size (
    cond (eqb n 10) Chain (
    cond (eqb n 11) FreeList (
    cond (eqb n 12) Room (
    Output))))))))))))

refusal_back : (r : Refusal) → refusal_at (number_of r) ≡ r
unfolding refusal_at
refusal_back BadSettings = refl
refusal_back Buffer = refl
refusal_back Header = refl
refusal_back Key = refl
refusal_back Uncounted = refl
refusal_back Value = refl
refusal_back Slot = refl
refusal_back Absent = refl
refusal_back Size = refl
refusal_back Chain = refl
refusal_back FreeList = refl
refusal_back Room = refl
refusal_back Output = refl

-- a reading of answers that gives each case back says that an answer is of one case
one : {A : Type 0} (of : A → Answer) (back : Answer → A) → ((a : A) → back (of a) ≡ a) → (a b : A) → of a ≡ of b → a ≡ b
one of back e a b q = sym (e a) ∙ ap back q ∙ e b

-- an answer read by its kind: a refusal; else one number, what a read tells, or none of these
by_kind : {A : Type 0} → (ℕ → A) → (ℕ → Bool → ℕ → ℕ → A) → A → Answer → Result A Refusal
by_kind number tells other (refusal n) = Err (refusal_at n)
by_kind number tells other (at n) = Ok (number n)
by_kind number tells other accepted = Ok other
by_kind number tells other (count n) = Ok (number n)
by_kind number tells other last_reference_answer = Ok other
by_kind number tells other (found n m c v) = Ok (tells n m c v)
by_kind number tells other (content b) = Ok other
by_kind number tells other (members n) = Ok (number n)

pub inserted_one : (a b : Result ℕ Refusal) → inserted_of a ≡ inserted_of b → a ≡ b
unfolding by_kind
inserted_one = one inserted_of (by_kind (λ h. h) (λ n m c v. 0) 0) back
  where
    back : (a : Result ℕ Refusal) → by_kind (λ h. h) (λ n m c v. 0) 0 (inserted_of a) ≡ a
    back (Ok h) = refl
    back (Err r) = ap Err (refusal_back r)

pub written_one : (a b : Result Unit Refusal) → written_of a ≡ written_of b → a ≡ b
unfolding by_kind
written_one = one written_of (by_kind (λ n. tt) (λ n m c v. tt) tt) back
  where
    back : (a : Result Unit Refusal) → by_kind (λ n. tt) (λ n m c v. tt) tt (written_of a) ≡ a
    back (Ok u) = refl
    back (Err r) = ap Err (refusal_back r)

pub changed_one : (a b : Result (Option ℕ) Refusal) → changed_of a ≡ changed_of b → a ≡ b
unfolding by_kind
changed_one = one changed_of (by_kind (λ n. Some n) (λ n m c v. None) None) back
  where
    back : (a : Result (Option ℕ) Refusal) → by_kind (λ n. Some n) (λ n m c v. None) None (changed_of a) ≡ a
    back (Ok (Some n)) = refl
    back (Ok None) = refl
    back (Err r) = ap Err (refusal_back r)

-- what a read tells, as the code has it
abbrev record_of : ℕ → Bool → ℕ → ℕ → Record
record_of n m c v = record { len = n; mark = m; count = c; visits = v }

pub found_one : (a b : Result Record Refusal) → found_of a ≡ found_of b → a ≡ b
unfolding by_kind
found_one = one found_of (by_kind (λ n. record_of n false 0 0) record_of (record_of 0 false 0 0)) back
  where
    back : (a : Result Record Refusal) → by_kind (λ n. record_of n false 0 0) record_of (record_of 0 false 0 0) (found_of a) ≡ a
    back (Ok r) = refl
    back (Err r) = ap Err (refusal_back r)

pub free_count_one : (a b : Result ℕ Refusal) → free_count_of a ≡ free_count_of b → a ≡ b
unfolding by_kind
free_count_one = one free_count_of (by_kind (λ n. n) (λ n m c v. 0) 0) back
  where
    back : (a : Result ℕ Refusal) → by_kind (λ n. n) (λ n m c v. 0) 0 (free_count_of a) ≡ a
    back (Ok n) = refl
    back (Err r) = ap Err (refusal_back r)

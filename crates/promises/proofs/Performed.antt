-- A call that the code performed: what was lent and passed, what came back, and the code's own contract of the two, read as the toolchain
-- reads it (`Post`), wherever the lent buffers lie and however long they are lent. What is lent by `&` is the same afterwards: that is the
-- language's rule. That each function ends in such a performance, whatever it is given, is what the toolchain proves of it.
-- From here on it is a call, the table that it started from and its outcome, and that outcome is the definition's (`performed_is`).
use Prim.{tt}
use Prim.Native.Nat.{ℕ}
use lib.IntN.{ℤ}
use mathlib.Core.Path.{◌≡◌, ap}
use mathlib.Core.List.{List, []}
use mathlib.Core.Bool.{Bool}
use Rattle.std.specs.Prelude.{Option, Result}
use contract.Lifetimes.{Lfts}
use denote.Ref.{Bor, MutBor}
use Rattle.definition.specs.declared.Settings.{Settings}
use Rattle.definition.specs.declared.Refusal.{Refusal}
use Rattle.definition.specs.declared.Record.{Record}
use Rattle.definition.specs.Answers.{Answer, content, inserted_of, written_of, changed_of, found_of, free_count_of}
use Rattle.definition.specs.Calls.{Insert, Replace, Remove, Change, insert, replace, remove, change}
use Rattle.definition.specs.Ledger.{Read, ReadFixed, FindFixed, FreeCount, Call, Write, Look, Outcome, wrote, told}
use Rattle.definition.specs.Run.{run}
use Rattle.slots.specs.Keys.{lent_key}
use Rattle.table.proofs.insert.Reads as insert-code
use Rattle.table.proofs.replace.Reads as replace-code
use Rattle.table.proofs.remove.Reads as remove-code
use Rattle.table.proofs.change_count.Reads as change-count-code
use Rattle.table.proofs.read.Reads as read-code
use Rattle.table.proofs.read_fixed.Reads as read-fixed-code
use Rattle.table.proofs.find_fixed.Reads as find-fixed-code
use Rattle.table.proofs.free_count.Reads as free-count-code

-- bytes that are lent, and bytes that are lent to be written
abbrev pub Lent : Type 0
Lent = Bor (List ℕ)

abbrev pub LentMut : Type 0
LentMut = MutBor (List ℕ)

pub data Performed (s : Settings) : Type 0 where
  Inserting : (κ : Lfts 3) (table after : LentMut) (key value : Lent) (mark : Bool) (r : Result ℕ Refusal)
      → insert-code.Post κ (table, (s, (key, (value, (mark, tt))))) r (after, (s, (key, (value, (mark, tt))))) → Performed s
  Replacing : (κ : Lfts 3) (table after : LentMut) (h : ℕ) (key value : Lent) (mark : Bool) (r : Result Unit Refusal)
      → replace-code.Post κ (table, (s, (h, (key, (value, (mark, tt)))))) r (after, (s, (h, (key, (value, (mark, tt)))))) → Performed s
  Removing : (κ : Lfts 1) (table after : LentMut) (h : ℕ) (r : Result Unit Refusal)
      → remove-code.Post κ (table, (s, (h, tt))) r (after, (s, (h, tt))) → Performed s
  Changing : (κ : Lfts 1) (table after : LentMut) (h : ℕ) (step : ℤ) (r : Result (Option ℕ) Refusal)
      → change-count-code.Post κ (table, (s, (h, (step, tt)))) r (after, (s, (h, (step, tt)))) → Performed s
  Reading : (κ : Lfts 3) (table : Lent) (h : ℕ) (key : Option Lent) (output after : LentMut) (r : Result Record Refusal)
      → read-code.Post κ (table, (s, (h, (key, (output, tt))))) r (table, (s, (h, (key, (after, tt))))) → Performed s
  ReadingFixed : (κ : Lfts 2) (table : Lent) (h : ℕ) (key : Option Lent) (r : Lent)
      → read-fixed-code.Post κ (table, (s, (h, (key, tt)))) r (table, (s, (h, (key, tt)))) → Performed s
  FindingFixed : (κ : Lfts 2) (table : Lent) (h : ℕ) (key : Option Lent) (r : Result Record Refusal)
      → find-fixed-code.Post κ (table, (s, (h, (key, tt)))) r (table, (s, (h, (key, tt)))) → Performed s
  Counting : (κ : Lfts 1) (table : Lent) (r : Result ℕ Refusal)
      → free-count-code.Post κ (table, (s, tt)) r (table, (s, tt)) → Performed s

-- the call as the ledger knows it
abbrev pub call_of : {s : Settings} → Performed s → Call
call_of (Inserting κ table after key value mark r e) = Write (Insert key.now value.now mark)
call_of (Replacing κ table after h key value mark r e) = Write (Replace key.now value.now mark h)
call_of (Removing κ table after h r e) = Write (Remove h)
call_of (Changing κ table after h step r e) = Write (Change step h)
call_of (Reading κ table h key output after r e) = Look (Read (lent_key key) h output.now)
call_of (ReadingFixed κ table h key r e) = Look (ReadFixed (lent_key key) h)
call_of (FindingFixed κ table h key r e) = Look (FindFixed (lent_key key) h)
call_of (Counting κ table r e) = Look FreeCount

-- the table's bytes when it was called
abbrev pub start_of : {s : Settings} → Performed s → List ℕ
start_of (Inserting κ table after key value mark r e) = table.now
start_of (Replacing κ table after h key value mark r e) = table.now
start_of (Removing κ table after h r e) = table.now
start_of (Changing κ table after h step r e) = table.now
start_of (Reading κ table h key output after r e) = table.now
start_of (ReadingFixed κ table h key r e) = table.now
start_of (FindingFixed κ table h key r e) = table.now
start_of (Counting κ table r e) = table.now

-- what the code left: its answer, the table's bytes, the output's
abbrev pub outcome_of : {s : Settings} → Performed s → Outcome (List ℕ)
outcome_of (Inserting κ table after key value mark r e) = wrote (inserted_of r, after.now)
outcome_of (Replacing κ table after h key value mark r e) = wrote (written_of r, after.now)
outcome_of (Removing κ table after h r e) = wrote (written_of r, after.now)
outcome_of (Changing κ table after h step r e) = wrote (changed_of r, after.now)
outcome_of (Reading κ table h key output after r e) = told table.now (found_of r, after.now)
outcome_of (ReadingFixed κ table h key r e) = told table.now (content r.now, [])
outcome_of (FindingFixed κ table h key r e) = told table.now (found_of r, [])
outcome_of (Counting κ table r e) = told table.now (free_count_of r, [])

-- the contracts carry the definition to the code
pub performed_is : {s : Settings} (p : Performed s) → outcome_of p ≡ run s (call_of p) (start_of p)
unfolding run insert replace remove change
performed_is (Inserting κ table after key value mark r e) = ap wrote e
performed_is (Replacing κ table after h key value mark r e) = ap wrote e
performed_is (Removing κ table after h r e) = ap wrote e
performed_is (Changing κ table after h step r e) = ap wrote e
performed_is (Reading κ table h key output after r e) = ap (told table.now) e
performed_is (ReadingFixed κ table h key r e) = ap (λ (b : List ℕ). told table.now (content b, [])) e.0
performed_is (FindingFixed κ table h key r e) = ap (λ (a : Answer). told table.now (a, [])) e
performed_is (Counting κ table r e) = ap (λ (a : Answer). told table.now (a, [])) e

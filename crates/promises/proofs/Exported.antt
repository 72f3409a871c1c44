-- A C function that was called: what was lent and passed, what came back, and the function's own contract of the two, as in Performed.
-- `Returned` is what came back, a struct or a number; `said_by` reads an answer from it, as a caller in C does: a refusal where `number` is
-- not 0, else the members that the function has. From here on it is a call, the table that it started from and its outcome, and that outcome
-- is the definition's (`exported_is`). And what came back is the C form of that answer and nothing besides (`in_form`): what an answer does
-- not tell is zero. The fixed read and its companion are one C function: its call is the companion's, and StationParts says that the bytes
-- at the offset that it answers are the fixed read's.
use Prim.{tt}
use Prim.Native.Nat.{ℕ, zero, suc}
use lib.IntN.{ℤ}
use mathlib.Core.Path.{◌≡◌, refl, sym, ap, ap₂, ◌∙◌}
use mathlib.Core.List.{List, [], ◌∷◌, ◌++◌}
use lib.ListN.{length}
use mathlib.Core.Bool.{Bool, cond}
use mathlib.Core.Option.{Option, none, some}
use contract.Lifetimes.{Lfts}
use Rattle.definition.specs.declared.Settings.{Settings}
use Rattle.definition.specs.Tests.{first}
use Rattle.definition.specs.Numbers.{over}
use Rattle.definition.specs.Slots.{view, filled, count_of, mark_of}
use Rattle.definition.specs.Chains.{walk, content_of}
use Rattle.definition.specs.Answers.{Answer, refusal, at, accepted, count, last_reference_answer, found, members}
use Rattle.definition.specs.Calls.{capacity, table_tests, checked_key_test, chain_tests, output_test, unless, answer_unless, counted, Insert, Replace, Remove, Change, insert, replace, remove, change, checked_key, read, fixed_tests, look_fixed, find_fixed, free_count}
use Rattle.definition.specs.Ledger.{Read, ReadFixed, FindFixed, FreeCount, Call, Write, Look, Outcome, wrote, told}
use Rattle.definition.specs.Run.{run}
use Rattle.station.specs.declared.answers.PyltarkaSettings.{PyltarkaSettings}
use Rattle.station.specs.declared.answers.PyltarkaInserted.{PyltarkaInserted}
use Rattle.station.specs.declared.answers.PyltarkaChanged.{PyltarkaChanged}
use Rattle.station.specs.declared.answers.PyltarkaRecord.{PyltarkaRecord}
use Rattle.station.specs.declared.answers.PyltarkaPart.{PyltarkaPart}
use Rattle.station.specs.declared.answers.PyltarkaCounted.{PyltarkaCounted}
use Rattle.station.specs.Forms.{settings_of, number_in, inserted_in, changed_in, record_in, part_in, counted_in}
use Rattle.station.proofs.pyltarka_insert.Reads as insert-code
use Rattle.station.proofs.pyltarka_replace.Reads as replace-code
use Rattle.station.proofs.pyltarka_remove.Reads as remove-code
use Rattle.station.proofs.pyltarka_change_count.Reads as change-count-code
use Rattle.station.proofs.pyltarka_read.Reads as read-code
use Rattle.station.proofs.pyltarka_read_fixed.Reads as read-fixed-code
use Rattle.station.proofs.pyltarka_free_count.Reads as free-count-code
use Rattle.promises.proofs.Performed.{Lent, LentMut}

pub data Exported (s : PyltarkaSettings) : Type 0 where
  Inserting : (κ : Lfts 3) (table after : LentMut) (key value : Lent) (mark : Bool) (r : PyltarkaInserted)
      → insert-code.Post κ (table, (s, (key, (value, (mark, tt))))) r (after, (s, (key, (value, (mark, tt))))) → Exported s
  Replacing : (κ : Lfts 3) (table after : LentMut) (h : ℕ) (key value : Lent) (mark : Bool) (r : ℕ)
      → replace-code.Post κ (table, (s, (h, (key, (value, (mark, tt)))))) r (after, (s, (h, (key, (value, (mark, tt)))))) → Exported s
  Removing : (κ : Lfts 1) (table after : LentMut) (h : ℕ) (r : ℕ)
      → remove-code.Post κ (table, (s, (h, tt))) r (after, (s, (h, tt))) → Exported s
  Changing : (κ : Lfts 1) (table after : LentMut) (h : ℕ) (step : ℤ) (r : PyltarkaChanged)
      → change-count-code.Post κ (table, (s, (h, (step, tt)))) r (after, (s, (h, (step, tt)))) → Exported s
  Reading : (κ : Lfts 3) (table : Lent) (h : ℕ) (checked : Bool) (key : Lent) (output after : LentMut) (r : PyltarkaRecord)
      → read-code.Post κ (table, (s, (h, (checked, (key, (output, tt)))))) r (table, (s, (h, (checked, (key, (after, tt)))))) → Exported s
  ReadingFixed : (κ : Lfts 2) (table : Lent) (h : ℕ) (checked : Bool) (key : Lent) (r : PyltarkaPart)
      → read-fixed-code.Post κ (table, (s, (h, (checked, (key, tt))))) r (table, (s, (h, (checked, (key, tt))))) → Exported s
  Counting : (κ : Lfts 1) (table : Lent) (r : PyltarkaCounted)
      → free-count-code.Post κ (table, (s, tt)) r (table, (s, tt)) → Exported s

-- ---- what comes back, and what it says

pub data Returned : Type 0 where
  inserted : PyltarkaInserted → Returned
  number : ℕ → Returned
  changed : PyltarkaChanged → Returned
  copied : PyltarkaRecord → Returned
  part : PyltarkaPart → Returned
  listed : PyltarkaCounted → Returned

abbrev pub said_by : Returned → Answer
said_by (inserted r) = answer_unless r.number (at r.slot)
said_by (number n) = answer_unless n accepted
said_by (changed r) = answer_unless r.number (cond r.last_reference last_reference_answer (count r.count))
said_by (copied r) = answer_unless r.number (found r.length r.mark r.count r.visits)
said_by (part r) = answer_unless r.number (found r.length r.mark r.count r.visits)
said_by (listed r) = answer_unless r.number (members r.count)

-- the C form of a call's answer
abbrev pub form_of : Settings → Call → Answer → Returned
form_of s (Write (Insert key content mark)) a = inserted (inserted_in a)
form_of s (Write (Replace key content mark h)) a = number (number_in a)
form_of s (Write (Remove h)) a = number (number_in a)
form_of s (Write (Change step h)) a = changed (changed_in a)
form_of s (Look (Read key h out)) a = copied (record_in a)
form_of s (Look (ReadFixed key h)) a = part (part_in s h a)
form_of s (Look (FindFixed key h)) a = part (part_in s h a)
form_of s (Look FreeCount) a = listed (counted_in a)

-- ---- the call, the table's bytes when it was called, what came back, what was left

abbrev pub call_of : {s : PyltarkaSettings} → Exported s → Call
call_of (Inserting κ table after key value mark r e) = Write (Insert key.now value.now mark)
call_of (Replacing κ table after h key value mark r e) = Write (Replace key.now value.now mark h)
call_of (Removing κ table after h r e) = Write (Remove h)
call_of (Changing κ table after h step r e) = Write (Change step h)
call_of (Reading κ table h checked key output after r e) = Look (Read (checked_key checked key.now) h output.now)
call_of (ReadingFixed κ table h checked key r e) = Look (FindFixed (checked_key checked key.now) h)
call_of (Counting κ table r e) = Look FreeCount

abbrev pub start_of : {s : PyltarkaSettings} → Exported s → List ℕ
start_of (Inserting κ table after key value mark r e) = table.now
start_of (Replacing κ table after h key value mark r e) = table.now
start_of (Removing κ table after h r e) = table.now
start_of (Changing κ table after h step r e) = table.now
start_of (Reading κ table h checked key output after r e) = table.now
start_of (ReadingFixed κ table h checked key r e) = table.now
start_of (Counting κ table r e) = table.now

abbrev pub returned_of : {s : PyltarkaSettings} → Exported s → Returned
returned_of (Inserting κ table after key value mark r e) = inserted r
returned_of (Replacing κ table after h key value mark r e) = number r
returned_of (Removing κ table after h r e) = number r
returned_of (Changing κ table after h step r e) = changed r
returned_of (Reading κ table h checked key output after r e) = copied r
returned_of (ReadingFixed κ table h checked key r e) = part r
returned_of (Counting κ table r e) = listed r

abbrev pub outcome_of : {s : PyltarkaSettings} → Exported s → Outcome (List ℕ)
outcome_of (Inserting κ table after key value mark r e) = wrote (said_by (inserted r), after.now)
outcome_of (Replacing κ table after h key value mark r e) = wrote (said_by (number r), after.now)
outcome_of (Removing κ table after h r e) = wrote (said_by (number r), after.now)
outcome_of (Changing κ table after h step r e) = wrote (said_by (changed r), after.now)
outcome_of (Reading κ table h checked key output after r e) = told table.now (said_by (copied r), after.now)
outcome_of (ReadingFixed κ table h checked key r e) = told table.now (said_by (part r), [])
outcome_of (Counting κ table r e) = told table.now (said_by (listed r), [])

-- ---- the contracts carry the definition to the C functions

-- an answer read back from its C form: the call's own, and each refusal that a test gives
back : (form : Answer → Returned) (m : ℕ) (old : List ℕ) (out : Answer × List ℕ) → said_by (form out.0) ≡ out.0 → ((n : ℕ) → said_by (form (refusal (suc n))) ≡ refusal (suc n))
    → said_by (form (unless m old out).0) ≡ (unless m old out).0
unfolding unless
back form zero old out own refused = own
back form (suc m) old out own refused = refused m

answer_back : (form : Answer → Returned) (m : ℕ) (a : Answer) → said_by (form a) ≡ a → ((n : ℕ) → said_by (form (refusal (suc n))) ≡ refusal (suc n))
    → said_by (form (answer_unless m a)) ≡ answer_unless m a
unfolding answer_unless
answer_back form zero a own refused = own
answer_back form (suc m) a own refused = refused m

count_back : (s : Settings) (h : ℕ) (b : List ℕ) (n : Option ℕ) → said_by (changed (changed_in (counted s h b n).0)) ≡ (counted s h b n).0
unfolding counted answer_unless
count_back s h b none = refl
count_back s h b (some c) = refl

members_back : (n : ℕ) → said_by (listed (counted_in (members n))) ≡ members n
unfolding answer_unless
members_back n = refl

unlisted_back : (n : ℕ) → said_by (listed (counted_in (refusal (suc n)))) ≡ refusal (suc n)
unfolding answer_unless
unlisted_back n = refl

free_back : (s : Settings) (t : List ℕ) → said_by (listed (counted_in (free_count s t))) ≡ free_count s t
unfolding free_count
free_back s t = answer_back (λ a. listed (counted_in a)) _ _ (members_back _) unlisted_back

part_back : (s : Settings) (h len c visits : ℕ) (mark : Bool) → said_by (part (part_in s h (found len mark c visits))) ≡ found len mark c visits
unfolding answer_unless
part_back s h len c visits mark = refl

unpart_back : (s : Settings) (h n : ℕ) → said_by (part (part_in s h (refusal (suc n)))) ≡ refusal (suc n)
unfolding answer_unless
unpart_back s h n = refl

fixed_back : (s : Settings) (key : Option (List ℕ)) (h : ℕ) (t : List ℕ) → said_by (part (part_in s h (find_fixed s key h t))) ≡ find_fixed s key h t
unfolding find_fixed look_fixed
fixed_back s key h t =
    let f = view s.size t in
    let content = content_of s f (h ∷ []) in
    back (λ a. part (part_in s h a)) (first (fixed_tests s key h t)) [] (found (length content) (mark_of s (f h)) (count_of s (f h)) 1, content) (part_back s h (length content) (count_of s (f h)) 1 (mark_of s (f h))) (unpart_back s h)

copied_back : (len c visits : ℕ) (mark : Bool) → said_by (copied (record_in (found len mark c visits))) ≡ found len mark c visits
unfolding answer_unless
copied_back len c visits mark = refl

uncopied_back : (n : ℕ) → said_by (copied (record_in (refusal (suc n)))) ≡ refusal (suc n)
unfolding answer_unless
uncopied_back n = refl

read_back : (s : Settings) (key : Option (List ℕ)) (h : ℕ) (t out : List ℕ) → said_by (copied (record_in (read s key h t out).0)) ≡ (read s key h t out).0
unfolding read
read_back s key h t out =
    let f = view s.size t in
    let slots = (walk s f (filled f) h).slots in
    let content = content_of s f slots in
    back (λ a. copied (record_in a)) (first (table_tests s f (capacity s t) ++ (checked_key_test s key ∷ chain_tests s f h key) ++ (output_test content out ∷ []))) out (found (length content) (mark_of s (f h)) (count_of s (f h)) (length slots), over content out) (copied_back (length content) (count_of s (f h)) (length slots) (mark_of s (f h))) uncopied_back

pub exported_is : {s : PyltarkaSettings} (p : Exported s) → outcome_of p ≡ run (settings_of s) (call_of p) (start_of p)
unfolding run insert replace remove change answer_unless
exported_is (Inserting κ table after key value mark r e) =
    ap₂ (λ (a : Answer) (t : List ℕ). wrote (a, t)) (ap said_by (ap inserted e.0) ∙ back (λ a. inserted (inserted_in a)) _ _ _ refl (λ n. refl)) e.1
exported_is (Replacing κ table after h key value mark r e) =
    ap₂ (λ (a : Answer) (t : List ℕ). wrote (a, t)) (ap said_by (ap number e.0) ∙ back (λ a. number (number_in a)) _ _ _ refl (λ n. refl)) e.1
exported_is (Removing κ table after h r e) =
    ap₂ (λ (a : Answer) (t : List ℕ). wrote (a, t)) (ap said_by (ap number e.0) ∙ back (λ a. number (number_in a)) _ _ _ refl (λ n. refl)) e.1
exported_is (Changing κ table after h step r e) =
    ap₂ (λ (a : Answer) (t : List ℕ). wrote (a, t)) (ap said_by (ap changed e.0) ∙ back (λ a. changed (changed_in a)) _ _ _ (count_back _ _ _ _) (λ n. refl)) e.1
exported_is {s} (Reading κ table h checked key output after r e) =
    ap₂ (λ (a : Answer) (t : List ℕ). told table.now (a, t)) (ap said_by (ap copied e.0) ∙ read_back (settings_of s) (checked_key checked key.now) h table.now output.now) e.1
exported_is {s} (ReadingFixed κ table h checked key r e) =
    ap (λ (a : Answer). told table.now (a, [])) (ap said_by (ap part e) ∙ fixed_back (settings_of s) (checked_key checked key.now) h table.now)
exported_is (Counting κ table r e) =
    ap (λ (a : Answer). told table.now (a, [])) (ap said_by (ap listed e) ∙ free_back _ _)

-- what the contracts say of what came back
returned_is : {s : PyltarkaSettings} (p : Exported s) → returned_of p ≡ form_of (settings_of s) (call_of p) (run (settings_of s) (call_of p) (start_of p)).answer
unfolding run insert replace remove change
returned_is (Inserting κ table after key value mark r e) = ap inserted e.0
returned_is (Replacing κ table after h key value mark r e) = ap number e.0
returned_is (Removing κ table after h r e) = ap number e.0
returned_is (Changing κ table after h step r e) = ap changed e.0
returned_is (Reading κ table h checked key output after r e) = ap copied e.0
returned_is (ReadingFixed κ table h checked key r e) = ap part e
returned_is (Counting κ table r e) = ap listed e

pub in_form : {s : PyltarkaSettings} (p : Exported s) → returned_of p ≡ form_of (settings_of s) (call_of p) (outcome_of p).answer
in_form {s} p = returned_is p ∙ ap (λ (o : Outcome (List ℕ)). form_of (settings_of s) (call_of p) o.answer) (sym (exported_is p))

-- The plain ledger of demand 3: chains with slots, key, content, mark and count, the free slots in order, FILLED.
-- Each call is a step on the ledger alone, which knows no mark of a slot, no link and no offset. It shares with the calls on tables what
-- is not layout: the tests of key, value, count, room and output, into how many parts a content is cut, which slots a call takes and
-- frees (`new_slots`, `free_after`, `filled_after`, which are 01's steps one slot at a time: `steps`, crates/laws/proofs/Steps.antt), and
-- the new count. How a table is read as a ledger is said in Run.
use Rattle.std.specs.Prelude.{ℕ, ◌-◌, Bool, cond, ◌&&◌, ◌||◌, not, ℤ, length, eqb, leb}
use mathlib.Core.List.{List, [], ◌∷◌, ◌++◌, head_d}
use Rattle.std.proofs.Math.Option.{Option, none, some}
use Rattle.definition.specs.declared.Settings.{Settings}
use Rattle.definition.specs.Numbers.{same_bytes, over}
use Rattle.definition.specs.Tests.{refuse, first}
use Rattle.definition.specs.Slots.{partial_key}
use Rattle.definition.specs.Parts.{prefix, pieces}
use Rattle.definition.specs.Effect.{new_slots, free_after, filled_after}
use Rattle.definition.specs.Answers.{Answer, refusal, at, accepted, count, last_reference_answer, found, content, members}
use Rattle.definition.specs.Calls.{key_test, checked_key_test, uncounted_test, value_test, room_test, output_test, unless, new_count, Writing, Insert, Replace, Remove, Change}

pub record Chain : Type 0 where
  pub slots : List ℕ
  pub key : List ℕ
  pub content : List ℕ
  pub mark : Bool
  pub count : ℕ

pub record Ledger : Type 0 where
  -- the chain that starts at a slot, if one does
  pub chains : ℕ → Option Chain
  pub free : List ℕ
  pub filled : ℕ

-- ---- the calls

-- a call that only looks, with its arguments: the key that it checks, if it checks one, slot, lent output
pub data Looking : Type 0 where
  Read : Option (List ℕ) → ℕ → List ℕ → Looking
  ReadFixed : Option (List ℕ) → ℕ → Looking
  FindFixed : Option (List ℕ) → ℕ → Looking
  FreeCount : Looking

pub data Call : Type 0 where
  Write : Writing → Call
  Look : Looking → Call

-- what a call leaves: its answer, the table or ledger afterwards, the output afterwards (empty where a call has none)
pub record Outcome (X : Type 0) : Type 0 where
  pub answer : Answer
  pub after : X
  pub output : List ℕ

abbrev pub wrote : {X : Type 0} → Answer × X → Outcome X
wrote r = record { answer = r.0; after = r.1; output = [] }

abbrev pub told : {X : Type 0} → X → Answer × List ℕ → Outcome X
told x r = record { answer = r.0; after = x; output = r.1 }

-- ---- each call on a ledger

-- L with this chain at h, or none, and these free slots and FILLED
unfoldable pub with_chain : Ledger → ℕ → Option Chain → List ℕ → ℕ → Ledger
with_chain L h c free F = record { chains = λ i. cond (eqb i h) c (L.chains i); free = free; filled = F }

unfoldable pub new_chain : Settings → List ℕ → List ℕ → Bool → List ℕ → Option Chain
new_chain s k c m slots = some (record { slots = slots; key = cond s.keyed (partial_key k) []; content = c; mark = m; count = 1 })

unfoldable pub slots_in : Option Chain → List ℕ
slots_in none = []
slots_in (some c) = c.slots

-- 8: no chain starts there
unfoldable pub absent_test : Option Chain → ℕ
absent_test none = 8
absent_test (some c) = 0

-- 7 and 8: the slot is none in use, or no chain starts there
unfoldable pub chain_test : Ledger → ℕ → ℕ
chain_test L h = first (refuse 7 (eqb h 0 || leb L.filled h) ∷ absent_test (L.chains h) ∷ [])

-- 8: the checked key differs
unfoldable pub ledger_key_test : Settings → Option (List ℕ) → Option Chain → ℕ
ledger_key_test s k none = 0
ledger_key_test s none (some c) = 0
ledger_key_test s (some k) (some c) = refuse 8 (s.keyed && not (same_bytes c.key (partial_key k)))

unfoldable pub content_in : Option Chain → List ℕ
content_in none = []
content_in (some c) = c.content

unfoldable pub found_in : Option Chain → Answer
found_in none = refusal 8
found_in (some c) = found (length c.content) c.mark c.count (length c.slots)

unfoldable pub recount : ℕ → Chain → Chain
recount n c = record { slots = c.slots; key = c.key; content = c.content; mark = c.mark; count = n }

unfoldable pub ledger_counted : Ledger → ℕ → Chain → Option ℕ → Answer × Ledger
ledger_counted L h c none = (last_reference_answer, L)
ledger_counted L h c (some n) = (count n, with_chain L h (some (recount n c)) L.free L.filled)

unfoldable pub ledger_change : Ledger → ℕ → ℤ → Option Chain → Answer × Ledger
ledger_change L h d none = (refusal 8, L)
ledger_change L h d (some c) = ledger_counted L h c (new_count c.count d)

-- the head whose chain a call may change: only this chain's slots, and free or unused ones, are written
unfoldable pub target : Settings → Call → Ledger → ℕ
target s (Write (Insert k c m)) L = head_d (new_slots [] L.free L.filled (length (pieces s (prefix s k ++ c)))) 0
target s (Write (Replace k c m h)) L = h
target s (Write (Remove h)) L = h
target s (Write (Change d h)) L = h
target s (Look c) L = 0

-- the tests of a read on a ledger
abbrev pub ledger_read_tests : Settings → Option (List ℕ) → ℕ → Ledger → List ℕ
ledger_read_tests s k h L = checked_key_test s k ∷ chain_test L h ∷ ledger_key_test s k (L.chains h) ∷ []

-- the fixed read and its companion on a ledger
unfoldable pub ledger_fixed : Settings → Option (List ℕ) → ℕ → Ledger → Answer × List ℕ
ledger_fixed s k h L = unless (first (refuse 1 s.multipart ∷ ledger_read_tests s k h L)) [] (found_in (L.chains h), content_in (L.chains h))

-- a writing call on a ledger; cap is the table's capacity. 2, 3, 9, 10 and 11 cannot occur, since the table is
-- sound, and 1 only where a multipart table is read as a fixed one
abbrev pub ledger_write : Settings → ℕ → Writing → Ledger → Answer × Ledger
ledger_write s cap (Insert k c m) L =
    let n = length (pieces s (prefix s k ++ c)) in
    let new = new_slots [] L.free L.filled n in
    let out : Answer × Ledger =
    (at (head_d new 0), with_chain L (head_d new 0) (new_chain s k c m new) (free_after [] L.free n) (filled_after [] L.free L.filled n)) in
    unless (first (key_test s k ∷ value_test s c ∷ room_test cap L.filled L.free n ∷ [])) L out
ledger_write s cap (Replace k c m h) L =
    let n = length (pieces s (prefix s k ++ c)) in
    let old = slots_in (L.chains h) in
    let new = new_slots old L.free L.filled n in
    let out : Answer × Ledger =
    (accepted, with_chain L h (new_chain s k c m new) (free_after old L.free n) (filled_after old L.free L.filled n)) in
    unless (first (key_test s k ∷ value_test s c ∷ chain_test L h ∷ room_test cap L.filled L.free (n - length old) ∷ [])) L out
ledger_write s cap (Remove h) L =
    let old = slots_in (L.chains h) in
    let out : Answer × Ledger = (accepted, with_chain L h none (free_after old L.free 0) (filled_after old L.free L.filled 0)) in
    unless (chain_test L h) L out
ledger_write s cap (Change d h) L = unless (first (uncounted_test s ∷ chain_test L h ∷ [])) L (ledger_change L h d (L.chains h))

-- a looking call on a ledger: its answer, and the output afterwards
abbrev pub ledger_look : Settings → Looking → Ledger → Answer × List ℕ
ledger_look s (Read k h out) L =
    let answer : Answer × List ℕ = (found_in (L.chains h), over (content_in (L.chains h)) out) in
    unless (first (ledger_read_tests s k h L ++ (output_test (content_in (L.chains h)) out ∷ []))) out answer
ledger_look s (ReadFixed k h) L = (content (ledger_fixed s k h L).1, [])
ledger_look s (FindFixed k h) L = ((ledger_fixed s k h L).0, [])
ledger_look s FreeCount L = (members (length L.free), [])

-- a call on a ledger
unfoldable pub ledger_step : Settings → ℕ → Call → Ledger → Outcome Ledger
ledger_step s cap (Write w) L = wrote (ledger_write s cap w L)
ledger_step s cap (Look c) L = told L (ledger_look s c L)

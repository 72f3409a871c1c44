-- The dummies that 01 names, "How tight the contracts are", are shut out. For each there is an input on which the outcome that the
-- contract fixes is not the dummy's (`dummies_shut_out`, one claim over the whole list, by computation); and on any input the code's
-- outcome is the definition's (`as_defined`), so no code that meets the contracts is such a dummy.
use Prim.Native.Nat.{ℕ}
use mathlib.Core.Path.{◌≡◌, refl, ap₂, ◌∙◌}
use mathlib.Core.Bool.{Bool, true, false, not}
use mathlib.Core.List.{List, [], ◌∷◌, head_d}
use mathlib.Core.Option.{none, some}
use lib.IntN.{pos}
use lib.Dec.{eqb}
use lib.ListN.{replicate}
use Rattle.definition.specs.declared.Settings.{Settings}
use Rattle.definition.specs.Numbers.{le, bytes, num, over, put, same_bytes, range}
use Rattle.definition.specs.Tests.{refuse, first}
use Rattle.definition.specs.Settings.{count_len, key_len, prefix_len, head_overhead, start_overhead, bad_settings}
use Rattle.definition.specs.Slots.{view, last_removed, filled, marked, is_free, is_continuation, is_head, size_word, size_of, top_bit, total_of, head_link, link_of, starts, count_of, key_of, mark_of, start_body, partial_key, store}
use Rattle.definition.specs.FreeList.{push, free_from, free_list, members_of}
use Rattle.definition.specs.Chains.{unless_refused, key_differs, head_fault, last_fault, later_parse, is_last, onward, parts_from, sized_body, rest_body, body_of, content_of, total_good, with_total, walk}
use Rattle.definition.specs.Parts.{prefix, cut_rest, cut, pieces, sized_part, continuation_part, stored_total, head_part, free_slot, rest_stores, chain_stores, free_stores}
use Rattle.definition.specs.Effect.{new_slots, left_over, free_left, free_after, filled_after, header_store, header_stores, effect}
use Rattle.definition.specs.Calls.{capacity, settings_test, buffer_test, header_test, key_test, checked_key_test, uncounted_test, value_test, slot_test, free_list_test, room_test, output_test, unless, answer_unless, lowered, new_count, count_store, counted, Insert, Replace, Remove, Change, read, fixed_tests, look_fixed, read_fixed, find_fixed, free_count}
use Rattle.definition.specs.Ledger.{Read, ReadFixed, FindFixed, FreeCount, Call, Write, Look, Outcome}
use Rattle.definition.specs.Run.{run}
use Rattle.definition.specs.Figures.{numbers, every}
use Rattle.promises.proofs.Performed.{Performed, call_of, start_of, outcome_of, performed_is}

-- what the code did is what the definition says of the call and the table
pub as_defined : {s : Settings} (p : Performed s) (c : Call) (t : List ℕ) → call_of p ≡ c → start_of p ≡ t → outcome_of p ≡ run s c t
as_defined {s} p c t e f = performed_is p ∙ ap₂ (run s) e f

-- ---- the tables

-- E = 64, counted and keyed
fixed : Settings
fixed = record { size = 64; multipart = false; counted = true; keyed = true }

multi : Settings
multi = record { size = 4096; multipart = true; counted = false; keyed = false }

key : List ℕ
key = replicate 32 9

fresh : List ℕ
fresh = replicate 256 0

-- two records that differ in content, mark and count; then the first is gone
two : List ℕ
two = (run fixed (Write (Change (pos 1) 2)) (run fixed (Write (Insert key (5 ∷ 6 ∷ []) true)) (run fixed (Write (Insert key (4 ∷ []) false)) fresh).after).after).after

one : List ℕ
one = (run fixed (Write (Remove 1)) two).after

-- a chain of two parts
chained : List ℕ
chained = (run multi (Write (Insert [] (replicate 4095 7) false)) (replicate 12288 0)).after

room : List ℕ
room = replicate 8 0

-- ---- what an outcome is not

-- a refusal's first number is 0
accepts : Call → List ℕ → Bool
accepts c t = not (eqb (head_d (numbers (run fixed c t).answer) 0) 0)

-- a call changes the table
writes : Call → List ℕ → Bool
writes c t = not (same_bytes (run fixed c t).after t)

-- two outcomes tell other numbers, or leave another output
tells_apart : Outcome (List ℕ) → Outcome (List ℕ) → Bool
tells_apart a b = not (same_bytes (numbers a.answer) (numbers b.answer))

leaves_apart : Outcome (List ℕ) → Outcome (List ℕ) → Bool
leaves_apart a b = not (same_bytes a.output b.output)

pub dummies : List Bool
dummies =
    -- one that refuses everything: each call is accepted somewhere, and the fixed read hands back a part that is not empty
    accepts (Write (Insert key (4 ∷ []) false)) fresh
    ∷ accepts (Write (Replace key (4 ∷ []) false 1)) two
    ∷ accepts (Write (Remove 1)) two
    ∷ accepts (Write (Change (pos 1) 1)) two
    ∷ accepts (Look (Read (some key) 1 room)) two
    ∷ accepts (Look (FindFixed (some key) 1)) two
    ∷ tells_apart (run fixed (Look (ReadFixed (some key) 1)) two) (run fixed (Look (ReadFixed (some key) 0)) two)
    ∷ accepts (Look FreeCount) two
    -- one that answers every read alike
    ∷ tells_apart (run fixed (Look (Read none 1 room)) two) (run fixed (Look (Read none 2 room)) two)
    ∷ leaves_apart (run fixed (Look (Read none 1 room)) two) (run fixed (Look (Read none 2 room)) two)
    ∷ tells_apart (run fixed (Look (ReadFixed none 1)) two) (run fixed (Look (ReadFixed none 2)) two)
    ∷ tells_apart (run fixed (Look (FindFixed none 1)) two) (run fixed (Look (FindFixed none 2)) two)
    -- one that never writes, and one that inserts all and then ignores replace or remove
    ∷ writes (Write (Insert key (4 ∷ []) false)) fresh
    ∷ writes (Write (Replace key (8 ∷ []) false 1)) two
    ∷ writes (Write (Remove 1)) two
    ∷ writes (Write (Change (pos 1) 1)) two
    ∷ not (same_bytes (run fixed (Look (Read none 1 room)) two).output room)
    -- one that invents the visits, or the free count: they are not the same everywhere
    ∷ same_bytes (numbers (run multi (Look (Read none 1 (replicate 4095 0))) chained).answer) (5 ∷ 4095 ∷ 0 ∷ 1 ∷ 2 ∷ [])
    ∷ same_bytes (numbers (run fixed (Look (Read none 1 room)) two).answer) (5 ∷ 1 ∷ 0 ∷ 1 ∷ 1 ∷ [])
    ∷ tells_apart (run fixed (Look FreeCount) two) (run fixed (Look FreeCount) one)
    ∷ []

pub dummies_shut_out : every dummies ≡ true
unfolding head_d le bytes num over put same_bytes range refuse first count_len key_len prefix_len head_overhead start_overhead bad_settings view last_removed filled marked is_free is_continuation is_head size_word size_of top_bit total_of head_link link_of starts count_of key_of mark_of start_body partial_key store push free_from free_list members_of unless_refused key_differs head_fault last_fault later_parse is_last onward parts_from sized_body rest_body body_of content_of total_good with_total walk prefix cut_rest cut pieces sized_part continuation_part stored_total head_part free_slot rest_stores chain_stores free_stores new_slots left_over free_left free_after filled_after header_store header_stores effect capacity settings_test buffer_test header_test key_test checked_key_test uncounted_test value_test slot_test free_list_test room_test output_test unless answer_unless lowered new_count count_store counted read fixed_tests look_fixed read_fixed find_fixed free_count run numbers every fixed multi key fresh two one chained room accepts writes tells_apart leaves_apart dummies
dummies_shut_out = refl

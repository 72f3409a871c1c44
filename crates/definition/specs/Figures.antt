-- Document 01's figures marked (P), "Figures either side", as one list with a single claim over the whole list, by computation;
-- then, in the same way, "Readings that look right and are not", each as the figure that it gets wrong, and two more of that kind.
use Rattle.std.specs.Prelude.{◌≡◌, refl, ℕ, ◌+◌, ◌%◌, Bool, true, false, cond, ◌&&◌, pos, negsuc, length, take, drop, replicate}
use mathlib.Core.List.{List, [], ◌∷◌, ◌++◌, head_d, map}
use Rattle.definition.specs.declared.Settings.{Settings}
use Rattle.definition.specs.Numbers.{le, bytes, num, over, put, same_bytes, range}
use Rattle.definition.specs.Tests.{refuse, first}
use Rattle.definition.specs.Settings.{count_len, key_len, prefix_len, head_overhead, start_overhead, bad_settings}
use Rattle.definition.specs.Slots.{view, last_removed, filled, marked, is_free, is_continuation, is_head, size_word, size_of, top_bit, total_of, head_link, link_of, starts, count_of, key_of, mark_of, start_body, partial_key, store}
use Rattle.definition.specs.FreeList.{push, free_from, free_list, members_of}
use Rattle.definition.specs.Chains.{unless_refused, key_differs, head_fault, last_fault, later_parse, is_last, onward, parts_from, sized_body, rest_body, body_of, content_of, total_good, with_total, walk}
use Rattle.definition.specs.Parts.{prefix, cut_rest, cut, pieces, sized_part, continuation_part, stored_total, head_part, free_slot, rest_stores, chain_stores, free_stores}
use Rattle.definition.specs.Effect.{new_slots, left_over, free_left, free_after, filled_after, header_store, header_stores, effect}
use Rattle.definition.specs.Answers.{Answer, refusal, at, accepted, count, last_reference_answer, found, content, members}
use Rattle.definition.specs.Calls.{capacity, settings_test, buffer_test, header_test, key_test, uncounted_test, value_test, slot_test, free_list_test, room_test, unless, insert, replace, remove, lowered, new_count, count_store, counted, change}

-- ---- the tables and calls of the figures

abbrev Out : Type 0
Out = Answer × List ℕ

zeros : ℕ → List ℕ
zeros n = replicate n 0

-- no two bytes of the key alike, so that it shows which are stored
hash : List ℕ
hash = range 0 32

-- E = 32, and E = 64 counted and keyed
small : Settings
small = record { size = 32; multipart = false; counted = false; keyed = false }

entry64 : Settings
entry64 = record { size = 64; multipart = false; counted = true; keyed = true }

-- multipart, counted and keyed, and neither
full : Settings
full = record { size = 4096; multipart = true; counted = true; keyed = true }

bare : Settings
bare = record { size = 4096; multipart = true; counted = false; keyed = false }

-- n bytes inserted
ins : Settings → ℕ → Bool → List ℕ → Out
ins s n mark t = insert s hash (replicate n 7) mark t

-- an answer as numbers
unfoldable pub numbers : Answer → List ℕ
numbers (refusal n) = 0 ∷ n ∷ []
numbers (at h) = 1 ∷ h ∷ []
numbers accepted = 2 ∷ []
numbers (count n) = 3 ∷ n ∷ []
numbers last_reference_answer = 4 ∷ []
numbers (found n m c v) = 5 ∷ n ∷ cond m 1 0 ∷ c ∷ v ∷ []
numbers (content c) = 6 ∷ c
numbers (members n) = 7 ∷ n ∷ []

-- a call gave this answer; the bytes from place i on are these; the whole table is
answers : Out → Answer → Bool
answers o a = same_bytes (numbers o.0) (numbers a)

holds : Out → ℕ → List ℕ → Bool
holds o i e = same_bytes (take (length e) (drop i o.1)) e

whole : Out → List ℕ → Bool
whole o e = same_bytes o.1 e

-- what is shown of an outcome, which is computed once
shown : Out → (Out → Bool) → Bool
shown o f = f o

-- FILLED after a call: with one chain in a fresh table, one more than its parts
parts : Out → ℕ → Bool
parts o n = holds o 8 (bytes 8 (n + 1))

-- E = 32: insert 41 42, then remove 1
inserted : Out
inserted = insert small [] (0x41 ∷ 0x42 ∷ []) false (zeros 64)

removed : Out
removed = remove small 1 inserted.1

-- fixed: insert 1, 2, 3, remove 1, remove 3, insert three times
thinned : List ℕ
thinned = (remove small 3 (remove small 1 (ins small 3 false (ins small 3 false (ins small 3 false (zeros 160)).1).1).1).1).1

again₁ : Out
again₁ = ins small 5 false thinned

again₂ : Out
again₂ = ins small 5 false again₁.1

again₃ : Out
again₃ = ins small 5 false again₂.1

-- multipart contents either side of a boundary
m4065 : Out
m4065 = ins full 4065 false (zeros 12288)

m8142 : Out
m8142 = ins full 8142 false (zeros 12288)

m8143 : Out
m8143 = ins full 8143 false (zeros 16384)

-- a chain 1-2-3-4 replaced by a content of two parts
four : Out
four = ins bare 12259 false (zeros 20480)

shortened : Out → Out
shortened o = replace bare [] (replicate 5000 8) true 1 o.1

-- a count of 5, and one of 0xfffffffe
five : List ℕ
five = (change entry64 (pos 4) 1 (ins entry64 3 false (zeros 128)).1).1

top : List ℕ
top = (change entry64 (pos 2147483646) 1 (change entry64 (pos 2147483643) 1 five).1).1

-- ---- the figures marked (P)

pub figures : List Bool
figures =
    (answers inserted (at 1) && whole inserted (zeros 8 ++ (0x02 ∷ zeros 23 ++ (0x02 ∷ 0x00 ∷ 0x41 ∷ 0x42 ∷ zeros 28))))
    ∷ (answers removed accepted && whole removed (0x01 ∷ zeros 7 ++ (0x02 ∷ zeros 23 ++ (0xff ∷ 0xff ∷ zeros 30))))
    ∷ holds (ins entry64 32 false (zeros 128)) 64 (0x3e ∷ 0x00 ∷ [])
    ∷ holds (ins entry64 32 true (zeros 128)) 64 (0x3e ∷ 0x80 ∷ [])
    ∷ answers (ins entry64 33 false (zeros 128)) (refusal 6)
    ∷ answers (ins full 4064 false (zeros 12288)) (refusal 6)
    ∷ shown m4065 (λ o. parts o 2 && holds o 4098 (0xe1 ∷ 0x0f ∷ zeros 6) && holds o 8192 (0x11 ∷ 0x00 ∷ []))
    ∷ shown m8142 (λ o. parts o 2 && holds o 8192 (0xfe ∷ 0x0f ∷ []))
    ∷ shown m8143 (λ o. parts o 3 && holds o 12288 (0x09 ∷ 0x00 ∷ []))
    ∷ (answers again₁ (at 3) && answers again₂ (at 1) && answers again₃ (at 4))
    ∷ shown four (λ o. parts o 4 && shown (shortened o) (λ r. answers r accepted && holds r 0 (0x04 ∷ zeros 7)
    && holds r 16384 (0xff ∷ 0xff ∷ 0x03 ∷ zeros 7) && holds r 12288 (0xff ∷ 0xff ∷ zeros 8)))
    ∷ answers (change entry64 (negsuc 4) 1 five) last_reference_answer
    ∷ answers (change entry64 (negsuc 3) 1 five) (count 1)
    ∷ answers (change entry64 (pos 0) 1 five) (count 5)
    ∷ (answers (change entry64 (pos 0) 1 top) (count 0xffff_fffe) && answers (change entry64 (pos 1) 1 top) (count 0xffff_ffff))
    ∷ answers (change entry64 (negsuc 0) 1 (change entry64 (pos 1) 1 top).1) (count 0xffff_ffff)
    ∷ []

unfoldable pub every : List Bool → Bool
every [] = true
every (b ∷ bs) = b && every bs

pub figures_hold : every figures ≡ true
unfolding head_d le bytes num over put same_bytes range refuse first count_len key_len prefix_len head_overhead start_overhead bad_settings view last_removed filled marked is_free is_continuation is_head size_word size_of top_bit total_of head_link link_of starts count_of key_of mark_of start_body partial_key store push free_from free_list members_of unless_refused key_differs head_fault last_fault later_parse is_last onward parts_from sized_body rest_body body_of content_of total_good with_total walk prefix cut_rest cut pieces sized_part continuation_part stored_total head_part free_slot rest_stores chain_stores free_stores new_slots left_over free_left free_after filled_after header_store header_stores effect capacity settings_test buffer_test header_test key_test uncounted_test value_test slot_test free_list_test room_test unless insert replace remove lowered new_count count_store counted change numbers answers holds whole parts zeros hash small entry64 full bare ins inserted removed thinned again₁ again₂ again₃ m4065 m8142 m8143 four shortened shown five top figures every
figures_hold = refl

-- ---- the readings that look right and are not

-- a content that counts up, so that it shows in what order it is stored; in one slot, and in two parts
counting : ℕ → List ℕ
counting n = map (λ i. i % 256) (range 0 n)

plain : Out
plain = insert entry64 hash (counting 5) false (zeros 128)

spread : Out
spread = insert full hash (counting 4065) false (zeros 12288)

-- E = 64: count 5, then replaced
replaced : Out
replaced = replace entry64 hash (replicate 4 8) false 1 five

pub readings : List Bool
readings =
    -- the total counts content only, not the prefix; and the last part goes on where the head left off, which holds 4,078 bytes, 30 of
    -- them the prefix
    shown spread (λ o. holds o 4098 (bytes 8 4065) && holds o 4144 (take 4048 (counting 4065)) && holds o 8194 (drop 4048 (counting 4065)))
    -- a leftover tail is freed from its first part: slot 4 is on top and links 3
    ∷ holds (shortened four) 16386 (bytes 8 3)
    -- a step of -1 takes one off; cast to unsigned before its sign is tested, it would lock
    ∷ answers (change entry64 (negsuc 0) 1 five) (count 4)
    -- the rest fits a last part up to 4,094: 8,140 bytes take two parts; with 4,086 they would take three
    ∷ parts (ins full 8140 false (zeros 12288)) 2
    -- a replace makes the count 1 again
    ∷ (holds replaced 66 (bytes 4 1) && answers (change entry64 (pos 0) 1 replaced.1) (count 1))
    -- of the key its bytes 6 to 31 are stored, after the count, and the content after them
    ∷ holds plain 66 (bytes 4 1 ++ (range 6 26 ++ range 0 5))
    ∷ []

pub readings_hold : every readings ≡ true
unfolding head_d le bytes num over put same_bytes range refuse first count_len key_len prefix_len head_overhead start_overhead bad_settings view last_removed filled marked is_free is_continuation is_head size_word size_of top_bit total_of head_link link_of starts count_of key_of mark_of start_body partial_key store push free_from free_list members_of unless_refused key_differs head_fault last_fault later_parse is_last onward parts_from sized_body rest_body body_of content_of total_good with_total walk prefix cut_rest cut pieces sized_part continuation_part stored_total head_part free_slot rest_stores chain_stores free_stores new_slots left_over free_left free_after filled_after header_store header_stores effect capacity settings_test buffer_test header_test key_test uncounted_test value_test slot_test free_list_test room_test unless insert replace remove lowered new_count count_store counted change numbers answers holds whole parts zeros hash small entry64 full bare ins four shortened shown five counting plain spread replaced readings every
readings_hold = refl

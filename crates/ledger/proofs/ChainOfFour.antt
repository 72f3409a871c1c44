-- 01's figure with chain 1-2-3-4: the table with that chain is sound (`four_sound`), and so is the one after its replacement by a content
-- of two parts (`two_sound`). The chains 1-2-3-4 and then 1-2, with 4 and 3 free, are computed (`figure_chains`).
use mathlib.Core.Path.{◌≡◌, refl, ◌∙◌}
use Prim.Native.Nat.{ℕ}
use native.Mathlib.Omega.{arith}
use mathlib.Core.Bool.{true, false}
use mathlib.Core.List.{List, [], ◌∷◌, head_d}
use lib.ListN.{length, take, replicate, length-replicate}
use Rattle.definition.specs.declared.Settings.{Settings}
use Rattle.definition.specs.Numbers.{le, bytes, num, over, put, same_bytes, range}
use Rattle.definition.specs.Tests.{refuse, first}
use Rattle.definition.specs.Settings.{count_len, key_len, prefix_len, head_overhead, start_overhead, bad_settings}
use Rattle.definition.specs.Slots.{view, last_removed, filled, marked, is_free, is_continuation, is_head, size_word, size_of, top_bit, total_of, head_link, link_of, starts, count_of, key_of, mark_of, partial_key, store}
use Rattle.definition.specs.FreeList.{push, free_from, free_list, members_of}
use Rattle.definition.specs.Chains.{unless_refused, key_differs, head_fault, last_fault, later_parse, is_last, onward, parts_from, sized_body, rest_body, body_of, content_of, total_good, with_total, walk}
use Rattle.definition.specs.Parts.{prefix, cut_rest, cut, pieces, sized_part, continuation_part, stored_total, head_part, free_slot, rest_stores, chain_stores, free_stores}
use Rattle.definition.specs.Effect.{new_slots, left_over, free_left, free_after, filled_after, header_store, header_stores, effect}
use Rattle.definition.specs.Calls.{capacity, settings_test, buffer_test, header_test, key_test, value_test, slot_test, free_list_test, room_test, unless, Insert, Replace}
use Rattle.definition.specs.Sound.{starts_at, chain_at, Sound}
use Rattle.definition.specs.Ledger.{Write}
use Rattle.definition.specs.Run.{run}
use Rattle.ledger.proofs.OneCall.{call_agrees}
use Rattle.ledger.proofs.Fresh.{fresh_sound}

-- multipart, neither counted nor keyed; five slots of zeros
unfoldable pub bare : Settings
bare = record { size = 4096; multipart = true; counted = false; keyed = false }

unfoldable pub zeros : List ℕ
zeros = replicate 20480 0

-- a content of four parts is inserted, then replaced by one of two
unfoldable pub four : List ℕ
four = (run bare (Write (Insert [] (replicate 12259 7) false)) zeros).after

unfoldable pub two : List ℕ
two = (run bare (Write (Replace [] (replicate 5000 8) true 1)) four).after

zeros_long : length zeros ≡ 20480
unfolding zeros
zeros_long = length-replicate {A = ℕ} 20480 0

zeros_sound : Sound bare zeros
unfolding bare bad_settings capacity zeros
zeros_sound = fresh_sound bare zeros refl (omega arith) front
  where
    front : take 16 zeros ≡ replicate 16 0
    front = refl

pub four_sound : Sound bare four
unfolding four
four_sound = (call_agrees bare (Write (Insert [] (replicate 12259 7) false)) zeros zeros_sound (rw zeros_long (omega arith))).sound

pub two_sound : Sound bare two
unfolding two four
two_sound =
    let a = call_agrees bare (Write (Insert [] (replicate 12259 7) false)) zeros zeros_sound (rw zeros_long (omega arith)) in
    let long : length four ≡ 20480 = a.long ∙ zeros_long in
    (call_agrees bare (Write (Replace [] (replicate 5000 8) true 1)) four four_sound (rw long (omega arith))).sound

-- the chains, and the free list after the replacement
pub figure_chains : (chain_at bare (view bare.size four) 1 ≡ 1 ∷ 2 ∷ 3 ∷ 4 ∷ [])
    × (chain_at bare (view bare.size two) 1 ≡ 1 ∷ 2 ∷ []) × (members_of (free_list (view bare.size two)) ≡ 4 ∷ 3 ∷ [])
unfolding bare zeros four two chain_at starts_at run head_d le bytes num over put same_bytes range refuse first count_len key_len prefix_len head_overhead start_overhead bad_settings view last_removed filled marked is_free is_continuation is_head size_word size_of top_bit total_of head_link link_of starts count_of key_of mark_of partial_key store push free_from free_list members_of unless_refused key_differs head_fault last_fault later_parse is_last onward parts_from sized_body rest_body body_of content_of total_good with_total walk prefix cut_rest cut pieces sized_part continuation_part stored_total head_part free_slot rest_stores chain_stores free_stores new_slots left_over free_left free_after filled_after header_store header_stores effect capacity settings_test buffer_test header_test key_test value_test slot_test free_list_test room_test unless
figure_chains = (refl, refl, refl)

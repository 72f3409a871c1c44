-- The calls: each an ordered list of tests, then its effect. Document 01, "Steps of each call" and "Numbers the station sees".
-- A refused call answers its number and changes nothing. `h` is the slot number that a call is given, `t` the table's bytes, `f` its slots.
use Rattle.std.specs.Prelude.{ℕ, zero, suc, ◌+◌, ◌-◌, ◌*◌, ◌/◌, min, Bool, false, cond, ◌&&◌, ◌||◌, not, ℤ, pos, negsuc, length, eqb, leb, ltb}
use mathlib.Core.List.{List, [], ◌∷◌, ◌++◌, head_d}
use Rattle.std.proofs.Math.Option.{Option, none, some}
use Rattle.definition.specs.declared.Settings.{Settings}
use Rattle.definition.specs.Numbers.{bytes, over, put}
use Rattle.definition.specs.Tests.{refuse, first}
use Rattle.definition.specs.Settings.{word_bytes, count_bytes, hash_bytes, prefix_len, start_overhead, bad_settings}
use Rattle.definition.specs.Slots.{View, view, last_removed, filled, count_of, mark_of, start_body, Store, store}
use Rattle.definition.specs.FreeList.{free_list, members_of}
use Rattle.definition.specs.Chains.{head_fault, walk, content_of}
use Rattle.definition.specs.Parts.{prefix, pieces}
use Rattle.definition.specs.Effect.{new_slots, effect}
use Rattle.definition.specs.Answers.{Answer, refusal, at, accepted, count, last_reference_answer, found, members}

-- ---- the tests, each with its number

-- the slots that fit into the table; bytes after the last whole slot belong to none
unfoldable pub capacity : Settings → List ℕ → ℕ
capacity s t = length t / s.size

unfoldable pub settings_test : Settings → ℕ
settings_test s = refuse 1 (bad_settings s)

unfoldable pub buffer_test : ℕ → ℕ
buffer_test cap = refuse 2 (eqb cap 0)

-- LAST_REMOVED not below FILLED, or FILLED above capacity
unfoldable pub header_test : View → ℕ → ℕ
header_test f cap = refuse 3 (leb (filled f) (last_removed f) || ltb cap (filled f))

unfoldable pub key_test : Settings → List ℕ → ℕ
key_test s key = refuse 4 (s.keyed && not (eqb (length key) hash_bytes))

-- the same where a read may check a key
unfoldable pub checked_key_test : Settings → Option (List ℕ) → ℕ
checked_key_test s none = 0
checked_key_test s (some key) = key_test s key

unfoldable pub uncounted_test : Settings → ℕ
uncounted_test s = refuse 5 (not s.counted)

-- N is content plus prefix. Fixed: N above E - 2; multipart: N at most E - 2
unfoldable pub value_test : Settings → List ℕ → ℕ
value_test s content =
    let N = prefix_len s + length content in
    refuse 6 (cond s.multipart (leb N (s.size - word_bytes)) (ltb (s.size - word_bytes) N))

unfoldable pub slot_test : View → ℕ → ℕ
slot_test f h = refuse 7 (eqb h 0 || leb (filled f) h)

unfoldable pub free_list_test : Option (List ℕ) → ℕ
free_list_test none = 11
free_list_test (some l) = 0

-- the new slots needed exceed the free ones and the unused ones at the end
unfoldable pub room_test : ℕ → ℕ → List ℕ → ℕ → ℕ
room_test cap F free need = refuse 12 (ltb (length free + (cap - F)) need)

unfoldable pub output_test : List ℕ → List ℕ → ℕ
output_test content out = refuse 13 (ltb (length out) (length content))

-- ---- tests that go together, in 01's order

-- 1, 2 and 3
abbrev pub table_tests : Settings → View → ℕ → List ℕ
table_tests s f cap = settings_test s ∷ buffer_test cap ∷ header_test f cap ∷ []

-- 4 and 6
abbrev pub value_tests : Settings → List ℕ → List ℕ → List ℕ
value_tests s key content = key_test s key ∷ value_test s content ∷ []

-- 7, then the head (8, 9), then the parts in chain order and the total (9, 10)
abbrev pub chain_tests : Settings → View → ℕ → Option (List ℕ) → List ℕ
chain_tests s f h key = slot_test f h ∷ head_fault s key 8 (f h) ∷ (walk s f (filled f) h).fault ∷ []

-- ---- refused or not

-- the answer and what changes, or, where a test refuses, its number and what was there
unfoldable pub unless : {X : Type 0} → ℕ → X → Answer × X → Answer × X
unless zero old out = out
unless (suc n) old out = (refusal (suc n), old)

-- the same of a call that leaves nothing but its answer
unfoldable pub answer_unless : ℕ → Answer → Answer
answer_unless zero a = a
answer_unless (suc n) a = refusal (suc n)

-- ---- where a call that writes takes new slots from

-- 01 knows one such place, the table's own free list (`supply_of`); the calls below are written for any
pub record Supply : Type 0 where
  -- from these in order, then from FILLED up
  pub free : List ℕ
  -- the tests of the table
  pub table : List ℕ
  -- the tests of the free list
  pub list : List ℕ
  -- the tests of the room for so many new slots
  pub room : ℕ → List ℕ

-- the table's own free list, which is walked whole: 1, 2 and 3; 11; 12
abbrev pub supply_of : Settings → List ℕ → Supply
supply_of s t =
    let f = view s.size t in
    let cap = capacity s t in
    let free = members_of (free_list f) in
    record {
      free = free;
      table = table_tests s f cap;
      list = free_list_test (free_list f) ∷ [];
      room = λ need. room_test cap (filled f) free need ∷ [];
    }

-- 11 and 12
abbrev pub room_tests : Supply → ℕ → List ℕ
room_tests p need = p.list ++ p.room need

-- ---- the count

-- the locked count: it never changes again
abbrev pub locked : ℕ
locked = 0xffff_ffff

-- m taken off: a locked count stays (four bytes spell no more than the lock); `none` where nothing is left
unfoldable pub lowered : ℕ → ℕ → Option ℕ
lowered c m = cond (leb locked c) (some locked) (cond (leb c m) none (some (c - m)))

-- a positive step adds, stopping at the lock; a zero or negative one takes its magnitude off. negsuc n is the step -(n + 1)
unfoldable pub new_count : ℕ → ℤ → Option ℕ
new_count c (pos zero) = lowered c 0
new_count c (pos (suc n)) = some (min locked (c + suc n))
new_count c (negsuc n) = lowered c (suc n)

-- a count stored in slot h with these bytes: the slot's body, the new count in its place
unfoldable pub count_store : Settings → ℕ → List ℕ → ℕ → Store
count_store s h b c = (h, put (start_body s b) (start_overhead s) (bytes count_bytes c))

-- what is answered and stored: the new count, or nothing where nothing is left
unfoldable pub counted : Settings → ℕ → List ℕ → Option ℕ → Answer × List Store
counted s h b none = (last_reference_answer, [])
counted s h b (some c) = (count c, count_store s h b c ∷ [])

-- ---- insert, replace, remove and change of the count

-- a call that writes, with its arguments: key, content, mark, slot, step
pub data Writing : Type 0 where
  Insert : List ℕ → List ℕ → Bool → Writing
  Replace : List ℕ → List ℕ → Bool → ℕ → Writing
  Remove : ℕ → Writing
  Change : ℤ → ℕ → Writing

-- what such a call comes to: its tests in 01's order; where none refuses, its answer and its stores
pub record Decision : Type 0 where
  pub tests : List ℕ
  pub answer : Answer
  pub stores : List Store

-- each call, f being the table's slots and p where it takes new ones from
abbrev pub decide : Settings → Supply → View → Writing → Decision
-- insert takes its slots in chain order and answers the head's slot
decide s p f (Insert key content mark) =
    let ps = pieces s (prefix s key ++ content) in
    record {
      tests = p.table ++ (value_tests s key content ++ room_tests p (length ps));
      answer = at (head_d (new_slots [] p.free (filled f) (length ps)) 0);
      stores = effect s mark (length content) ps [] p.free (filled f);
    }
-- replace uses the old chain's slots in order, takes more if short, frees what is left over; the count is 1 again, key and mark are new
decide s p f (Replace key content mark h) =
    let old = (walk s f (filled f) h).slots in
    let ps = pieces s (prefix s key ++ content) in
    record {
      tests = p.table ++ (value_tests s key content ++ (chain_tests s f h none ++ room_tests p (length ps - length old)));
      answer = accepted;
      stores = effect s mark (length content) ps old p.free (filled f);
    }
-- remove frees the head first, then each part in order
decide s p f (Remove h) =
    let old = (walk s f (filled f) h).slots in
    record {
      tests = p.table ++ (chain_tests s f h none ++ p.list);
      answer = accepted;
      stores = effect s false 0 [] old p.free (filled f);
    }
-- change stops at the head: the later parts are not walked
decide s p f (Change step h) =
    let out = counted s h (f h) (new_count (count_of s (f h)) step) in
    record {
      tests = p.table ++ (uncounted_test s ∷ slot_test f h ∷ head_fault s none 8 (f h) ∷ []);
      answer = out.0;
      stores = out.1;
    }

-- what a call comes to on the table t
abbrev pub decision : Settings → Writing → List ℕ → Decision
decision s w t = decide s (supply_of s t) (view s.size t) w

-- carried out on it: the stores are laid into the table, unless a test refuses
abbrev pub carry_out : Settings → Decision → List ℕ → Answer × List ℕ
carry_out s d t = unless (first d.tests) t (d.answer, store s.size t d.stores)

abbrev pub write : Settings → Writing → List ℕ → Answer × List ℕ
write s w t = carry_out s (decision s w t) t

-- the four by their names
unfoldable pub insert : Settings → List ℕ → List ℕ → Bool → List ℕ → Answer × List ℕ
insert s key content mark t = write s (Insert key content mark) t

unfoldable pub replace : Settings → List ℕ → List ℕ → Bool → ℕ → List ℕ → Answer × List ℕ
replace s key content mark h t = write s (Replace key content mark h) t

unfoldable pub remove : Settings → ℕ → List ℕ → Answer × List ℕ
remove s h t = write s (Remove h) t

unfoldable pub change : Settings → ℤ → ℕ → List ℕ → Answer × List ℕ
change s step h t = write s (Change step h) t

-- ---- reading

-- the key that a read checks, if it checks one
abbrev pub checked_key : Bool → List ℕ → Option (List ℕ)
checked_key checked key = cond checked (some key) none

-- the copying read: content length, mark, count and visits, and the output with the content laid over its front
unfoldable pub read : Settings → Option (List ℕ) → ℕ → List ℕ → List ℕ → Answer × List ℕ
read s key h t out =
    let f = view s.size t in
    let slots = (walk s f (filled f) h).slots in
    let content = content_of s f slots in
    let answer : Answer × List ℕ = (found (length content) (mark_of s (f h)) (count_of s (f h)) (length slots), over content out) in
    unless (first (table_tests s f (capacity s t) ++ (checked_key_test s key ∷ chain_tests s f h key) ++ (output_test content out ∷ []))) out answer

-- the fixed read and its companion: on a multipart table both give 1
unfoldable pub fixed_tests : Settings → Option (List ℕ) → ℕ → List ℕ → List ℕ
fixed_tests s key h t =
    let f = view s.size t in
    refuse 1 s.multipart ∷ table_tests s f (capacity s t) ++ (checked_key_test s key ∷ chain_tests s f h key)

-- the companion's answer, with the content
unfoldable pub look_fixed : Settings → Option (List ℕ) → ℕ → List ℕ → Answer × List ℕ
look_fixed s key h t =
    let f = view s.size t in
    let content = content_of s f (h ∷ []) in
    let answer : Answer × List ℕ = (found (length content) (mark_of s (f h)) (count_of s (f h)) 1, content) in
    unless (first (fixed_tests s key h t)) [] answer

-- where the content of the plain slot h starts in the table: after its size word and its prefix
unfoldable pub content_start : Settings → ℕ → ℕ
content_start s h = h * s.size + word_bytes + prefix_len s

-- where the part that the fixed read hands back starts: at the content, at the table's start where it is refused
unfoldable pub part_start : Settings → Option (List ℕ) → ℕ → List ℕ → ℕ
part_start s key h t = cond (eqb (first (fixed_tests s key h t)) 0) (content_start s h) 0

-- the fixed read: the content, a part of the table; empty where it is refused
unfoldable pub read_fixed : Settings → Option (List ℕ) → ℕ → List ℕ → List ℕ
read_fixed s key h t = (look_fixed s key h t).1

-- its companion: the refusal, or content length, mark, count and visits
unfoldable pub find_fixed : Settings → Option (List ℕ) → ℕ → List ℕ → Answer
find_fixed s key h t = (look_fixed s key h t).0

-- the length of the free list
unfoldable pub free_count : Settings → List ℕ → Answer
free_count s t =
    let f = view s.size t in
    answer_unless (first (table_tests s f (capacity s t) ++ (free_list_test (free_list f) ∷ []))) (members (length (members_of (free_list f))))

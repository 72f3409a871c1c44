-- Once a call's tests have passed, on any table, sound or not, the writing loop may start: for insert (`ready_insert`), for replace
-- (`ready_replace`), and with nothing to write for remove (`freeing_remove`, `remove_stores`). Prefix and content passed 1, 4 and 6 (`fit`).
use mathlib.Core.Path.{◌≡◌, refl, sym, ap, ◌∙◌}
use mathlib.Core.Bool.{Bool, true, false}
use mathlib.Core.List.{List, [], ◌∷◌, ◌++◌}
use mathlib.Core.Option.{none}
use Prim.Native.Nat.{ℕ, ◌+◌, ◌-◌, ◌*◌, ◌≤◌, ◌<◌}
use native.Mathlib.Nat.{sub-zero, zero-sub, add-zero}
use native.Mathlib.Omega.{arith}
use lib.Dec.{eqb, ltb}
use lib.ListN.{length, length-append}
use borrow.Author.Tests.{ne_eqb, lt-ltb, le-ltb}
use Rattle.definition.specs.declared.Settings.{Settings}
use Rattle.definition.specs.declared.Header.{Header}
use Rattle.definition.specs.Settings.{word_bytes, largest_size, prefix_len, bad_settings}
use Rattle.definition.specs.Slots.{View, view, last_removed, filled, header_of, head_link, link_of, mark_of}
use Rattle.definition.specs.FreeList.{free_list, members_of}
use Rattle.definition.specs.Chains.{head_fault, walk}
use Rattle.definition.specs.Parts.{prefix, pieces, chain_stores}
use Rattle.definition.specs.Effect.{new_slots, left_over, free_left, filled_after, effect}
use Rattle.definition.specs.Tests.{first}
use Rattle.definition.specs.Calls.{capacity, key_test, value_test, free_list_test, room_test, table_tests, chain_tests}
use Rattle.laws.proofs.Conditions.{which, Which, is_yes, is_no}
use Rattle.laws.proofs.Passed.{Opened, opened, chain_passed, free_passed}
use Rattle.laws.proofs.FreeLists.{FreeAt, free_head}
use Rattle.laws.proofs.Marks.{small_no_mark, continuation_not_head, starts_multi}
use Rattle.laws.proofs.Turns.{last_small}
use Rattle.laws.proofs.Chains.{RestAt, TailAt, ChainAt, head_starts}
use Rattle.laws.proofs.Sizes.{sizes, length_prefix, fixed_fits, multi_fits, room_fits, slots_inside}
use Rattle.laws.proofs.Parts.{pieces_some}
use Rattle.laws.proofs.Distinct.{chain_distinct, chain_free_apart, free_apart}
use Rattle.laws.proofs.Linked.{Linked, free_linked}
use Rattle.writes.specs.Steps.{next_part, clear_stores}
use Rattle.writes.specs.Ready.{Fit, Ready, Freeing}
use Rattle.writes.proofs.Links.{fixed_link, head_link_lem, continuation_link, last_link}
use Rattle.writes.proofs.Going.{effect_clears}

-- ---- the body

-- settings, key and value that passed 1, 4 and 6
pub fit : (s : Settings) (key content : List ℕ) → bad_settings s ≡ false → key_test s key ≡ 0 → value_test s content ≡ 0 → Fit s (prefix s key ++ content)
fit s key content good k v = record { good = good; kind = go (which s.multipart) }
  where
    long : length (prefix s key ++ content) ≡ prefix_len s + length content
    long = length-append (prefix s key) content ∙ ap (λ (n : ℕ). n + length content) (length_prefix s key k)

    go : Which s.multipart → s.multipart ≡ ltb (s.size - word_bytes) (length (prefix s key ++ content))
    go (is_yes m) = m ∙ sym (lt-ltb (s.size - word_bytes) (length (prefix s key ++ content)) (omega (arith, long, multi_fits s content v m)))
    go (is_no m) = m ∙ sym (le-ltb (s.size - word_bytes) (length (prefix s key ++ content)) (omega (arith, long, fixed_fits s content v m)))

-- ---- the old chain's links

module _ (s : Settings) (hi : s.size ≤ largest_size) (f : View) (F : ℕ) where
  rest_linked : (mark after : Bool) (a : ℕ) (l : List ℕ) → s.multipart ≡ true → RestAt s f F mark after a l → Linked (next_part s) f F a l
  rest_linked mark after a [] m r = absurd r
  rest_linked mark after a (x ∷ []) m r =
      let k = small_no_mark s.size (f x) hi (last_small s mark after (f x) r.3) in
      (r.0, r.1, r.2, last_link s (f x) m k.not_head k.not_continuation)
  rest_linked mark after a (x ∷ y ∷ l) m r =
      (r.0, r.1, r.2, rw (continuation_link s (f x) m (continuation_not_head (f x) r.3) r.3) (rest_linked mark false (link_of (f x)) (y ∷ l) m r.4))

  tail_linked : (m : Bool) (h : ℕ) (l : List ℕ) → s.multipart ≡ m → head_fault s none 8 (f h) ≡ 0 → TailAt m s f F h l → Linked (next_part s) f F (next_part s (f h)) l
  tail_linked true h l m hf r =
      rw (head_link_lem s (f h) m (sym (starts_multi s (f h) m) ∙ head_starts s (f h) hf)) (rest_linked (mark_of s (f h)) true (head_link s (f h)) l m r.0)
  tail_linked false h l m hf r = rw r (fixed_link s (f h) m)

  chain_linked : (h : ℕ) (l : List ℕ) → ChainAt s f F h l → Linked (next_part s) f F h l
  chain_linked h [] c = absurd c
  chain_linked h (x ∷ l) c =
      (sym c.0, omega (arith, c.0, c.1), omega (arith, c.0, c.2), rw c.0 (tail_linked s.multipart h l refl c.3 c.4))

-- a chain has a slot
chain_some : (s : Settings) (f : View) (F h : ℕ) (l : List ℕ) → ChainAt s f F h l → 0 < length l
chain_some s f F h [] c = absurd c
chain_some s f F h (x ∷ l) c = omega arith

-- with no new parts, the one effect frees the old chain and stores the header
clear_all : (s : Settings) (old free : List ℕ) (F : ℕ) → 0 < length old → clear_stores false old free F ≡ effect s false 0 [] old free F
unfolding new_slots left_over free_left filled_after chain_stores
clear_all s old free F h =
    sym (effect_clears s false 0 [] old free F
    ∙ ap (λ (b : Bool). clear_stores b old (free_left old free 0) (filled_after old free F 0)) (ne_eqb 0 (length old) (omega arith))
    ∙ simp (zero-sub, add-zero) refl)

-- ---- the calls

-- a table's slots, FILLED and free list, and the slots of the chain at h
abbrev pub seen : Settings → List ℕ → View
seen s t = view s.size t

abbrev pub filled_of : Settings → List ℕ → ℕ
filled_of s t = filled (seen s t)

abbrev pub free_of : Settings → List ℕ → List ℕ
free_of s t = members_of (free_list (seen s t))

abbrev pub chain_of : Settings → List ℕ → ℕ → List ℕ
chain_of s t h = (walk s (seen s t) (filled_of s t) h).slots

-- the tests of the table (1, 2, 3) and of the free list (11) have passed, and hd is the header
module _ (s : Settings) (t : List ℕ) (table : first (table_tests s (seen s t) (capacity s t)) ≡ 0) (members : free_list_test (free_list (seen s t)) ≡ 0)
    (hd : Header) (is : hd ≡ header_of (seen s t)) where
  low : Opened s (seen s t) (capacity s t)
  low = opened s (seen s t) (capacity s t) table

  listed : FreeAt (seen s t) (filled_of s t) (last_removed (seen s t)) (free_of s t)
  listed = free_passed (seen s t) members

  -- new slots that passed 12 lie in the table
  roomy : (old : List ℕ) (n : ℕ) → room_test (capacity s t) (filled_of s t) (free_of s t) (n - length old) ≡ 0
      → filled_after old (free_of s t) (filled_of s t) n * s.size ≤ length t
  roomy old n room =
      slots_inside s t (filled_after old (free_of s t) (filled_of s t) n) (room_fits (capacity s t) (filled_of s t) old (free_of s t) n low.fits room)

  -- insert, once 12 has passed
  pub ready_insert : (body : List ℕ) → room_test (capacity s t) (filled_of s t) (free_of s t) (length (pieces s body)) ≡ 0 → Ready s false body t [] (free_of s t) 0 hd
  ready_insert body room =
      rw is (record {
        old_links = refl;
        free_links = free_linked (seen s t) (filled_of s t) (last_removed (seen s t)) (free_of s t) listed;
        once = free_apart (seen s t) (filled_of s t) (last_removed (seen s t)) (free_of s t) listed;
        some = omega (arith, low.removed);
        room = roomy [] (length (pieces s body)) (rw sub-zero room);
        stays = sym (ne_eqb (length (pieces s body)) 0 (omega (arith, pieces_some s body)));
      })

  -- the tests of the chain at h (7, the head's, the walk's) have passed too
  module _ (h : ℕ) (walked : first (chain_tests s (seen s t) h none) ≡ 0) where
    chain : ChainAt s (seen s t) (filled_of s t) h (chain_of s t h)
    chain = (chain_passed s (seen s t) h none walked).0

    links : Linked (next_part s) (seen s t) (filled_of s t) h (chain_of s t h)
    links = chain_linked s (sizes s low.settings).largest (seen s t) (filled_of s t) h (chain_of s t h) chain

    -- replace, once 12 has passed; `same` says whether as many parts are written as there were
    pub ready_replace : (same : Bool) (body : List ℕ) → room_test (capacity s t) (filled_of s t) (free_of s t) (length (pieces s body) - length (chain_of s t h)) ≡ 0
        → same ≡ eqb (length (pieces s body)) (length (chain_of s t h)) → Ready s same body t (chain_of s t h) (free_of s t) h hd
    ready_replace same body room stays =
        rw is (record {
          old_links = links;
          free_links = free_linked (seen s t) (filled_of s t) (last_removed (seen s t)) (free_of s t) listed;
          once = chain_free_apart s (seen s t) (filled_of s t) h (last_removed (seen s t)) (chain_of s t h) (free_of s t) (sizes s low.settings).largest chain listed;
          some = omega (arith, low.removed);
          room = roomy (chain_of s t h) (length (pieces s body)) room;
          stays = stays;
        })

    -- remove: 12 is not asked
    pub freeing_remove : Freeing s t (chain_of s t h) (free_of s t) h hd
    freeing_remove =
        rw is (record {
          good = low.settings;
          links = links;
          top = free_head (seen s t) (filled_of s t) (last_removed (seen s t)) (free_of s t) listed;
          once = chain_distinct s (seen s t) (filled_of s t) h (chain_of s t h) (sizes s low.settings).largest chain;
          some = omega (arith, low.removed);
          room = slots_inside s t (filled_of s t) low.fits;
        })

    -- and what clear_chain then stores is the one effect with no parts
    pub remove_stores : clear_stores false (chain_of s t h) (free_of s t) hd.filled ≡ effect s false 0 [] (chain_of s t h) (free_of s t) (filled_of s t)
    remove_stores = rw is (clear_all s (chain_of s t h) (free_of s t) (filled_of s t) (chain_some s (seen s t) (filled_of s t) h (chain_of s t h) chain))

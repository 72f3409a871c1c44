-- The numbers in answers, on any table. A refused call answers one of the numbers that apply to it (`refusal_among`): 12 is insert's and
-- replace's alone. A read that succeeds visits as many slots as its chain has parts, at most FILLED - 1 (`visits_are`), and so does a
-- fixed read, whose chain is its one slot (`fixed_visits_are`).
use mathlib.Core.Path.{◌≡◌, refl, sym, ap, ◌∙◌, subst}
use Prim.Native.Nat.{ℕ, zero, suc, ◌-◌, ◌≤◌, ◌<◌}
use native.Mathlib.Omega.{arith}
use mathlib.Core.Bool.{Bool, true, false, cond}
use mathlib.Core.List.{List, [], ◌∷◌, ◌++◌}
use mathlib.Core.Option.{Option, none, some}
use lib.ListN.{length}
use Rattle.definition.specs.declared.Settings.{Settings}
use Rattle.definition.specs.Tests.{refuse, first}
use Rattle.definition.specs.Slots.{View, view, store, filled, mark_of, head_link, link_of}
use Rattle.definition.specs.FreeList.{free_list}
use Rattle.definition.specs.Chains.{Walk, whole, head_fault, last_fault, parts_from, with_total, walk}
use Rattle.definition.specs.Answers.{Answer, refusal, found}
use Rattle.definition.specs.Calls.{capacity, settings_test, buffer_test, header_test, key_test, checked_key_test, uncounted_test, value_test, slot_test, free_list_test, room_test, output_test, table_tests, value_tests, chain_tests, unless, Writing, Insert, Replace, Remove, Change, decision, supply_of, read, fixed_tests, look_fixed, find_fixed, free_count}
use Rattle.definition.specs.Sound.{hit, occ}
use Rattle.definition.specs.Ledger.{Read, ReadFixed, FindFixed, FreeCount, Call, Write, Look}
use Rattle.definition.specs.Run.{run}
use Rattle.laws.proofs.Conditions.{which, Which, is_yes, is_no}
use Rattle.laws.proofs.Tests.{refuse_yes, passed, first_stop, first_pass, first_both}
use Rattle.laws.proofs.Counting.{hit_other}
use Rattle.laws.proofs.Chains.{ChainAt}
use Rattle.laws.proofs.Turns.{part_limit, Turn, broken, judged, goes_on, ends, turn}
use Rattle.laws.proofs.Passed.{walk_fixed, chain_passed}
use Rattle.ledger.proofs.Refused.{teller, Granted, unless_refused_lem, answer_alone, decided_granted, found_granted, members_granted}

-- ---- whatever holds of 0 and of the numbers of the tests holds of the first refusal

pub data Each (P : ℕ → Type 0) : List ℕ → Type 0 where
  end : Each P []
  also : {n : ℕ} {ns : List ℕ} → P n → Each P ns → Each P (n ∷ ns)

module _ (P : ℕ → Type 0) (zero_is : P 0) where
  pub first_is : (ns : List ℕ) → Each P ns → P (first ns)
  unfolding first
  first_is [] end = zero_is
  first_is (zero ∷ ns) (also p h) = first_is ns h
  first_is (suc n ∷ ns) (also p h) = p

  refuse_is : (n : ℕ) (b : Bool) → P n → P (refuse n b)
  unfolding refuse
  refuse_is n true h = h
  refuse_is n false h = zero_is

  head_is : (s : Settings) (key : Option (List ℕ)) (b : List ℕ) → P 8 → P 9 → P (head_fault s key 8 b)
  unfolding head_fault
  head_is s key b eight nine = first_is _ (also (refuse_is 8 _ eight) (also (refuse_is 9 _ nine) (also (refuse_is 8 _ eight) (also (refuse_is 8 _ eight) (also (refuse_is 9 _ nine) end)))))

  module _ (s : Settings) (f : View) (F : ℕ) (nine : P 9) (ten : P 10) where
    last_is : (mark after : Bool) (b : List ℕ) → P (last_fault s mark after b)
    unfolding last_fault
    last_is mark after b = refuse_is 9 _ nine

    parts_is : (mark after : Bool) (n a : ℕ) → P (parts_from s f F mark after n a).fault
    parts_is mark after zero a = rw (part_limit s f F mark after a) ten
    parts_is mark after (suc n) a = go (turn s f F mark after n a) (parts_is mark false n (link_of (f a)))
      where
        go : Turn s f F mark after n a → P (parts_from s f F mark false n (link_of (f a))).fault → P (parts_from s f F mark after (suc n) a).fault
        go (broken e) more = rw e ten
        go (judged k l e) more = rw e (subst P l (last_is mark after (f a)))
        go (goes_on p q c e) more = rw e more
        go (ends p q l e) more = rw e zero_is

    walk_is : (h : ℕ) → P (walk s f F h).fault
    unfolding walk with_total
    walk_is h = go s.multipart
      where
        go : (m : Bool) → P (cond m (with_total s f h (parts_from s f F (mark_of s (f h)) true (F - 2) (head_link s (f h)))) (whole (h ∷ []))).fault
        go true = first_is _ (also (parts_is (mark_of s (f h)) true (F - 2) (head_link s (f h))) (also (refuse_is 10 _ ten) end))
        go false = zero_is

  -- the tests that go together, and those after them
  pub table_then : (s : Settings) (f : View) (cap : ℕ) (ns : List ℕ) → P 1 → P 2 → P 3 → Each P ns → Each P (table_tests s f cap ++ ns)
  unfolding settings_test buffer_test header_test
  table_then s f cap ns one two three h = also (refuse_is 1 _ one) (also (refuse_is 2 _ two) (also (refuse_is 3 _ three) h))

  pub value_then : (s : Settings) (key content : List ℕ) (ns : List ℕ) → P 4 → P 6 → Each P ns → Each P (value_tests s key content ++ ns)
  unfolding key_test value_test
  value_then s key content ns four six h = also (refuse_is 4 _ four) (also (refuse_is 6 _ six) h)

  slot_is : (f : View) (h : ℕ) → P 7 → P (slot_test f h)
  unfolding slot_test
  slot_is f h seven = refuse_is 7 _ seven

  pub chain_then : (s : Settings) (f : View) (h : ℕ) (key : Option (List ℕ)) (ns : List ℕ) → P 7 → P 8 → P 9 → P 10 → Each P ns → Each P (chain_tests s f h key ++ ns)
  chain_then s f h key ns seven eight nine ten r = also (slot_is f h seven) (also (head_is s key (f h) eight nine) (also (walk_is s f (filled f) nine ten h) r))

  key_is : (s : Settings) (key : Option (List ℕ)) → P 4 → P (checked_key_test s key)
  unfolding checked_key_test key_test
  key_is s none four = zero_is
  key_is s (some k) four = refuse_is 4 _ four

  pub free_is : (o : Option (List ℕ)) → P 11 → P (free_list_test o)
  unfolding free_list_test
  free_is none eleven = eleven
  free_is (some l) eleven = zero_is

-- ---- the numbers that apply to a call

-- by 01's table: what each call uses, walks and needs
unfoldable pub numbers_of : Call → List ℕ
numbers_of (Write (Insert k c m)) = 1 ∷ 2 ∷ 3 ∷ 4 ∷ 6 ∷ 11 ∷ 12 ∷ []
numbers_of (Write (Replace k c m h)) = 1 ∷ 2 ∷ 3 ∷ 4 ∷ 6 ∷ 7 ∷ 8 ∷ 9 ∷ 10 ∷ 11 ∷ 12 ∷ []
numbers_of (Write (Remove h)) = 1 ∷ 2 ∷ 3 ∷ 7 ∷ 8 ∷ 9 ∷ 10 ∷ 11 ∷ []
numbers_of (Write (Change d h)) = 1 ∷ 2 ∷ 3 ∷ 5 ∷ 7 ∷ 8 ∷ 9 ∷ []
numbers_of (Look (Read k h out)) = 1 ∷ 2 ∷ 3 ∷ 4 ∷ 7 ∷ 8 ∷ 9 ∷ 10 ∷ 13 ∷ []
numbers_of (Look (ReadFixed k h)) = 1 ∷ 2 ∷ 3 ∷ 4 ∷ 7 ∷ 8 ∷ 9 ∷ []
numbers_of (Look (FindFixed k h)) = 1 ∷ 2 ∷ 3 ∷ 4 ∷ 7 ∷ 8 ∷ 9 ∷ []
numbers_of (Look FreeCount) = 1 ∷ 2 ∷ 3 ∷ 11 ∷ []

-- 0, or one of these
abbrev Among : List ℕ → ℕ → Type 0
Among l n = 0 < occ n (0 ∷ l)

among : (l : List ℕ) (m : ℕ) (old : List ℕ) (out : Answer × List ℕ) (n : ℕ) → Granted out.0 → (unless m old out).0 ≡ refusal n → Among l m → 0 < occ n l
unfolding occ
among l m old out n g e a =
    let r = unless_refused_lem m old out n g e in
    let b : 0 < occ n (0 ∷ l) = subst (λ (j : ℕ). 0 < occ j (0 ∷ l)) r.1 a in
    omega (arith, hit_other n 0 (omega (arith, r.2)))

-- each test of a writing call
module _ (s : Settings) (t : List ℕ) where
  writes_among : (w : Writing) → Each (Among (numbers_of (Write w))) (decision s w t).tests
  unfolding numbers_of uncounted_test room_test occ hit
  writes_among (Insert k c m) =
      let f : View = view s.size t in
      let P : ℕ → Type 0 = Among (numbers_of (Write (Insert k c m))) in
      let z : P 0 = omega arith in
      table_then P z s f (capacity s t) _ (omega arith) (omega arith) (omega arith) (value_then P z s k c _ (omega arith) (omega arith)
      (also (free_is P z (free_list f) (omega arith)) (also (refuse_is P z 12 _ (omega arith)) end)))
  writes_among (Replace k c m h) =
      let f : View = view s.size t in
      let P : ℕ → Type 0 = Among (numbers_of (Write (Replace k c m h))) in
      let z : P 0 = omega arith in
      table_then P z s f (capacity s t) _ (omega arith) (omega arith) (omega arith) (value_then P z s k c _ (omega arith) (omega arith)
      (chain_then P z s f h none _ (omega arith) (omega arith) (omega arith) (omega arith)
      (also (free_is P z (free_list f) (omega arith)) (also (refuse_is P z 12 _ (omega arith)) end))))
  writes_among (Remove h) =
      let f : View = view s.size t in
      let P : ℕ → Type 0 = Among (numbers_of (Write (Remove h))) in
      let z : P 0 = omega arith in
      table_then P z s f (capacity s t) _ (omega arith) (omega arith) (omega arith)
      (chain_then P z s f h none _ (omega arith) (omega arith) (omega arith) (omega arith) (also (free_is P z (free_list f) (omega arith)) end))
  writes_among (Change d h) =
      let f : View = view s.size t in
      let P : ℕ → Type 0 = Among (numbers_of (Write (Change d h))) in
      let z : P 0 = omega arith in
      table_then P z s f (capacity s t) _ (omega arith) (omega arith) (omega arith)
      (also (refuse_is P z 5 _ (omega arith)) (also (slot_is P z f h (omega arith)) (also (head_is P z s none (f h) (omega arith) (omega arith)) end)))

module _ (s : Settings) (t : List ℕ) (n : ℕ) where
  read_among : (k : Option (List ℕ)) (h : ℕ) (out : List ℕ) → (read s k h t out).0 ≡ refusal n → 0 < occ n (numbers_of (Look (Read k h out)))
  unfolding read numbers_of output_test occ hit
  read_among k h out e =
      let f : View = view s.size t in
      let P : ℕ → Type 0 = Among (numbers_of (Look (Read k h out))) in
      let z : P 0 = omega arith in
      among (numbers_of (Look (Read k h out))) _ out _ n (found_granted _ _ _ _) e
      (first_is P z _ (table_then P z s f (capacity s t) _ (omega arith) (omega arith) (omega arith) (also (key_is P z s k (omega arith))
      (chain_then P z s f h k _ (omega arith) (omega arith) (omega arith) (omega arith) (also (refuse_is P z 13 _ (omega arith)) end)))))

  -- on a multipart table 1; on a fixed one no later part can be at fault
  look_among : (k : Option (List ℕ)) (h : ℕ) → (look_fixed s k h t).0 ≡ refusal n → 0 < occ n (numbers_of (Look (FindFixed k h)))
  unfolding look_fixed fixed_tests numbers_of occ hit
  look_among k h e = among (numbers_of (Look (FindFixed k h))) _ [] _ n (found_granted _ _ _ _) e (go (which s.multipart))
    where
      f : View
      f = view s.size t

      P : ℕ → Type 0
      P = Among (numbers_of (Look (FindFixed k h)))

      z : P 0
      z = omega arith

      go : Which s.multipart → P (first (fixed_tests s k h t))
      go (is_yes m) = let one : refuse 1 s.multipart ≡ 1 = refuse_yes 1 s.multipart m in subst P (sym (first_stop (refuse 1 s.multipart) _ (omega arith) ∙ one)) (omega arith)
      go (is_no m) =
          first_is P z _ (also (refuse_is P z 1 _ (omega arith)) (table_then P z s f (capacity s t) _ (omega arith) (omega arith) (omega arith) (also (key_is P z s k (omega arith))
          (also (slot_is P z f h (omega arith)) (also (head_is P z s k (f h) (omega arith) (omega arith)) (also (subst P (sym (ap (λ (w : Walk). w.fault) (walk_fixed s f (filled f) h m))) z) end))))))

  count_among : free_count s t ≡ refusal n → 0 < occ n (numbers_of (Look FreeCount))
  unfolding free_count numbers_of occ hit
  count_among e =
      let f : View = view s.size t in
      let P : ℕ → Type 0 = Among (numbers_of (Look FreeCount)) in
      let z : P 0 = omega arith in
      among (numbers_of (Look FreeCount)) _ [] _ n (members_granted _) (sym (answer_alone _ _ []) ∙ e)
      (first_is P z _ (table_then P z s f (capacity s t) _ (omega arith) (omega arith) (omega arith) (also (free_is P z (free_list f) (omega arith)) end)))

pub refusal_among : (s : Settings) (c : Call) (t : List ℕ) (n : ℕ) → (run s (teller c) t).answer ≡ refusal n → 0 < occ n (numbers_of c)
unfolding teller run find_fixed numbers_of occ hit
refusal_among s (Write w) t n e =
    among (numbers_of (Write w)) _ t ((decision s w t).answer, store s.size t (decision s w t).stores) n (decided_granted s (supply_of s t) (view s.size t) w) e (first_is (Among (numbers_of (Write w))) (omega arith) _ (writes_among s t w))
refusal_among s (Look (Read k h out)) t n e = read_among s t n k h out e
refusal_among s (Look (ReadFixed k h)) t n e = look_among s t n k h e
refusal_among s (Look (FindFixed k h)) t n e = look_among s t n k h e
refusal_among s (Look FreeCount) t n e = count_among s t n e

-- ---- visits

unless_found : (m : ℕ) (old : List ℕ) (out : Answer × List ℕ) (len : ℕ) (mark : Bool) (c visits : ℕ) → (unless m old out).0 ≡ found len mark c visits
    → (m ≡ 0) × (out.0 ≡ found len mark c visits)
unfolding unless
unless_found zero old out len mark c visits e = (refl, e)
unless_found (suc m) old out len mark c visits e = absurd (let z : ◌≡◌ {A = ℕ} 0 1 = cc in omega arith)

-- a read that succeeds visits the parts of its chain, at most FILLED - 1
pub visits_are : (s : Settings) (k : Option (List ℕ)) (h : ℕ) (t out : List ℕ) (len : ℕ) (mark : Bool) (c visits : ℕ) → (read s k h t out).0 ≡ found len mark c visits
    → ChainAt s (view s.size t) (filled (view s.size t)) h (walk s (view s.size t) (filled (view s.size t)) h).slots
    × (visits ≡ length (walk s (view s.size t) (filled (view s.size t)) h).slots) × (visits ≤ filled (view s.size t) - 1)
unfolding read
visits_are s k h t out len mark c visits e =
    let f : View = view s.size t in
    let r = unless_found _ out _ len mark c visits e in
    let a = first_both (table_tests s f (capacity s t)) _ r.0 in
    let b = first_pass (checked_key_test s k) _ a.1 in
    let p = chain_passed s f h k (first_both (chain_tests s f h k) _ b.1).0 in
    let q : visits ≡ length (walk s f (filled f) h).slots = cc r.1 in
    (p.0, q, omega (arith, p.1))

-- a fixed read that succeeds visits its one slot, which is the whole chain
pub fixed_visits_are : (s : Settings) (k : Option (List ℕ)) (h : ℕ) (t : List ℕ) (len : ℕ) (mark : Bool) (c visits : ℕ) → find_fixed s k h t ≡ found len mark c visits
    → ((walk s (view s.size t) (filled (view s.size t)) h).slots ≡ h ∷ []) × (visits ≡ 1) × (visits ≤ filled (view s.size t) - 1)
unfolding find_fixed look_fixed fixed_tests
fixed_visits_are s k h t len mark c visits e =
    let f : View = view s.size t in
    let r = unless_found _ [] _ len mark c visits e in
    let o = first_pass (refuse 1 s.multipart) _ r.0 in
    let a = first_both (table_tests s f (capacity s t)) _ o.1 in
    let b = first_pass (checked_key_test s k) _ a.1 in
    let p = chain_passed s f h k b.1 in
    let w : (walk s f (filled f) h).slots ≡ h ∷ [] = ap (λ (x : Walk). x.slots) (walk_fixed s f (filled f) h (passed 1 s.multipart (omega arith) o.0)) in
    let v : visits ≡ 1 = cc r.1 in
    (w, v, omega (arith, p.1, ap length w))

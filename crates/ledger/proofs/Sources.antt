-- Where a call that writes has its slots from: the chain that it finds (`old_slots`), as many parts as it writes (`part_count`), and the free list.
-- Once its tests have passed, on any table, sound or not, these slots lie from 1 up to FILLED, none is met twice, and FILLED afterwards lies
-- within the capacity (`sourced`). One statement over the four calls: a change of the count finds the head alone and writes one part there.
use mathlib.Core.Path.{◌≡◌, refl, ap, ◌∙◌}
use Prim.Native.Nat.{ℕ, ◌-◌, ◌≤◌}
use native.Mathlib.Nat.{sub-zero}
use native.Mathlib.Omega.{arith}
use native.Mathlib.Decide.{ℕ_discrete}
use mathlib.Core.List.{List, [], ◌∷◌, ◌++◌}
use mathlib.Core.Option.{Option, none, some}
use lib.ListN.{length}
use Rattle.definition.specs.declared.Settings.{Settings}
use Rattle.definition.specs.Tests.{first}
use Rattle.definition.specs.Slots.{View, view, is_free, filled}
use Rattle.definition.specs.FreeList.{free_list, members_of}
use Rattle.definition.specs.Chains.{head_fault, walk}
use Rattle.definition.specs.Parts.{prefix, pieces}
use Rattle.definition.specs.Effect.{filled_after}
use Rattle.definition.specs.Calls.{capacity, uncounted_test, slot_test, free_list_test, room_test, table_tests, value_tests, chain_tests, Writing, Insert, Replace, Remove, Change, decision}
use Rattle.definition.specs.Sound.{hit, occ}
use Rattle.laws.proofs.Conditions.{yes-no}
use Rattle.laws.proofs.Tests.{first_pass, first_both}
use Rattle.laws.proofs.Counting.{hit_same, hit_other, In, in_nil, in_cons, zero_unless}
use Rattle.laws.proofs.FreeLists.{FreeAt, free_in_lem, free_marked}
use Rattle.laws.proofs.Marks.{starts_not_free}
use Rattle.laws.proofs.Chains.{head_starts, chain_in}
use Rattle.laws.proofs.Passed.{Opened, opened, slot_passed, chain_passed, free_passed}
use Rattle.laws.proofs.Sizes.{sizes, room_fits}
use Rattle.laws.proofs.Distinct.{Apart, free_distinct, chain_free_apart, free_apart}

-- the slots of the chain that a call finds: none for insert; of a change of the count the head, which is all that it looks at
abbrev pub old_slots : Settings → View → Writing → List ℕ
old_slots s f (Insert key content mark) = []
old_slots s f (Replace key content mark h) = (walk s f (filled f) h).slots
old_slots s f (Remove h) = (walk s f (filled f) h).slots
old_slots s f (Change step h) = h ∷ []

-- as many parts as it writes
abbrev pub part_count : Settings → Writing → ℕ
part_count s (Insert key content mark) = length (pieces s (prefix s key ++ content))
part_count s (Replace key content mark h) = length (pieces s (prefix s key ++ content))
part_count s (Remove h) = 0
part_count s (Change step h) = 1

-- where n parts are written on the slots old
pub record Sourced (s : Settings) (t old : List ℕ) (n : ℕ) : Type 0 where
  pub table : Opened s (view s.size t) (capacity s t)
  pub old_in : In (filled (view s.size t)) old
  pub free_in : In (filled (view s.size t)) (members_of (free_list (view s.size t)))
  pub apart : Apart old (members_of (free_list (view s.size t)))
  pub room : filled_after old (members_of (free_list (view s.size t))) (filled (view s.size t)) n ≤ capacity s t

-- the chain that a call walked, beside the free list
walked : (s : Settings) (t : List ℕ) (h n : ℕ) → Opened s (view s.size t) (capacity s t) → first (chain_tests s (view s.size t) h none) ≡ 0
    → free_list_test (free_list (view s.size t)) ≡ 0
    → filled_after (walk s (view s.size t) (filled (view s.size t)) h).slots (members_of (free_list (view s.size t))) (filled (view s.size t)) n ≤ capacity s t
    → Sourced s t (walk s (view s.size t) (filled (view s.size t)) h).slots n
walked s t h n o c e room =
    let f : View = view s.size t in
    let ch = (chain_passed s f h none c).0 in
    let fa = free_passed f e in
    record {
      table = o;
      old_in = chain_in s f (filled f) h _ ch;
      free_in = free_in_lem f (filled f) _ _ fa;
      apart = chain_free_apart s f (filled f) h _ _ _ (sizes s o.settings).largest ch fa;
      room = room;
    }

-- the free list beside a head, whether it was tested or not: where it is at fault it has no members
module _ (s : Settings) (f : View) (h : ℕ) (head : head_fault s none 8 (f h) ≡ 0) where
  unlisted : (a : ℕ) (l : List ℕ) → FreeAt f (filled f) a l → occ h l ≡ 0
  unlisted a l r = zero_unless (occ h l) (λ m. yes-no (is_free (f h)) (free_marked f (filled f) a l r h m) (starts_not_free s (f h) (head_starts s (f h) head)))

  beside : (a : ℕ) (l : List ℕ) → FreeAt f (filled f) a l → Apart (h ∷ []) l
  unfolding occ
  beside a l r i = elim (ℕ_discrete i h) [
    | yes e ↦ rw e (omega (arith, unlisted a l r, hit_same h))
    | no e ↦ omega (arith, hit_other i h e, free_distinct f (filled f) a l r i)
  ]

  hit_most : (i : ℕ) → hit i h ≤ 1
  hit_most i = elim (ℕ_discrete i h) [ yes e ↦ (let z : hit i h ≡ 1 = rw e (hit_same h) in omega arith) | no e ↦ omega (arith, hit_other i h e) ]

  listed : (o : Option (List ℕ)) → free_list f ≡ o → In (filled f) (members_of o) × Apart (h ∷ []) (members_of o)
  unfolding members_of free_list_test occ
  listed none e = (in_nil (filled f), λ i. omega (arith, hit_most i))
  listed (some l) e =
      let r : FreeAt f (filled f) _ l = (let q : free_list_test (free_list f) ≡ 0 = rw e refl in rw e at (free_passed f q)) in
      (free_in_lem f (filled f) _ l r, beside _ l r)

pub sourced : (s : Settings) (w : Writing) (t : List ℕ) → first (decision s w t).tests ≡ 0 → Sourced s t (old_slots s (view s.size t) w) (part_count s w)
unfolding filled_after
sourced s (Insert key content mark) t e =
    let f : View = view s.size t in
    let free : List ℕ = members_of (free_list f) in
    let n : ℕ = length (pieces s (prefix s key ++ content)) in
    let a = first_both (table_tests s f (capacity s t)) _ e in
    let b = first_both (value_tests s key content) _ a.1 in
    let c = first_pass (free_list_test (free_list f)) _ b.1 in
    let d = first_pass (room_test (capacity s t) (filled f) free n) [] c.1 in
    let o : Opened s f (capacity s t) = opened s f (capacity s t) a.0 in
    let fa = free_passed f c.0 in
    record {
      table = o;
      old_in = in_nil (filled f);
      free_in = free_in_lem f (filled f) _ free fa;
      apart = free_apart f (filled f) _ free fa;
      room = room_fits (capacity s t) (filled f) [] free n o.fits (ap (room_test (capacity s t) (filled f) free) (sub-zero n) ∙ d.0);
    }
sourced s (Replace key content mark h) t e =
    let f : View = view s.size t in
    let free : List ℕ = members_of (free_list f) in
    let old : List ℕ = (walk s f (filled f) h).slots in
    let n : ℕ = length (pieces s (prefix s key ++ content)) in
    let a = first_both (table_tests s f (capacity s t)) _ e in
    let b = first_both (value_tests s key content) _ a.1 in
    let c = first_both (chain_tests s f h none) _ b.1 in
    let d = first_pass (free_list_test (free_list f)) _ c.1 in
    let r = first_pass (room_test (capacity s t) (filled f) free (n - length old)) [] d.1 in
    let o : Opened s f (capacity s t) = opened s f (capacity s t) a.0 in
    walked s t h n o c.0 d.0 (room_fits (capacity s t) (filled f) old free n o.fits r.0)
sourced s (Remove h) t e =
    let f : View = view s.size t in
    let a = first_both (table_tests s f (capacity s t)) _ e in
    let c = first_both (chain_tests s f h none) _ a.1 in
    let d = first_pass (free_list_test (free_list f)) _ c.1 in
    let o : Opened s f (capacity s t) = opened s f (capacity s t) a.0 in
    walked s t h 0 o c.0 d.0 (omega (arith, o.fits))
sourced s (Change step h) t e =
    let f : View = view s.size t in
    let a = first_both (table_tests s f (capacity s t)) _ e in
    let u = first_pass (uncounted_test s) _ a.1 in
    let c = first_pass (slot_test f h) _ u.1 in
    let d = first_pass (head_fault s none 8 (f h)) _ c.1 in
    let b = slot_passed f h c.0 in
    let o : Opened s f (capacity s t) = opened s f (capacity s t) a.0 in
    let l = listed s f h d.0 (free_list f) refl in
    record { table = o; old_in = in_cons (filled f) h [] b.0 b.1 (in_nil (filled f)); free_in = l.0; apart = l.1; room = omega (arith, o.fits) }

-- The stores of a call that writes, once its tests have passed, on any table, sound or not (`laid`): each fits its slot, and its slot the
-- table; they name distinct slots; and in slot 0 they store the header alone. Which slots they name is said by `named`, and how long they are
-- in a slot that is freed by `freed_short`.
use mathlib.Core.Path.{◌≡◌, sym}
use Prim.Native.Nat.{ℕ, ◌+◌, ◌≤◌, ◌<◌}
use native.Mathlib.Omega.{arith}
use native.Mathlib.Decide.{ℕ_discrete}
use mathlib.Core.Bool.{Bool, true, false, not}
use mathlib.Core.List.{List, [], ◌∷◌, ◌++◌, head_d}
use mathlib.Core.Option.{Option, none, some}
use lib.IntN.{ℤ}
use lib.ListN.{length}
use borrow.Author.Tests.{not-false}
use Rattle.definition.specs.declared.Settings.{Settings}
use Rattle.definition.specs.Tests.{first}
use Rattle.definition.specs.Settings.{link_overhead}
use Rattle.definition.specs.Slots.{View, view, filled, count_of, Store}
use Rattle.definition.specs.FreeList.{free_list, members_of}
use Rattle.definition.specs.Parts.{prefix, pieces, chain_stores, free_stores}
use Rattle.definition.specs.Effect.{new_slots, left_over, free_left, free_after, filled_after, header_stores, effect}
use Rattle.definition.specs.Calls.{capacity, key_test, uncounted_test, value_test, slot_test, table_tests, value_tests, new_count, count_store, counted, Writing, Insert, Replace, Remove, Change, decision}
use Rattle.definition.specs.Sound.{hit, occ}
use Rattle.laws.proofs.Views.{Fits}
use Rattle.laws.proofs.Tests.{passed, first_pass, first_both}
use Rattle.laws.proofs.Counting.{hit_same, hit_other, In, in_zero}
use Rattle.laws.proofs.Stores.{slots_of, slots_of_chain, slots_of_free, header_none, header_one, header_slots, length_new, occ_free_after, effect_slots}
use Rattle.laws.proofs.Passed.{Opened, opened, slot_passed}
use Rattle.laws.proofs.Sizes.{Sizes, sizes, slot_inside, slot_whole}
use Rattle.laws.proofs.Overheads.{count_inside}
use Rattle.laws.proofs.Parts.{length_free, length_header}
use Rattle.laws.proofs.NewChains.{pieces_cut}
use Rattle.laws.proofs.Fitting.{CutOrNone, cut_any, effect_fits}
use Rattle.laws.proofs.Distinct.{taken_in, effect_distinct}
use Rattle.laws.proofs.Counts.{count_long}
use Rattle.ledger.proofs.Sources.{old_slots, part_count, Sourced, sourced}

-- ---- how long the stores in one slot are

-- a store in slot i is at most k bytes long
abbrev pub Short : ℕ → ℕ → List Store → Type 0
Short k i [] = Unit {0}
Short k i (w ∷ ws) = (w.0 ≡ i → length w.1 ≤ k) × Short k i ws

short_append : (k i : ℕ) (v w : List Store) → Short k i v → Short k i w → Short k i (v ++ w)
short_append k i [] w a b = b
short_append k i (x ∷ v) w a b = (a.0, short_append k i v w a.1 b)

-- where none names it
pub short_unnamed : (k i : ℕ) (ws : List Store) → occ i (slots_of ws) ≡ 0 → Short k i ws
unfolding slots_of occ
short_unnamed k i [] z = tt
short_unnamed k i (w ∷ ws) z = ((λ e. absurd (let h : hit i w.0 ≡ 1 = rw e (hit_same i) in omega arith)), short_unnamed k i ws (omega arith))

short_free : (i removed : ℕ) (l : List ℕ) → Short link_overhead i (free_stores removed l)
unfolding free_stores
short_free i removed [] = tt
short_free i removed (x ∷ l) = ((λ e. omega (arith, length_free removed)), short_free i x l)

short_header : (i : ℕ) (old free : List ℕ) (F n : ℕ) → Short 16 i (header_stores old free F n)
short_header i old free F n = go (ℕ_discrete n (length old))
  where
    go : Dec (n ≡ length old) → Short 16 i (header_stores old free F n)
    go (yes e) = rw (header_none old free F n e) tt
    go (no e) = rw (header_one old free F n e) ((λ z. omega (arith, length_header (head_d (free_after old free n) 0) (filled_after old free F n))), tt)

-- in slot 0 the header alone, in a slot that is not taken a link alone
effect_short : (s : Settings) (mark : Bool) (total F : ℕ) (old free : List ℕ) (ps : List (List ℕ)) (i k : ℕ) → occ i (new_slots old free F (length ps)) ≡ 0
    → Short k i (free_stores (head_d (free_left old free (length ps)) 0) (left_over old (length ps))) → Short k i (header_stores old free F (length ps))
    → Short k i (effect s mark total ps old free F)
unfolding effect
effect_short s mark total F old free ps i k z freed header =
    let n : ℕ = length ps in
    let new : List ℕ = new_slots old free F n in
    let left : List ℕ = left_over old n in
    let removed : ℕ = head_d (free_left old free n) 0 in
    short_append k i (chain_stores s mark total new ps) (free_stores removed left ++ header_stores old free F n)
    (short_unnamed k i (chain_stores s mark total new ps) (rw (slots_of_chain s mark total new ps (sym (length_new old free F n))) z))
    (short_append k i (free_stores removed left) (header_stores old free F n) freed header)

-- ---- the stores of each call

pub record Laid (s : Settings) (t : List ℕ) (ws : List Store) : Type 0 where
  -- the settings are good
  pub sizes : Sizes s
  -- each store fits its slot, and its slot the table
  pub fits : Fits s.size (length t) ws
  -- no slot is stored twice
  pub once : (i : ℕ) → occ i (slots_of ws) ≤ 1
  -- in slot 0 the header alone is stored
  pub spares : Short 16 0 ws

effect_laid : (s : Settings) (t : List ℕ) (mark : Bool) (total : ℕ) (old : List ℕ) (ps : List (List ℕ)) → Sourced s t old (length ps) → CutOrNone s ps
    → Laid s t (effect s mark total ps old (members_of (free_list (view s.size t))) (filled (view s.size t)))
effect_laid s t mark total old ps r c =
    let F : ℕ = filled (view s.size t) in
    let free : List ℕ = members_of (free_list (view s.size t)) in
    let n : ℕ = length ps in
    let G : ℕ = filled_after old free F n in
    let z : Sizes s = sizes s r.table.settings in
    let pos : 0 < F = omega (arith, r.table.removed) in
    let ni : In G (new_slots old free F n) = λ i m. taken_in old free F n pos r.old_in r.free_in r.apart i (omega arith) in
    let ai : In G (free_after old free n) = λ i m. taken_in old free F n pos r.old_in r.free_in r.apart i (omega arith) in
    let left : occ 0 (left_over old n) ≡ 0 = omega (arith, occ_free_after old free F n 0, in_zero G (free_after old free n) ai) in
    record {
      sizes = z;
      fits = effect_fits s t mark total F G old free ps z c r.table.buffer r.room ni ai;
      once = effect_distinct s mark total F old free ps pos r.old_in r.free_in r.apart;
      spares = effect_short s mark total F old free ps 0 16 (in_zero G (new_slots old free F n) ni)
          (short_unnamed 16 0 (free_stores (head_d (free_left old free n) 0) (left_over old n)) (rw (slots_of_free (head_d (free_left old free n) 0) (left_over old n)) left))
          (short_header 0 old free F n);
    }

hit_most : (i x : ℕ) → hit i x ≤ 1
hit_most i x = go (ℕ_discrete i x)
  where
    go : Dec (i ≡ x) → hit i x ≤ 1
    go (yes e) = (let h : hit i x ≡ 1 = rw e (hit_same x) in omega arith)
    go (no e) = omega (arith, hit_other i x e)

counted_laid : (s : Settings) (h : ℕ) (t : List ℕ) (n : Option ℕ) → Sizes s → s.counted ≡ true → 0 < h → h < capacity s t
    → Laid s t (counted s h (view s.size t h) n).1
unfolding count_store counted slots_of occ
counted_laid s h t none z d p q = record { sizes = z; fits = tt; once = λ i. omega arith; spares = tt }
counted_laid s h t (some n) z d p q =
    let inside = count_inside s z d in
    let whole = slot_whole s t h q in
    record {
      sizes = z;
      fits = (count_long s h (view s.size t h) n s.size inside (omega arith) (omega arith), slot_inside s t h q, tt);
      once = λ i. omega (arith, hit_most i h);
      spares = ((λ e. absurd (omega arith)), tt);
    }

-- the pieces of a key and a value that passed
passed_cut : (s : Settings) (key content : List ℕ) → Sizes s → first (value_tests s key content) ≡ 0 → CutOrNone s (pieces s (prefix s key ++ content))
passed_cut s key content z e =
    let a = first_pass (key_test s key) _ e in
    let b = first_pass (value_test s content) _ a.1 in
    cut_any s (pieces s (prefix s key ++ content)) (pieces_cut s key content z a.0 b.0).0

-- the slot whose count is changed, on a counted table
pub count_passed : (s : Settings) (step : ℤ) (h : ℕ) (t : List ℕ) → first (decision s (Change step h) t).tests ≡ 0
    → Sizes s × (s.counted ≡ true) × (0 < h) × (h < capacity s t)
unfolding uncounted_test
count_passed s step h t e =
    let f : View = view s.size t in
    let a = first_both (table_tests s f (capacity s t)) _ e in
    let u = first_pass (uncounted_test s) _ a.1 in
    let b = slot_passed f h (first_pass (slot_test f h) _ u.1).0 in
    let o : Opened s f (capacity s t) = opened s f (capacity s t) a.0 in
    (sizes s o.settings, not-false s.counted (passed 5 (not s.counted) (omega arith) u.0), b.0, omega (arith, b.1, o.fits))

pub laid : (s : Settings) (w : Writing) (t : List ℕ) → first (decision s w t).tests ≡ 0 → Laid s t (decision s w t).stores
laid s (Insert key content mark) t e =
    let r = sourced s (Insert key content mark) t e in
    let a = first_both (table_tests s (view s.size t) (capacity s t)) _ e in
    let b = first_both (value_tests s key content) _ a.1 in
    effect_laid s t mark (length content) [] (pieces s (prefix s key ++ content)) r (passed_cut s key content (sizes s r.table.settings) b.0)
laid s (Replace key content mark h) t e =
    let r = sourced s (Replace key content mark h) t e in
    let a = first_both (table_tests s (view s.size t) (capacity s t)) _ e in
    let b = first_both (value_tests s key content) _ a.1 in
    effect_laid s t mark (length content) _ (pieces s (prefix s key ++ content)) r (passed_cut s key content (sizes s r.table.settings) b.0)
laid s (Remove h) t e = effect_laid s t false 0 _ [] (sourced s (Remove h) t e) tt
laid s (Change step h) t e = let c = count_passed s step h t e in counted_laid s h t _ c.0 c.1 c.2 c.3

-- ---- which slots they name

-- a change of the count stores in the slot that it finds, which is taken again
head_named : (s : Settings) (h : ℕ) (b free : List ℕ) (F : ℕ) (n : Option ℕ) (i : ℕ) → occ i (slots_of (counted s h b n).1)
    ≤ occ i (new_slots (h ∷ []) free F 1) + occ i (left_over (h ∷ []) 1) + occ i (slots_of (header_stores (h ∷ []) free F 1))
unfolding counted count_store slots_of new_slots occ
head_named s h b free F none i = omega arith
head_named s h b free F (some c) i = omega arith

effect_named : (s : Settings) (mark : Bool) (total F : ℕ) (old free : List ℕ) (ps : List (List ℕ)) (i : ℕ) → occ i (slots_of (effect s mark total ps old free F))
    ≤ occ i (new_slots old free F (length ps)) + occ i (left_over old (length ps)) + occ i (slots_of (header_stores old free F (length ps)))
effect_named s mark total F old free ps i = omega (arith, effect_slots s mark total F old free ps i)

-- those of the new chain, those left over, and the header's
pub named : (s : Settings) (w : Writing) (t : List ℕ) (i : ℕ) → occ i (slots_of (decision s w t).stores)
    ≤ occ i (new_slots (old_slots s (view s.size t) w) (members_of (free_list (view s.size t))) (filled (view s.size t)) (part_count s w))
    + occ i (left_over (old_slots s (view s.size t) w) (part_count s w))
    + occ i (slots_of (header_stores (old_slots s (view s.size t) w) (members_of (free_list (view s.size t))) (filled (view s.size t)) (part_count s w)))
named s (Insert key content mark) t i = effect_named s mark (length content) _ [] _ (pieces s (prefix s key ++ content)) i
named s (Replace key content mark h) t i = effect_named s mark (length content) _ _ _ (pieces s (prefix s key ++ content)) i
named s (Remove h) t i = effect_named s false 0 _ _ _ [] i
named s (Change step h) t i = head_named s h (view s.size t h) _ _ (new_count (count_of s (view s.size t h)) step) i

effect_freed : (s : Settings) (mark : Bool) (total F : ℕ) (old free : List ℕ) (ps : List (List ℕ)) (i : ℕ) → 0 < i → occ i (new_slots old free F (length ps)) ≡ 0
    → Short link_overhead i (effect s mark total ps old free F)
effect_freed s mark total F old free ps i p z =
    effect_short s mark total F old free ps i link_overhead z (short_free i _ (left_over old (length ps)))
    (short_unnamed link_overhead i (header_stores old free F (length ps)) (omega (arith, header_slots old free F (length ps) i, hit_other i 0 (omega arith))))

head_short : (s : Settings) (h : ℕ) (b free : List ℕ) (F : ℕ) (n : Option ℕ) (i : ℕ) → occ i (new_slots (h ∷ []) free F 1) ≡ 0
    → Short link_overhead i (counted s h b n).1
unfolding counted count_store new_slots occ
head_short s h b free F none i z = tt
head_short s h b free F (some c) i z = ((λ e. absurd (let k : hit i h ≡ 1 = rw e (hit_same i) in omega arith)), tt)

-- in a slot that is freed a link alone is stored: it is none of those taken
pub freed_short : (s : Settings) (w : Writing) (t : List ℕ) (i : ℕ) → 0 < i
    → occ i (new_slots (old_slots s (view s.size t) w) (members_of (free_list (view s.size t))) (filled (view s.size t)) (part_count s w)) ≡ 0
    → Short link_overhead i (decision s w t).stores
freed_short s (Insert key content mark) t i p z = effect_freed s mark (length content) _ [] _ (pieces s (prefix s key ++ content)) i p z
freed_short s (Replace key content mark h) t i p z = effect_freed s mark (length content) _ _ _ (pieces s (prefix s key ++ content)) i p z
freed_short s (Remove h) t i p z = effect_freed s false 0 _ _ _ [] i p z
freed_short s (Change step h) t i p z = head_short s h (view s.size t h) _ _ (new_count (count_of s (view s.size t h)) step) i z

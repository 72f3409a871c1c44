-- The frame, slot by slot, on any table, sound or not, with no bound on its length. A call that writes stores in slots of four kinds and no
-- others: those of the chain that it finds, members that it takes from the free list, slots from FILLED up, and slot 0. What it leaves as it
-- was is `Spared`, one statement over the four calls (`spared`), refused ones among them; a call that looks leaves every byte (`call_spares`).
use mathlib.Core.Path.{◌≡◌, refl, sym, ap, ap₂, ◌∙◌, subst}
use mathlib.Core.Logic.{◌≢◌}
use Prim.Native.Nat.{ℕ, ◌+◌, ◌-◌, ◌*◌, ◌≤◌, ◌<◌}
use native.Mathlib.Omega.{arith}
use native.Mathlib.Decide.{ℕ_discrete}
use mathlib.Core.List.{List, [], ◌∷◌, ◌++◌, append_assoc}
use mathlib.Core.Option.{Option, none, some}
use lib.IntN.{ℤ}
use lib.ListN.{length, take, drop, length-append, drop_of_length-le}
use lib.Seq.{take_at, drop-drop, length-take-le}
use Rattle.definition.specs.declared.Settings.{Settings}
use Rattle.definition.specs.Numbers.{bytes, range, over}
use Rattle.definition.specs.Tests.{first}
use Rattle.definition.specs.Settings.{count_bytes, link_overhead, start_overhead}
use Rattle.definition.specs.Slots.{View, view, filled, count_of, Store, store}
use Rattle.definition.specs.FreeList.{free_list, members_of}
use Rattle.definition.specs.Effect.{new_slots, left_over, free_left, filled_after}
use Rattle.definition.specs.Calls.{capacity, new_count, count_store, counted, Writing, Change, Decision, decision, write}
use Rattle.definition.specs.Sound.{occ}
use Rattle.definition.specs.Ledger.{Call, Write, Look}
use Rattle.definition.specs.Run.{run}
use Rattle.laws.proofs.Lists.{drop_append}
use Rattle.laws.proofs.Bytes.{length_bytes}
use Rattle.laws.proofs.Views.{upd, upd_all, upd_same, upd_other, view_store}
use Rattle.laws.proofs.Counting.{hit_other, in_zero, in_above, occ_cut, occ_range_below, occ_range_above}
use Rattle.laws.proofs.Stores.{slots_of, upd_all_other, header_none, header_slots, occ_free_after, effect_owns}
use Rattle.laws.proofs.Sizes.{slot_whole}
use Rattle.laws.proofs.Overheads.{count_inside}
use Rattle.laws.proofs.Distinct.{taken_once, taken_in}
use Rattle.laws.proofs.Counts.{count_over}
use Rattle.ledger.proofs.Sources.{old_slots, part_count, Sourced, sourced}
use Rattle.ledger.proofs.Laid.{Short, laid, count_passed, named, freed_short}
use Rattle.ledger.proofs.Frame.{unless_left, frame}

-- ---- what is spared

-- the members of the free list that a call takes, those that it leaves, the slots that it frees, and FILLED afterwards
abbrev pub taken_free : Settings → Writing → View → List ℕ
taken_free s w f = take (part_count s w - length (old_slots s f w)) (members_of (free_list f))

abbrev pub still_free : Settings → Writing → View → List ℕ
still_free s w f = free_left (old_slots s f w) (members_of (free_list f)) (part_count s w)

abbrev pub freed_slots : Settings → Writing → View → List ℕ
freed_slots s w f = left_over (old_slots s f w) (part_count s w)

abbrev pub filled_then : Settings → Writing → View → ℕ
filled_then s w f = filled_after (old_slots s f w) (members_of (free_list f)) (filled f) (part_count s w)

-- f being the table's slots before and g after
pub record SparedSlots (s : Settings) (w : Writing) (f g : View) (stores : List Store) : Type 0 where
  -- a slot below FILLED that is not in the chain that the call finds and not one that it takes from the free list
  pub others : (i : ℕ) → 0 < i → i < filled f → occ i (old_slots s f w) ≡ 0 → occ i (taken_free s w f) ≡ 0 → g i ≡ f i
  -- a slot that stays free
  pub free : (i : ℕ) → 0 < occ i (still_free s w f) → g i ≡ f i
  -- a slot that stays unused: from FILLED up, as it is afterwards
  pub unused : (i : ℕ) → filled_then s w f ≤ i → g i ≡ f i
  -- of a slot that it frees, all but the ten bytes of mark and link
  pub freed : (i : ℕ) → 0 < occ i (freed_slots s w f) → drop link_overhead (g i) ≡ drop link_overhead (f i)
  -- of slot 0, all but the header's 16 bytes; where it takes and frees no slot, these too
  pub header : drop 16 (g 0) ≡ drop 16 (f 0)
  pub header_too : part_count s w ≡ length (old_slots s f w) → g 0 ≡ f 0
  -- of any slot, what lies behind the bytes stored in it: no store in slot i is longer than k
  pub behind : (i k : ℕ) → Short k i stores → drop k (g i) ≡ drop k (f i)
  -- where the count is changed, all of the record's slot but the four bytes of the count
  pub count : (step : ℤ) (h : ℕ) → w ≡ Change step h → (take (start_overhead s) (g h) ≡ take (start_overhead s) (f h))
      × (drop (start_overhead s + count_bytes) (g h) ≡ drop (start_overhead s + count_bytes) (f h))

-- and in the table no byte more or less, and none after the last whole slot
pub record Spared (s : Settings) (w : Writing) (t u : List ℕ) : Type 0 where
  pub slots : SparedSlots s w (view s.size t) (view s.size u) (decision s w t).stores
  pub long : length u ≡ length t
  pub rest : drop (capacity s t * s.size) u ≡ drop (capacity s t * s.size) t

-- ---- what is stored in a slot, and what lies behind it

over_short : (bs x : List ℕ) (k : ℕ) → length bs ≤ k → drop k (over bs x) ≡ drop k x
unfolding over
over_short bs x k h =
    let q : length bs + (k - length bs) ≡ k = omega arith in
    drop_append k bs (drop (length bs) x) ∙ ap (λ (r : List ℕ). r ++ drop (k - length bs) (drop (length bs) x)) (drop_of_length-le bs h)
    ∙ drop-drop (k - length bs) (length bs) x ∙ ap (λ (m : ℕ). drop m x) q

upd_all_short : (k i : ℕ) (f : View) (ws : List Store) → Short k i ws → drop k (upd_all f ws i) ≡ drop k (f i)
unfolding upd_all
upd_all_short k i f [] h = refl
upd_all_short k i f (w ∷ ws) h = upd_all_short k i (upd f w.0 w.1) ws h.1 ∙ go (ℕ_discrete w.0 i)
  where
    go : Dec (w.0 ≡ i) → drop k (upd f w.0 w.1 i) ≡ drop k (f i)
    go (yes e) =
        ap (λ (j : ℕ). drop k (upd f w.0 w.1 j)) (sym e) ∙ ap (drop k) (upd_same f w.0 w.1) ∙ over_short w.1 (f w.0) k (h.0 e)
        ∙ ap (λ (j : ℕ). drop k (f j)) e
    go (no n) = ap (drop k) (upd_other f w.0 i w.1 (λ q. n (sym q)))

front_kept : (b bs : List ℕ) (o : ℕ) → o ≤ length b → take o (over (take o b ++ bs) b) ≡ take o b
unfolding over
front_kept b bs o l =
    ap (take o) (append_assoc (take o b) bs (drop (length (take o b ++ bs)) b)) ∙ take_at (take o b) (bs ++ drop (length (take o b ++ bs)) b) o (length-take-le o b l)

stored : (s : Settings) (f : View) (h c : ℕ) → upd f (count_store s h (f h) c).0 (count_store s h (f h) c).1 h ≡ over (count_store s h (f h) c).1 (f h)
unfolding count_store
stored s f h c = upd_same f h _

-- a count stored: the bytes before it and behind it
counted_over : (s : Settings) (f : View) (h : ℕ) (n : Option ℕ) → start_overhead s + count_bytes ≤ length (f h)
    → (take (start_overhead s) (upd_all f (counted s h (f h) n).1 h) ≡ take (start_overhead s) (f h))
    × (drop (start_overhead s + count_bytes) (upd_all f (counted s h (f h) n).1 h) ≡ drop (start_overhead s + count_bytes) (f h))
unfolding counted upd_all
counted_over s f h none l = (refl, refl)
counted_over s f h (some c) l =
    let o : ℕ = start_overhead s in
    let b : List ℕ = f h in
    let y : List ℕ = take o b ++ bytes count_bytes c in
    let front : length (take o b) ≡ o = length-take-le o b (omega arith) in
    let long : length y ≡ o + count_bytes = length-append (take o b) (bytes count_bytes c) ∙ ap₂ (λ (m k : ℕ). m + k) front (length_bytes count_bytes c) in
    let e : upd f (count_store s h b c).0 (count_store s h b c).1 h ≡ over y b = stored s f h c ∙ count_over s h b c (omega arith) in
    (ap (take o) e ∙ front_kept b (bytes count_bytes c) o (omega arith), ap (drop (o + count_bytes)) e ∙ over_short y b (o + count_bytes) (omega (arith, long)))

-- ---- the slots that are named

-- what is taken or left over is of the old chain, taken from the free list, or from FILLED up
claimed : (old free : List ℕ) (F n i : ℕ) → occ i (new_slots old free F n) + occ i (left_over old n)
    ≡ occ i old + occ i (take (n - length old) free) + occ i (range F (n - length old - length free))
unfolding free_left
claimed old free F n i = omega (arith, effect_owns old free F n i, occ_free_after old free F n i, occ_cut i (n - length old) free)

unnamed : (s : Settings) (w : Writing) (t : List ℕ) (i : ℕ) → 0 < i → occ i (old_slots s (view s.size t) w) ≡ 0 → occ i (taken_free s w (view s.size t)) ≡ 0
    → occ i (range (filled (view s.size t)) (part_count s w - length (old_slots s (view s.size t) w) - length (members_of (free_list (view s.size t))))) ≡ 0
    → occ i (slots_of (decision s w t).stores) ≡ 0
unnamed s w t i p a b c =
    let f : View = view s.size t in
    let old : List ℕ = old_slots s f w in
    let free : List ℕ = members_of (free_list f) in
    omega (arith, named s w t i, claimed old free (filled f) (part_count s w) i, header_slots old free (filled f) (part_count s w) i, hit_other i 0 (omega arith))

-- ---- the frame

slots_same : (s : Settings) (w : Writing) (f : View) (stores : List Store) → SparedSlots s w f f stores
slots_same s w f stores = record {
  others = λ i p q a b. refl;
  free = λ i m. refl;
  unused = λ i b. refl;
  freed = λ i m. refl;
  header = refl;
  header_too = λ e. refl;
  behind = λ i k h. refl;
  count = λ step h e. (refl, refl);
}

-- the slots that no store names, and those that are freed
module _ (s : Settings) (w : Writing) (t : List ℕ) (r : Sourced s t (old_slots s (view s.size t) w) (part_count s w)) where
  pos : 0 < filled (view s.size t)
  pos = omega (arith, r.table.removed)

  still_free_lem : (i : ℕ) → 0 < occ i (still_free s w (view s.size t)) → occ i (slots_of (decision s w t).stores) ≡ 0
  unfolding free_left
  still_free_lem i m =
      let f : View = view s.size t in
      let old : List ℕ = old_slots s f w in
      let free : List ℕ = members_of (free_list f) in
      let n : ℕ = part_count s w in
      let cut = occ_cut i (n - length old) free in
      let inside = r.free_in i (omega (arith, cut, m)) in
      unnamed s w t i inside.0 (omega (arith, r.apart i, cut, m)) (omega (arith, r.apart i, cut, m)) (occ_range_below i (filled f) (n - length old - length free) inside.1)

  still_unused : (i : ℕ) → filled_then s w (view s.size t) ≤ i → occ i (slots_of (decision s w t).stores) ≡ 0
  unfolding filled_after
  still_unused i b =
      let f : View = view s.size t in
      let F : ℕ = filled f in
      let old : List ℕ = old_slots s f w in
      let free : List ℕ = members_of (free_list f) in
      let n : ℕ = part_count s w in
      let above : F ≤ i = omega (arith, b) in
      unnamed s w t i (omega (arith, pos, above)) (in_above F old r.old_in i above) (omega (arith, occ_cut i (n - length old) free, in_above F free r.free_in i above))
      (occ_range_above i F (n - length old - length free) (omega (arith, b)))

  header_unnamed : part_count s w ≡ length (old_slots s (view s.size t) w) → occ 0 (slots_of (decision s w t).stores) ≡ 0
  unfolding slots_of occ
  header_unnamed q =
      let f : View = view s.size t in
      let F : ℕ = filled f in
      let old : List ℕ = old_slots s f w in
      let free : List ℕ = members_of (free_list f) in
      let n : ℕ = part_count s w in
      omega (
        arith,
        named s w t 0,
        claimed old free F n 0,
        ap (λ (v : List Store). occ 0 (slots_of v)) (header_none old free F n q),
        in_zero F old r.old_in,
        in_zero F free r.free_in,
        occ_cut 0 (n - length old) free,
        occ_range_below 0 F (n - length old - length free) pos,
      )

  freed_stores : (i : ℕ) → 0 < occ i (freed_slots s w (view s.size t)) → Short link_overhead i (decision s w t).stores
  freed_stores i m =
      let f : View = view s.size t in
      let F : ℕ = filled f in
      let old : List ℕ = old_slots s f w in
      let free : List ℕ = members_of (free_list f) in
      let n : ℕ = part_count s w in
      let owned = occ_free_after old free F n i in
      freed_short s w t i (taken_in old free F n pos r.old_in r.free_in r.apart i (omega (arith, owned, m))).0
      (omega (arith, owned, m, taken_once old free F n pos r.old_in r.free_in r.apart i))

-- of the slot whose count is changed
count_spared : (s : Settings) (step : ℤ) (h : ℕ) (t : List ℕ) → first (decision s (Change step h) t).tests ≡ 0
    → (take (start_overhead s) (upd_all (view s.size t) (decision s (Change step h) t).stores h) ≡ take (start_overhead s) (view s.size t h))
    × (drop (start_overhead s + count_bytes) (upd_all (view s.size t) (decision s (Change step h) t).stores h) ≡ drop (start_overhead s + count_bytes) (view s.size t h))
count_spared s step h t e =
    let c = count_passed s step h t e in
    counted_over s (view s.size t) h (new_count (count_of s (view s.size t h)) step) (omega (arith, count_inside s c.0 c.1, slot_whole s t h c.3))

slots_stored : (s : Settings) (w : Writing) (t : List ℕ) → first (decision s w t).tests ≡ 0
    → SparedSlots s w (view s.size t) (upd_all (view s.size t) (decision s w t).stores) (decision s w t).stores
slots_stored s w t e =
    let f : View = view s.size t in
    let ws : List Store = (decision s w t).stores in
    let r = sourced s w t e in
    record {
      others = λ i p q a b. upd_all_other f ws i (unnamed s w t i p a b (occ_range_below i (filled f) (part_count s w - length (old_slots s f w) - length (members_of (free_list f))) q));
      free = λ i m. upd_all_other f ws i (still_free_lem s w t r i m);
      unused = λ i b. upd_all_other f ws i (still_unused s w t r i b);
      freed = λ i m. upd_all_short link_overhead i f ws (freed_stores s w t r i m);
      header = upd_all_short 16 0 f ws (laid s w t e).spares;
      header_too = λ q. upd_all_other f ws 0 (header_unnamed s w t r q);
      behind = λ i k h. upd_all_short k i f ws h;
      count = λ step h q. subst (λ (v : Writing). first (decision s v t).tests ≡ 0
          → (take (start_overhead s) (upd_all f (decision s v t).stores h) ≡ take (start_overhead s) (f h))
          × (drop (start_overhead s + count_bytes) (upd_all f (decision s v t).stores h) ≡ drop (start_overhead s + count_bytes) (f h))) (sym q) (count_spared s step h t) e;
    }

pub spared : (s : Settings) (w : Writing) (t : List ℕ) → Spared s w t (write s w t).1
unfolding run
spared s w t = record { slots = go (ℕ_discrete (first (decision s w t).tests) 0); long = (frame s (Write w) t).long; rest = (frame s (Write w) t).rest }
  where
    d : Decision
    d = decision s w t

    left : (first d.tests ≢ 0 → (write s w t).1 ≡ t) × (first d.tests ≡ 0 → (write s w t).1 ≡ store s.size t d.stores)
    left = unless_left (first d.tests) t (d.answer, store s.size t d.stores)

    go : Dec (first d.tests ≡ 0) → SparedSlots s w (view s.size t) (view s.size (write s w t).1) d.stores
    go (yes e) = rw (left.1 e, view_store s.size t d.stores (laid s w t e).fits) (slots_stored s w t e)
    go (no n) = rw (left.0 n) (slots_same s w (view s.size t) d.stores)

-- any call: one that looks leaves every byte
abbrev pub SparedBy : Settings → Call → List ℕ → List ℕ → Type 0
SparedBy s (Write w) t u = Spared s w t u
SparedBy s (Look c) t u = u ≡ t

pub call_spares : (s : Settings) (c : Call) (t : List ℕ) → SparedBy s c t (run s c t).after
unfolding run
call_spares s (Write w) t = spared s w t
call_spares s (Look c) t = refl

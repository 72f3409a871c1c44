-- The reads, each way out: refused by the checks that they share, by the output, or answered with what the chain holds.
use mathlib.Core.Path.{◌≡◌, refl, ap, ap₂, ◌∙◌}
use mathlib.Core.Bool.{Bool, true, false, cond}
use mathlib.Core.List.{List, [], ◌∷◌, ◌++◌}
use mathlib.Core.Option.{Option, none}
use Prim.Native.Nat.{ℕ, zero, suc, ◌+◌, ◌-◌, ◌≤◌, ◌<◌}
use native.Mathlib.Omega.{arith}
use lib.Dec.{eqb}
use lib.ListN.{length, take, drop, length-drop, length-append}
use lib.Seq.{take_all}
use borrow.Author.Tests.{lt-ltb, le-ltb, ne_eqb}
use Rattle.std.specs.Prelude.{Ok, Err, Result}
use Rattle.definition.specs.declared.Settings.{Settings}
use Rattle.definition.specs.declared.Refusal.{Refusal}
use Rattle.definition.specs.declared.Record.{Record}
use Rattle.definition.specs.Numbers.{put}
use Rattle.definition.specs.Tests.{number_of, first}
use Rattle.definition.specs.Settings.{prefix_len, head_overhead}
use Rattle.definition.specs.Slots.{View, view, filled, size_of, head_link, mark_of, count_of}
use Rattle.definition.specs.Chains.{head_fault, sized_body, rest_body, body_of, content_of, parts_from, with_total, whole, Walk, walk}
use Rattle.definition.specs.Answers.{Answer, refusal, found, found_of}
use Rattle.definition.specs.Calls.{capacity, table_tests, checked_key_test, slot_test, chain_tests, output_test, unless, read, fixed_tests, look_fixed, read_fixed, find_fixed, content_start, part_start}
use Rattle.laws.proofs.Conditions.{cond_yes, cond_no, which, Which, is_yes, is_no}
use Rattle.laws.proofs.Tests.{number_some, refuse_yes, refuse_no, first_pass, first_skip, first_one, first_refuses, first_past}
use Rattle.laws.proofs.Lists.{length_part}
use Rattle.laws.proofs.Puts.{put_front}
use Rattle.laws.proofs.Sizes.{Sizes, sizes}
use Rattle.laws.proofs.FixedParts.{size_fits, size_least, unchecked, look_found, fixed_part}
use Rattle.laws.proofs.Passed.{slot_passed, walk_fixed}
use Rattle.walks.specs.declared.Extent.{Extent}
use Rattle.walks.specs.Met.{ChainTested}
use Rattle.contents.specs.Pieces.{Copyable, content_at}
use Rattle.checks.proofs.RoomLaws.{filled_is}
use Rattle.reader.specs.declared.table.Table.{Table}
use Rattle.laws.proofs.Views.{within, length_view}
use Rattle.table.specs.Found.{FoundIs, told_of}
use Rattle.checks.proofs.CheckLaws.{first_refusal}
use Rattle.table.proofs.Outcomes.{refuses, accepts}

-- ---- a record whose tests passed

module _ (s : Settings) (f : View) (F h : ℕ) (z : Sizes s) (w : length (f h) ≡ s.size) (e : head_fault s none 8 (f h) ≡ 0) where
  -- the slot where a chain starts holds the whole prefix
  prefix_within : prefix_len s ≤ length (body_of s f (walk s f F h).slots)
  unfolding walk with_total body_of sized_body
  prefix_within = go (which s.multipart)
    where
      go : Which s.multipart → prefix_len s ≤ length (body_of s f (walk s f F h).slots)
      go (is_yes m) =
          let rest : Walk = parts_from s f F (mark_of s (f h)) true (F - 2) (head_link s (f h)) in
          let l : length (drop (head_overhead s) (f h) ++ rest_body f rest.slots) ≡ s.size - head_overhead s + length (rest_body f rest.slots) =
          rw (length-append, length-drop, w) refl in
          rw (ap (λ (x : Walk). x.slots) (cond_yes s.multipart (with_total s f h rest) (whole (h ∷ [])) m))
          (rw (cond_yes s.multipart (drop (head_overhead s) (f h) ++ rest_body f rest.slots) (sized_body (f h)) m) (omega (arith, l, z.roomy m)))
      go (is_no m) =
          let l : length (take (size_of (f h)) (drop 2 (f h))) ≡ size_of (f h) = length_part (f h) 2 (size_of (f h)) (omega (arith, size_fits s (f h) m e, z.least)) in
          rw (ap (λ (x : Walk). x.slots) (walk_fixed s f F h m))
          (rw (cond_no s.multipart (drop (head_overhead s) (f h) ++ rest_body f []) (sized_body (f h)) m) (omega (arith, l, size_least s (f h) m e)))

-- a chain whose tests passed, in an opened table
module _ (table : Table) (h : ℕ) (key : Option (List ℕ)) (x : Extent)
    (e : ChainTested (Ok x) table.layout.settings (view table.layout.settings.size table.bytes.now) h key) where
  chain : first (chain_tests table.layout.settings (view table.layout.settings.size table.bytes.now) h none) ≡ 0
  chain = unchecked table.layout.settings _ h key e.0

  pub head_filled : h < table.header.filled
  head_filled = omega (arith, filled_is table, (slot_passed (view table.layout.settings.size table.bytes.now) h (first_pass _ _ chain).0).1)

  pub prefixed : prefix_len table.layout.settings ≤ x.bytes
  prefixed =
      let f = view table.layout.settings.size table.bytes.now in
      let whole : length (f h) ≡ table.layout.settings.size = length_view table.layout.settings.size h table.bytes.now (within table.layout.settings.size h table.header.filled (length table.bytes.now) head_filled table.fits) in
      let c = first_pass (slot_test f h) _ chain in
      omega (arith, e.2, prefix_within table.layout.settings f (filled f) h (sizes table.layout.settings table.layout.good) whole (first_pass _ _ c.1).0)

  -- what is told of it
  pub told : checked_key_test table.layout.settings key ≡ 0 → (n : ℕ) → n ≡ prefix_len table.layout.settings → (mark : Bool) → mark ≡ mark_of table.layout.settings (view table.layout.settings.size table.bytes.now h)
      → (count : ℕ) → count ≡ count_of table.layout.settings (view table.layout.settings.size table.bytes.now h)
      → FoundIs (Ok (record { len = x.bytes - n; mark = mark; count = count; visits = x.parts })) table.layout.settings table.bytes.now h key
  unfolding content_of
  told k n p mark q count r = (first_skip (checked_key_test table.layout.settings key) _ k ∙ e.0, let l : x.bytes - n ≡ length (content_at table.layout.settings table.bytes.now h) = omega (arith, e.2, length-drop {A = ℕ}) in cc)

-- ---- the copying read

module _ (s : Settings) (t : List ℕ) (h : ℕ) (key : Option (List ℕ)) (out : List ℕ) where
  shared : List ℕ
  shared = checked_key_test s key ∷ chain_tests s (view s.size t) h key

  pub read_closed : (r : Refusal) → first (table_tests s (view s.size t) (capacity s t)) ≡ number_of r → (refusal (number_of r), out) ≡ read s key h t out
  unfolding read
  read_closed r e = refuses (number_of r) _ out _ (first_refusal r _ _ e) (number_some r)

  module _ (o : first (table_tests s (view s.size t) (capacity s t)) ≡ 0) where
    pub read_refused : (r : Refusal) → FoundIs (Err r) s t h key → (refusal (number_of r), out) ≡ read s key h t out
    unfolding read shared
    read_refused r e = refuses (number_of r) _ out _ (first_past _ _ o ∙ first_refusal r shared _ e) (number_some r)

    module _ (x : Record) (e : FoundIs (Ok x) s t h key) where
      last_test : first (table_tests s (view s.size t) (capacity s t) ++ (shared ++ (output_test (content_at s t h) out ∷ []))) ≡ output_test (content_at s t h) out
      unfolding shared
      last_test = first_past _ _ o ∙ first_past shared _ e.0 ∙ first_one _

      len_is : x.len ≡ length (content_at s t h)
      len_is = ap (λ (r : Record). r.len) e.1

      -- the content is longer than the output
      pub read_short : length out < x.len → (refusal 13, out) ≡ read s key h t out
      unfolding read shared output_test
      read_short b = refuses 13 _ out _ (last_test ∙ refuse_yes 13 _ (lt-ltb (length out) (length (content_at s t h)) (omega (arith, len_is)))) (omega arith)

      module _ (b : x.len ≤ length out) where
        pub copyable : Copyable s t h 0 x.len out
        copyable = record { table = o; chain = unchecked s _ h key (first_pass (checked_key_test s key) _ e.0).1; enough = omega (arith, len_is); room = b }

        -- it is copied
        pub read_done : (out' : List ℕ) → out' ≡ put out 0 (take x.len (drop 0 (content_at s t h))) → (found_of (Ok x), out') ≡ read s key h t out
        unfolding read shared output_test
        read_done out' w =
            let c = content_at s t h in
            let all : take x.len c ≡ c = take_all x.len c (omega (arith, len_is)) in
            ap₂ (λ (r : Record) (l : List ℕ). (found r.len r.mark r.count r.visits, l)) e.1 (w ∙ ap (put out 0) all ∙ put_front out c)
            ∙ accepts _ out _ (last_test ∙ refuse_no 13 _ (le-ltb (length out) (length c) (omega (arith, len_is))))

-- ---- the fixed read and its companion

module _ (s : Settings) (t : List ℕ) (h : ℕ) (key : Option (List ℕ)) where
  pub fixed_multi : s.multipart ≡ true → refusal 1 ≡ find_fixed s key h t
  unfolding find_fixed look_fixed fixed_tests
  fixed_multi m = ap (λ (a : Answer × List ℕ). a.0) (refuses 1 _ [] _ (first_refuses 1 _ _ (refuse_yes 1 s.multipart m) (omega arith)) (omega arith))

  module _ (m : s.multipart ≡ false) where
    rest : first (fixed_tests s key h t) ≡ first (table_tests s (view s.size t) (capacity s t) ++ (checked_key_test s key ∷ chain_tests s (view s.size t) h key))
    unfolding fixed_tests
    rest = first_skip _ _ (refuse_no 1 s.multipart m)

    -- a fixed chain is its slot alone
    alone : (walk s (view s.size t) (filled (view s.size t)) h).slots ≡ h ∷ []
    alone = ap (λ w. w.slots) (walk_fixed s (view s.size t) (filled (view s.size t)) h m)

    pub fixed_closed : (r : Refusal) → first (table_tests s (view s.size t) (capacity s t)) ≡ number_of r → refusal (number_of r) ≡ find_fixed s key h t
    unfolding find_fixed look_fixed
    fixed_closed r e =
        ap (λ (a : Answer × List ℕ). a.0) (refuses (number_of r) _ [] _ (rest ∙ first_refusal r _ _ e) (number_some r))

    pub fixed_decides : first (table_tests s (view s.size t) (capacity s t)) ≡ 0 → (r : Result Record Refusal) → FoundIs r s t h key → found_of r ≡ find_fixed s key h t
    unfolding find_fixed look_fixed
    fixed_decides o (Ok x) e =
        ap (λ (r : Record). found r.len r.mark r.count r.visits) (e.1 ∙ ap (told_of s (view s.size t) h) alone)
        ∙ ap (λ (a : Answer × List ℕ). a.0) (accepts _ [] _ (rest ∙ first_past _ _ o ∙ e.0))
    fixed_decides o (Err r) e = ap (λ (a : Answer × List ℕ). a.0) (refuses (number_of r) _ [] _ (rest ∙ first_past _ _ o ∙ e) (number_some r))

-- ---- the part that the fixed read hands back

-- an answer that refuses comes of a test that does
look_refused : (m len : ℕ) (mark : Bool) (k v n : ℕ) (c : List ℕ) → refusal n ≡ (unless m [] (found len mark k v, c)).0 → 0 < m
unfolding unless
look_refused zero len mark k v n c e = absurd (let z : ◌≡◌ {A = ℕ} 0 1 = cc in omega arith)
look_refused (suc m) len mark k v n c e = omega arith

module _ (s : Settings) (t : List ℕ) (h : ℕ) (key : Option (List ℕ)) where
  -- refused: the part is empty, and starts where the table does
  fixed_fails : (r : Refusal) → refusal (number_of r) ≡ find_fixed s key h t → 0 < first (fixed_tests s key h t)
  unfolding find_fixed look_fixed
  fixed_fails r e = look_refused _ _ _ _ _ _ _ e

  pub fixed_empty : (r : Refusal) → refusal (number_of r) ≡ find_fixed s key h t → [] ≡ read_fixed s key h t
  unfolding read_fixed look_fixed
  fixed_empty r e = ap (λ (a : Answer × List ℕ). a.1) (refuses (first (fixed_tests s key h t)) _ [] _ refl (fixed_fails r e))

  pub empty_start : (r : Refusal) → refusal (number_of r) ≡ find_fixed s key h t → part_start s key h t ≡ 0
  unfolding part_start
  empty_start r e = cond_no (eqb (first (fixed_tests s key h t)) 0) _ _ (ne_eqb (first (fixed_tests s key h t)) 0 (omega (arith, fixed_fails r e)))

  -- found: it lies within the table, after the size word and the prefix
  pub fixed_inside : (x : Record) → found_of (Ok x) ≡ find_fixed s key h t → content_start s h + x.len ≤ length t
  unfolding content_start
  fixed_inside x e = (fixed_part s t h key x.len x.mark x.count x.visits e).inside

  pub part_start_lem : (x : Record) → found_of (Ok x) ≡ find_fixed s key h t → part_start s key h t ≡ content_start s h
  unfolding find_fixed look_fixed part_start
  part_start_lem x e =
      let q = look_found (first (fixed_tests s key h t)) _ _ _ _ x.len x.mark x.count x.visits _ e in
      ap (λ (m : ℕ). cond (eqb m 0) (content_start s h) 0) q.0

  -- the part handed back, from its start to its end
  pub part_handed : (x : Record) → found_of (Ok x) ≡ find_fixed s key h t → (k : ℕ) → k ≡ content_start s h → take (k + x.len - k) (drop k t) ≡ read_fixed s key h t
  unfolding content_start
  part_handed x e k p =
      let n : k + x.len - k ≡ x.len = omega arith in
      rw n (ap (λ (j : ℕ). take x.len (drop j t)) p ∙ (fixed_part s t h key x.len x.mark x.count x.visits e).is)

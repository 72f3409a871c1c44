-- A change of the count on a sound table acts as the ledger does (`change_agrees`): the chain's new count is stored and answered, or
-- nothing is left and nothing is written, and all else of the chain and of the table stays.
use mathlib.Core.Path.{◌≡◌, refl, sym, ap, ◌∙◌, subst}
use mathlib.Core.Logic.{◌≢◌}
use Prim.Native.Nat.{ℕ, zero, suc, ◌+◌, ◌-◌, ◌^◌, ◌≤◌, ◌<◌, min}
use native.Mathlib.Omega.{arith}
use mathlib.Core.Bool.{true, cond, ◌&&◌, not}
use mathlib.Core.List.{List, [], ◌∷◌}
use mathlib.Core.Option.{Option, none, some}
use lib.IntN.{ℤ, pos, negsuc}
use lib.ListN.{length}
use lib.Dec.{eqb, leb, ltb}
use borrow.Author.Tests.{eqb-false, leb-false, not-false}
use Rattle.definition.specs.declared.Settings.{Settings}
use Rattle.definition.specs.Tests.{refuse}
use Rattle.definition.specs.Settings.{count_bytes, prefix_len, start_overhead}
use Rattle.definition.specs.Slots.{View, view, size_of, last_removed, filled, starts, count_of, key_of, mark_of, store}
use Rattle.definition.specs.FreeList.{free_list, members_of}
use Rattle.definition.specs.Chains.{head_fault, content_of}
use Rattle.definition.specs.Answers.{Answer, count}
use Rattle.definition.specs.Calls.{capacity, uncounted_test, table_tests, lowered, new_count, count_store, counted, Change, change}
use Rattle.definition.specs.Sound.{hit, occ, chain_at, SoundView, Sound}
use Rattle.definition.specs.Ledger.{Chain, Write, wrote, chain_test, recount, ledger_counted, ledger_change, ledger_step}
use Rattle.definition.specs.Run.{chain_on, ledger_view, ledger_of}
use Rattle.laws.proofs.Conditions.{cond_yes, cond_no, by_order, which, Which, is_yes, is_no}
use Rattle.laws.proofs.Tests.{passed, first_pass, first_cons, first_past}
use Rattle.laws.proofs.Views.{upd, upd_all, upd_same, upd_other}
use Rattle.laws.proofs.Counting.{hit_same}
use Rattle.laws.proofs.FreeLists.{free_frame}
use Rattle.laws.proofs.Chains.{ChainAt, chain_head, Same, chain_frame}
use Rattle.laws.proofs.Sizes.{slot_inside, slot_whole}
use Rattle.laws.proofs.Overheads.{count_inside}
use Rattle.laws.proofs.Counts.{count_over, count_long}
use Rattle.ledger.proofs.Invariant.{Started, Parted, owned_once, chain_counted, chains_apart, set_at, set_at_same, set_at_other}
use Rattle.ledger.proofs.Effects.{header_same}
use Rattle.ledger.proofs.SoundTables.{sound_tests, sound_open, sound_sizes, sound_last, sound_parted, parted_free_list, parted_chain_at, parted_sound}
use Rattle.ledger.proofs.Rewritten.{Rewritten}
use Rattle.ledger.proofs.Agrees.{Agrees, agree_unless, agree_stores, ledger_after}
use Rattle.ledger.proofs.LedgerTests.{head_tests, chain_there}
use Rattle.ledger.proofs.Recount.{recounted, recount_mark, recount_key, recount_count, recount_content, recount_chain}

-- ---- the new count

-- a count that is stored is not 0 and fits its four bytes
lowered_fits : (c m n : ℕ) → 0 < c → lowered c m ≡ some n → (0 < n) × (n < 256 ^ count_bytes)
unfolding lowered
lowered_fits c m n p e = go (which (leb 0xffff_ffff c)) (which (leb c m))
  where
    go : Which (leb 0xffff_ffff c) → Which (leb c m) → (0 < n) × (n < 256 ^ count_bytes)
    go (is_yes y) z =
        let q : some 0xffff_ffff ≡ some n = sym (cond_yes (leb 0xffff_ffff c) _ (cond (leb c m) none (some (c - m))) y) ∙ e in
        let r : 0xffff_ffff ≡ n = cc in
        (omega arith, omega arith)
    go (is_no y) (is_yes z) = absurd (
        let q : none ≡ some n = sym (cond_no (leb 0xffff_ffff c) (some 0xffff_ffff) (cond (leb c m) none (some (c - m))) y ∙ cond_yes (leb c m) none (some (c - m)) z) ∙ e in
        let r : ◌≡◌ {A = ℕ} 0 1 = cc in omega arith)
    go (is_no y) (is_no z) =
        let q : some (c - m) ≡ some n = sym (cond_no (leb 0xffff_ffff c) (some 0xffff_ffff) (cond (leb c m) none (some (c - m))) y ∙ cond_no (leb c m) none (some (c - m)) z) ∙ e in
        let r : c - m ≡ n = cc in
        (omega (arith, leb-false c m z), omega (arith, leb-false 0xffff_ffff c y))

count_fits : (c : ℕ) (d : ℤ) (n : ℕ) → 0 < c → new_count c d ≡ some n → (0 < n) × (n < 256 ^ count_bytes)
unfolding new_count
count_fits c (pos zero) n p e = lowered_fits c 0 n p e
count_fits c (pos (suc m)) n p e = let q : min 0xffff_ffff (c + suc m) ≡ n = cc in (omega arith, omega arith)
count_fits c (negsuc m) n p e = lowered_fits c (suc m) n p e

-- a head that passed has a count
head_count : (s : Settings) (b : List ℕ) → head_fault s none 8 b ≡ 0 → 0 < count_of s b
unfolding head_fault
head_count s b e =
    let a = first_pass (refuse 8 (not (starts s b))) _ e in
    let m = first_pass (refuse 9 (not s.multipart && ltb (size_of b) (prefix_len s))) _ a.1 in
    let c = first_pass (refuse 8 (eqb (count_of s b) 0)) _ m.1 in
    let n : count_of s b ≢ 0 = eqb-false (count_of s b) 0 (passed 8 (eqb (count_of s b) 0) (omega arith) c.0) in
    omega arith

-- ---- the view after

-- the chain at h on these slots, as a ledger has it
abbrev chain_of : Settings → View → ℕ → List ℕ → Chain
chain_of s f h l = record { slots = l; key = key_of s (f h); content = content_of s f l; mark = mark_of s (f h); count = count_of s (f h) }

module _ (s : Settings) (f g : View) (cap h c : ℕ) (k : SoundView s f cap) (d : s.counted ≡ true) (p : 0 < c) (q : c < 256 ^ count_bytes)
    (ch : ChainAt s f (filled f) h (chain_at s f h)) (len : start_overhead s + count_bytes ≤ length (f h))
    (gh : g h ≡ recounted (start_overhead s) c (f h)) (stays : (i : ℕ) → i ≢ h → g i ≡ f i) where
  v : Parted s f (filled f) (members_of (free_list f)) (chain_at s f)
  v = sound_parted s f cap k

  there : (0 < h) × (h < filled f) × (0 < occ h (chain_at s f h))
  there = chain_head s f (filled f) h (chain_at s f h) ch

  header : (last_removed g ≡ last_removed f) × (filled g ≡ filled f)
  header = header_same f g (stays 0 (omega (arith, there.0)))

  -- h is in no other chain, not free, and once in its own
  away : (j : ℕ) → j ≢ h → Same f g (chain_at s f j)
  away j ne i m = stays i (λ e. omega (arith, there.2, owned_once v h, chains_apart v j h h ne, subst (λ (x : ℕ). 0 < occ x (chain_at s f j)) e m))

  free_away : (i : ℕ) → 0 < occ i (members_of (free_list f)) → g i ≡ f i
  free_away i m = stays i (λ e. omega (arith, there.2, owned_once v h, chain_counted v h h, subst (λ (x : ℕ). 0 < occ x (members_of (free_list f))) e m))

  tail_away : (x : ℕ) (l : List ℕ) → chain_at s f h ≡ x ∷ l → x ≡ h → Same f g l
  unfolding occ
  tail_away x l e ex i m =
      stays i (λ ei. omega (arith, owned_once v h, chain_counted v h h, ap (occ h) e, subst (λ (y : ℕ). hit h y ≡ 1) (sym ex) (hit_same h), subst (λ (y : ℕ). 0 < occ y l) ei m))

  own : (l : List ℕ) → chain_at s f h ≡ l → ChainAt s f (filled f) h l → Started s g (filled f) h l
  own [] e r = absurd r
  own (x ∷ l) e r = recount_chain s f g c h l len gh (tail_away x l e r.0) (filled f) x d p q r

  other : (j : ℕ) (l : List ℕ) → chain_at s f j ≡ l → j ≢ h → Started s f (filled f) j l → Started s g (filled f) j l
  other j [] e ne r = rw (stays j ne) r
  other j (x ∷ l) e ne r = chain_frame s f g (filled f) (filled f) j (x ∷ l) (omega arith) (λ i m. away j ne i (rw e m)) r

  recount_parted : Parted s g (filled g) (members_of (free_list f)) (chain_at s f)
  recount_parted = rw header.1 (record {
    pos = v.pos;
    listed = free_frame f g (filled f) (filled f) _ (members_of (free_list f)) (omega arith) free_away v.listed;
    chains = λ j a b. by_order h j
        (λ x. other j (chain_at s f j) refl (omega arith) (v.chains j a b))
        (λ (e : j ≡ h). rw e (own (chain_at s f h) refl ch))
        (λ x. other j (chain_at s f j) refl (omega arith) (v.chains j a b));
    at_zero = v.at_zero;
    above = v.above;
    once = v.once;
  })

  -- the chain keeps its slots
  set_itself : (j : ℕ) → chain_at s f j ≡ set_at (chain_at s f) h (chain_at s f h) j
  set_itself j =
      by_order h j
      (λ b. sym (set_at_other (chain_at s f) h (chain_at s f h) j (omega arith)))
      (λ e. ap (chain_at s f) e ∙ sym (set_at_same (chain_at s f) h (chain_at s f h)) ∙ ap (set_at (chain_at s f) h (chain_at s f h)) (sym e))
      (λ b. sym (set_at_other (chain_at s f) h (chain_at s f h) j (omega arith)))

  pub recount_rewritten : Rewritten s f g cap h (chain_at s f h) (members_of (free_list f)) (filled f)
  recount_rewritten =
      let hi = (sound_sizes s f cap k).largest in
      let last = header.0 ∙ sound_last s f cap k in
      let o = sound_open s f cap k in
      record {
        sound = parted_sound s g _ _ recount_parted hi last cap o.settings (omega (arith, header.1, o.fits));
        filled_is = header.1;
        free_is = parted_free_list s g _ _ recount_parted hi last;
        chains_are = λ j. parted_chain_at s g _ _ recount_parted hi last j ∙ set_itself j;
        others_stay = away;
      }

  -- and has the new count
  pub recount_on : (x : ℕ) (l : List ℕ) → chain_at s f h ≡ x ∷ l → x ≡ h → chain_on s g h (x ∷ l) ≡ some (recount c (chain_of s f h (x ∷ l)))
  unfolding chain_on recount
  recount_on x l e ex =
      let key : key_of s (g h) ≡ key_of s (f h) = rw gh (recount_key s c (f h) len d) in
      let mark : mark_of s (g h) ≡ mark_of s (f h) = rw gh (recount_mark s c (f h) len) in
      let cnt : count_of s (g h) ≡ c = rw gh (recount_count s c (f h) len d q) in
      let content : content_of s g (x ∷ l) ≡ content_of s f (x ∷ l) = rw ex (recount_content s f g c h l len gh (tail_away x l e ex) d) in
      λ i. some (record { slots = x ∷ l; key = key i; content = content i; mark = mark i; count = cnt i })

-- ---- the call

module _ (s : Settings) (t : List ℕ) (h : ℕ) (k : Sound s t) (d : s.counted ≡ true) where
  -- the answer and the table where the new count is o
  abbrev stepped : Option ℕ → Answer × List ℕ
  stepped o = let out = counted s h (view s.size t h) o in (out.0, store s.size t out.1)

  stored_agrees : (n x : ℕ) (l : List ℕ) → 0 < n → n < 256 ^ count_bytes → chain_at s (view s.size t) h ≡ x ∷ l
      → ChainAt s (view s.size t) (filled (view s.size t)) h (x ∷ l)
      → Agrees s t h (wrote (stepped (some n))) (wrote (ledger_counted (ledger_of s t) h (chain_of s (view s.size t) h (x ∷ l)) (some n)))
  unfolding count_store counted ledger_counted ledger_view recounted upd_all
  stored_agrees n x l p q e c =
      let f : View = view s.size t in
      let cap : ℕ = capacity s t in
      let below : h < cap = omega (arith, c.2, (sound_open s f cap k).fits) in
      let inside : start_overhead s + count_bytes ≤ s.size = count_inside s (sound_sizes s f cap k) d in
      let len : start_overhead s + count_bytes ≤ length (f h) = rw (slot_whole s t h below) inside in
      let bs : List ℕ = (count_store s h (f h) n).1 in
      let long : length bs ≤ s.size = count_long s h (f h) n s.size inside (omega arith) (omega (arith, slot_whole s t h below)) in
      let gh : upd f h bs h ≡ recounted (start_overhead s) n (f h) = upd_same f h bs ∙ count_over s h (f h) n (omega arith) in
      let ch : ChainAt s f (filled f) h (chain_at s f h) = rw e c in
      let stays : (i : ℕ) → i ≢ h → upd f h bs i ≡ f i = λ i ne. upd_other f h i bs ne in
      let r : Rewritten s f (upd f h bs) cap h (chain_at s f h) (members_of (free_list f)) (filled f) =
      recount_rewritten s f (upd f h bs) cap h n k d p q ch len gh stays in
      agree_stores s t h ((h, bs) ∷ []) (count n) _ (long, slot_inside s t h below, tt) r.sound
      (ledger_after s f (upd f h bs) cap h (chain_at s f h) (members_of (free_list f)) (filled f) _ k r
      (ap (chain_on s (upd f h bs) h) e ∙ recount_on s f (upd f h bs) cap h n k d p q ch len gh stays x l e c.0))
      r.others_stay

  counted_agrees : (x : ℕ) (l : List ℕ) (o : Option ℕ) (step : ℤ) → new_count (count_of s (view s.size t h)) step ≡ o
      → chain_at s (view s.size t) h ≡ x ∷ l → ChainAt s (view s.size t) (filled (view s.size t)) h (x ∷ l)
      → Agrees s t h (wrote (stepped o)) (wrote (ledger_counted (ledger_of s t) h (chain_of s (view s.size t) h (x ∷ l)) o))
  unfolding store counted ledger_counted
  counted_agrees x l none step e ce c = record { sound = k; long = refl; answers = refl; ledgers = refl; outputs = refl; keeps = λ j ne i m. refl }
  counted_agrees x l (some n) step e ce c =
      let b = count_fits (count_of s (view s.size t h)) step n (head_count s (view s.size t h) c.3) e in
      stored_agrees n x l b.0 b.1 ce c

  step_agrees : (l : List ℕ) (step : ℤ) → chain_at s (view s.size t) h ≡ l → ChainAt s (view s.size t) (filled (view s.size t)) h l
      → Agrees s t h (wrote (stepped (new_count (count_of s (view s.size t h)) step))) (wrote (ledger_change (ledger_of s t) h step (chain_on s (view s.size t) h l)))
  unfolding ledger_change chain_on
  step_agrees [] step e c = absurd c
  step_agrees (x ∷ l) step e c = counted_agrees x l (new_count (count_of s (view s.size t h)) step) step refl e c

pub change_agrees : (s : Settings) (t : List ℕ) (step : ℤ) (h : ℕ) → Sound s t
    → Agrees s t h (wrote (change s step h t)) (ledger_step s (capacity s t) (Write (Change step h)) (ledger_of s t))
unfolding change ledger_step ledger_view uncounted_test
change_agrees s t step h k =
    let f : View = view s.size t in
    let cap : ℕ = capacity s t in
    agree_unless s t h _ _ _ _
    (first_past (table_tests s f cap) _ (sound_tests s f cap k) ∙ first_cons (uncounted_test s) _ _ (head_tests s f cap k h))
    k (λ e.
    let a = first_pass (uncounted_test s) _ e in
    let b = first_pass (chain_test (ledger_of s t) h) _ a.1 in
    step_agrees s t h k (not-false s.counted (passed 5 (not s.counted) (omega arith) a.0)) (chain_at s f h) step refl (chain_there s f cap k h b.0).0)

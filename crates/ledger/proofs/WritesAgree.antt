-- Insert, replace and remove on a sound table act as the ledger does (`insert_agrees`, `replace_agrees`, `remove_agrees`): the same tests
-- refuse, and where none does the table afterwards is sound and holds the ledger's chains, free list and FILLED.
use mathlib.Core.Path.{◌≡◌, refl, ◌∙◌}
use Prim.Native.Nat.{ℕ, zero, suc, ◌-◌, ◌*◌, ◌^◌, ◌≤◌, ◌<◌}
use native.Mathlib.Nat.{div-mul-le_self}
use native.Mathlib.Omega.{arith}
use mathlib.Core.Bool.{Bool, false}
use mathlib.Core.List.{List, [], ◌∷◌, ◌++◌, head_d}
use mathlib.Core.Option.{none}
use lib.ListN.{length}
use Rattle.definition.specs.declared.Settings.{Settings}
use Rattle.definition.specs.Settings.{link_bytes}
use Rattle.definition.specs.Slots.{View, view, filled, store}
use Rattle.definition.specs.FreeList.{free_list, members_of}
use Rattle.definition.specs.Parts.{prefix}
use Rattle.definition.specs.Effect.{new_slots, free_after, filled_after, effect}
use Rattle.definition.specs.Answers.{Answer, accepted}
use Rattle.definition.specs.Calls.{capacity, key_test, value_test, free_list_test, room_test, table_tests, insert, replace, remove, Insert, Replace, Remove}
use Rattle.definition.specs.Sound.{occ, chain_at, SoundView, Sound}
use Rattle.definition.specs.Ledger.{Write, wrote, with_chain, new_chain, chain_test, target, ledger_step}
use Rattle.definition.specs.Run.{chain_on, ledger_view, ledger_of}
use Rattle.laws.proofs.Tests.{first_skip, first_pass, first_cons, first_past, first_one}
use Rattle.laws.proofs.Counting.{occ_range_below}
use Rattle.laws.proofs.Stores.{length_new, effect_owns}
use Rattle.laws.proofs.Chains.{ChainAt}
use Rattle.laws.proofs.Sizes.{slot_whole, capacity_small, room_fits}
use Rattle.laws.proofs.Parts.{pieces_some}
use Rattle.laws.proofs.NewChains.{pieces_cut}
use Rattle.laws.proofs.Fitting.{cut_any, effect_fits}
use Rattle.ledger.proofs.Invariant.{Parted, chain_members, own_head, owned_once, chain_counted, after_in}
use Rattle.ledger.proofs.SoundTables.{sound_tests, sound_free_test, sound_open, sound_sizes, sound_parted}
use Rattle.ledger.proofs.Rewritten.{cut_of, new_of, free_of, filled_of, stores_of, Rewritten, Written, written, removed, head_member}
use Rattle.ledger.proofs.Agrees.{Agrees, agree_unless, agree_stores, ledger_after, holds_chain}
use Rattle.ledger.proofs.LedgerTests.{slots_on, chain_tests_only, chain_there}

-- all slots together are no longer than the table
slots_short : (s : Settings) (t : List ℕ) (n : ℕ) → length t < n → capacity s t * s.size < n
unfolding capacity
slots_short s t n h = omega (arith, div-mul-le_self (length t) s.size)

-- ---- insert and replace

-- a chain written over the slots of the chain at hd, which is none for insert
module _ (s : Settings) (t key content : List ℕ) (mark : Bool) (k : Sound s t) (bound : length t < 256 ^ link_bytes)
    (kt : key_test s key ≡ 0) (vt : value_test s content ≡ 0) where
  write_agrees : (hd : ℕ) (old : List ℕ) → chain_at s (view s.size t) hd ≡ old
      → room_test (capacity s t) (filled (view s.size t)) (members_of (free_list (view s.size t))) (length (cut_of s key content) - length old) ≡ 0
      → head_d (new_of s (view s.size t) key content old) 0 ≡ hd → (a : Answer)
      → Agrees s t hd (wrote (a, store s.size t (stores_of s (view s.size t) key content mark old)))
      (wrote (
        a,
        with_chain (ledger_of s t) hd (new_chain s key content mark (new_of s (view s.size t) key content old)) (free_of s (view s.size t) key content old)
            (filled_of s (view s.size t) key content old),
      ))
  write_agrees hd old isOld rt is_head a =
      let f : View = view s.size t in
      let cap : ℕ = capacity s t in
      let room : filled_of s f key content old ≤ cap = room_fits cap (filled f) old (members_of (free_list f)) (length (cut_of s key content)) (sound_open s f cap k).fits rt in
      let w : Written s f cap hd key content mark old =
      written s f cap k (slot_whole s t) (slots_short s t (256 ^ link_bytes) bound) hd key content mark kt vt old isOld room is_head in
      let c = pieces_cut s key content (sound_sizes s f cap k) kt vt in
      agree_stores s t hd (stores_of s f key content mark old) a _
      (effect_fits s t mark (length content) (filled f) (filled_of s f key content old) old (members_of (free_list f)) (cut_of s key content)
      (sound_sizes s f cap k) (cut_any s (cut_of s key content) c.0) (sound_open s f cap k).buffer room w.new_in w.free_in)
      w.after.sound
      (ledger_after s f _ cap hd (new_of s f key content old) (free_of s f key content old) (filled_of s f key content old) _ k w.after
      (holds_chain s _ _ hd (new_of s f key content old) key content mark w.holds))
      w.after.others_stay

-- a slot that insert takes heads no chain
fresh_head : (s : Settings) (f : View) (cap : ℕ) (k : SoundView s f cap) (n : ℕ) → 0 < n → chain_at s f (head_d (new_slots [] (members_of (free_list f)) (filled f) n) 0) ≡ []
unfolding occ
fresh_head s f cap k n p = go (chain_at s f hd) refl
  where
    free : List ℕ
    free = members_of (free_list f)

    hd : ℕ
    hd = head_d (new_slots [] free (filled f) n) 0

    v : Parted s f (filled f) free (chain_at s f)
    v = sound_parted s f cap k

    go : (l : List ℕ) → chain_at s f hd ≡ l → l ≡ []
    go [] e = refl
    go (x ∷ l) e =
        let m : 0 < occ hd (chain_at s f hd) = own_head v hd (rw e (omega arith)) in
        absurd (omega (
          arith,
          owned_once v hd,
          chain_counted v hd hd,
          effect_owns [] free (filled f) n hd,
          occ_range_below hd (filled f) (n - length {A = ℕ} [] - length free) (chain_members v hd hd m).1,
          head_member (new_slots [] free (filled f) n) (omega (arith, length_new [] free (filled f) n)),
        ))

sub_none : (n : ℕ) → n - length {A = ℕ} [] ≡ n
sub_none n = omega arith

pub insert_agrees : (s : Settings) (t key content : List ℕ) (mark : Bool) → Sound s t → length t < 256 ^ link_bytes
    → Agrees s t (target s (Write (Insert key content mark)) (ledger_of s t)) (wrote (insert s key content mark t))
    (ledger_step s (capacity s t) (Write (Insert key content mark)) (ledger_of s t))
unfolding insert ledger_step ledger_view target
insert_agrees s t key content mark k bound =
    let f : View = view s.size t in
    let cap : ℕ = capacity s t in
    agree_unless s t _ _ _ _ _
    (first_past (table_tests s f cap) _ (sound_tests s f cap k)
    ∙ first_cons (key_test s key) _ _ (first_cons (value_test s content) _ _ (first_skip (free_list_test (free_list f)) _ (sound_free_test s f cap k))))
    k (λ e.
    let a = first_pass (key_test s key) _ e in
    let b = first_pass (value_test s content) _ a.1 in
    write_agrees s t key content mark k bound a.0 b.0 _ []
    (fresh_head s f cap k (length (cut_of s key content)) (pieces_some s (prefix s key ++ content)))
    (rw (sub_none (length (cut_of s key content))) (first_pass _ _ b.1).0) refl _)

-- the head of the new chain is that of the old one
head_kept : (s : Settings) (f : View) (F h : ℕ) (old free : List ℕ) (n : ℕ) → ChainAt s f F h old → 0 < n → head_d (new_slots old free F n) 0 ≡ h
unfolding new_slots head_d
head_kept s f F h [] free n c p = absurd c
head_kept s f F h (x ∷ l) free zero c p = absurd (omega arith)
head_kept s f F h (x ∷ l) free (suc n) c p = c.0

pub replace_agrees : (s : Settings) (t key content : List ℕ) (mark : Bool) (h : ℕ) → Sound s t → length t < 256 ^ link_bytes
    → Agrees s t h (wrote (replace s key content mark h t)) (ledger_step s (capacity s t) (Write (Replace key content mark h)) (ledger_of s t))
unfolding replace ledger_step ledger_view
replace_agrees s t key content mark h k bound =
    let f : View = view s.size t in
    let cap : ℕ = capacity s t in
    let old : List ℕ = chain_at s f h in
    let n : ℕ = length (cut_of s key content) in
    agree_unless s t h _ _ _ _
    (first_past (table_tests s f cap) _ (sound_tests s f cap k)
    ∙ first_cons (key_test s key) _ _ (first_cons (value_test s content) _ _ (chain_tests_only s f cap k h _ _ (λ c d.
    first_skip (free_list_test (free_list f)) _ (sound_free_test s f cap k) ∙ rw (d, slots_on s f h old) refl))))
    k (λ e.
    let a = first_pass (key_test s key) _ e in
    let b = first_pass (value_test s content) _ a.1 in
    let c = first_pass (chain_test (ledger_of s t) h) _ b.1 in
    let there = chain_there s f cap k h c.0 in
    let room : room_test cap (filled f) (members_of (free_list f)) (n - length old) ≡ 0 = rw (slots_on s f h old) at (first_pass _ _ c.1).0 in
    rw (there.1, slots_on s f h old)
    (write_agrees s t key content mark k bound a.0 b.0 h old refl room
    (head_kept s f (filled f) h old (members_of (free_list f)) n there.0 (pieces_some s (prefix s key ++ content))) accepted))

-- ---- remove

no_chain : (s : Settings) (g : View) (h : ℕ) → chain_on s g h [] ≡ none
unfolding chain_on
no_chain s g h = refl

erase_agrees : (s : Settings) (t : List ℕ) (h : ℕ) (k : Sound s t) (bound : length t < 256 ^ link_bytes)
    → ChainAt s (view s.size t) (filled (view s.size t)) h (chain_at s (view s.size t) h)
    → Agrees s t h (wrote (accepted, store s.size t (effect s false 0 [] (chain_at s (view s.size t) h) (members_of (free_list (view s.size t))) (filled (view s.size t)))))
    (wrote (
      accepted,
      with_chain (ledger_of s t) h none (free_after (chain_at s (view s.size t) h) (members_of (free_list (view s.size t))) 0)
          (filled_after (chain_at s (view s.size t) h) (members_of (free_list (view s.size t))) (filled (view s.size t)) 0),
    ))
erase_agrees s t h k bound c =
    let f : View = view s.size t in
    let F : ℕ = filled f in
    let free : List ℕ = members_of (free_list f) in
    let cap : ℕ = capacity s t in
    let old : List ℕ = chain_at s f h in
    let v : Parted s f F free (chain_at s f) = sound_parted s f cap k in
    let r : Rewritten s f _ cap h [] (free_after old free 0) (filled_after old free F 0) = removed s f cap k (capacity_small s t (256 ^ link_bytes) bound) h c in
    agree_stores s t h (effect s false 0 [] old free F) accepted _
    (effect_fits s t false 0 F (filled_after old free F 0) old free [] (sound_sizes s f cap k) tt (sound_open s f cap k).buffer
    (omega (arith, r.filled_is, (sound_open s _ cap r.sound).fits)) (λ i m. after_in v h 0 i (omega arith)) (λ i m. after_in v h 0 i (omega arith)))
    r.sound
    (ledger_after s f _ cap h [] (free_after old free 0) (filled_after old free F 0) none k r (no_chain s _ h))
    r.others_stay

pub remove_agrees : (s : Settings) (t : List ℕ) (h : ℕ) → Sound s t → length t < 256 ^ link_bytes
    → Agrees s t h (wrote (remove s h t)) (ledger_step s (capacity s t) (Write (Remove h)) (ledger_of s t))
unfolding remove ledger_step ledger_view
remove_agrees s t h k bound =
    let f : View = view s.size t in
    let cap : ℕ = capacity s t in
    agree_unless s t h _ _ _ _
    (first_past (table_tests s f cap) _ (sound_tests s f cap k)
    ∙ chain_tests_only s f cap k h (free_list_test (free_list f) ∷ []) [] (λ c d. first_skip (free_list_test (free_list f)) [] (sound_free_test s f cap k))
    ∙ first_one (chain_test (ledger_of s t) h))
    k (λ e.
    let there = chain_there s f cap k h e in
    rw (there.1, slots_on s f h (chain_at s f h)) (erase_agrees s t h k bound there.0))

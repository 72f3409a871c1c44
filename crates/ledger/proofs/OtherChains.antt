-- Demand 3's sentence: on a sound table no call changes a byte in a slot of a chain other than the one that it is about (`others_kept`). It
-- follows from what a call spares on any table (Spared): there a slot has one owner. Insert is about the chain that it makes, so it changes
-- no byte in a slot of any chain that is there. No bound on the table's length is needed.
use mathlib.Core.Path.{◌≡◌, refl, sym, ap, ◌∙◌}
use mathlib.Core.Logic.{◌≢◌}
use Prim.Native.Nat.{ℕ, ◌-◌, ◌≤◌, ◌<◌}
use native.Mathlib.Omega.{arith}
use native.Mathlib.Decide.{ℕ_discrete}
use mathlib.Core.List.{List}
use mathlib.Core.Option.{none}
use lib.ListN.{length}
use Rattle.definition.specs.declared.Settings.{Settings}
use Rattle.definition.specs.Tests.{first}
use Rattle.definition.specs.Slots.{View, view, filled}
use Rattle.definition.specs.FreeList.{free_list, members_of}
use Rattle.definition.specs.Chains.{head_fault, walk}
use Rattle.definition.specs.Calls.{capacity, uncounted_test, slot_test, table_tests, value_tests, chain_tests, Writing, Insert, Replace, Remove, Change, decision, write}
use Rattle.definition.specs.Sound.{occ, chain_at, Sound}
use Rattle.definition.specs.Ledger.{Call, Write, Look, chain_test, target}
use Rattle.definition.specs.Run.{ledger_of, run}
use Rattle.laws.proofs.Tests.{first_pass, first_skip, first_both, first_one}
use Rattle.laws.proofs.Counting.{hit_same, hit_other, occ_cut}
use Rattle.laws.proofs.Chains.{ChainAt, chain_head}
use Rattle.ledger.proofs.Invariant.{chain_members, chains_apart, owned_once}
use Rattle.ledger.proofs.SoundTables.{sound_parted}
use Rattle.ledger.proofs.LedgerTests.{head_tests, chain_there}
use Rattle.ledger.proofs.Sources.{old_slots, part_count}
use Rattle.ledger.proofs.Frame.{framed}
use Rattle.ledger.proofs.Spared.{spared}

module _ (s : Settings) (t : List ℕ) (k : Sound s t) where
  -- a head that passed starts a chain, which is what a walk from it meets
  there : (h : ℕ) → slot_test (view s.size t) h ≡ 0 → head_fault s none 8 (view s.size t h) ≡ 0
      → ChainAt s (view s.size t) (filled (view s.size t)) h (chain_at s (view s.size t) h)
      × ((walk s (view s.size t) (filled (view s.size t)) h).slots ≡ chain_at s (view s.size t) h)
  there h a b =
      let f : View = view s.size t in
      chain_there s f (capacity s t) k h
      (sym (first_one (chain_test (ledger_of s t) h)) ∙ sym (head_tests s f (capacity s t) k h) ∙ first_skip (slot_test f h) _ a ∙ first_one (head_fault s none 8 (f h)) ∙ b)

  walked_chain : (h : ℕ) → first (chain_tests s (view s.size t) h none) ≡ 0 → (walk s (view s.size t) (filled (view s.size t)) h).slots ≡ chain_at s (view s.size t) h
  walked_chain h e =
      let a = first_pass (slot_test (view s.size t) h) _ e in
      (there h a.0 (first_pass (head_fault s none 8 (view s.size t h)) _ a.1).0).1

  -- what a call finds is the chain that it is about
  found_chain : (w : Writing) → first (decision s w t).tests ≡ 0 → (i : ℕ)
      → occ i (old_slots s (view s.size t) w) ≤ occ i (chain_at s (view s.size t) (target s (Write w) (ledger_of s t)))
  unfolding target occ
  found_chain (Insert key content mark) e i = omega arith
  found_chain (Replace key content mark h) e i =
      let a = first_both (table_tests s (view s.size t) (capacity s t)) _ e in
      let b = first_both (value_tests s key content) _ a.1 in
      rw (walked_chain h (first_both (chain_tests s (view s.size t) h none) _ b.1).0) (omega arith)
  found_chain (Remove h) e i =
      let a = first_both (table_tests s (view s.size t) (capacity s t)) _ e in
      rw (walked_chain h (first_both (chain_tests s (view s.size t) h none) _ a.1).0) (omega arith)
  found_chain (Change step h) e i =
      let f : View = view s.size t in
      let a = first_both (table_tests s f (capacity s t)) _ e in
      let u = first_pass (uncounted_test s) _ a.1 in
      let c = first_pass (slot_test f h) _ u.1 in
      let d = first_pass (head_fault s none 8 (f h)) _ c.1 in
      let own = (chain_head s f (filled f) h (chain_at s f h) (there h c.0 d.0).0).2 in
      elim (ℕ_discrete i h) [ yes q ↦ rw q (omega (arith, own, hit_same h)) | no q ↦ omega (arith, hit_other i h q) ]

  others_written : (w : Writing) (j : ℕ) → j ≢ target s (Write w) (ledger_of s t) → (i : ℕ) → 0 < occ i (chain_at s (view s.size t) j)
      → view s.size (write s w t).1 i ≡ view s.size t i
  others_written w j ne i m = go (ℕ_discrete (first (decision s w t).tests) 0)
    where
      f : View
      f = view s.size t

      go : Dec (first (decision s w t).tests ≡ 0) → view s.size (write s w t).1 i ≡ f i
      go (no q) = ap (λ (u : List ℕ). view s.size u i) ((framed s w t).refused q)
      go (yes e) =
          let v = sound_parted s f (capacity s t) k in
          let inside = chain_members v j i m in
          let once = owned_once v i in
          let two = chains_apart v j (target s (Write w) (ledger_of s t)) i ne in
          let mine = found_chain w e i in
          let cut = occ_cut i (part_count s w - length (old_slots s f w)) (members_of (free_list f)) in
          (spared s w t).slots.others i inside.0 inside.1 (omega (arith, m, once, two, mine)) (omega (arith, m, once, two, cut))

pub others_kept : (s : Settings) (c : Call) (t : List ℕ) → Sound s t → (j : ℕ) → j ≢ target s c (ledger_of s t)
    → (i : ℕ) → 0 < occ i (chain_at s (view s.size t) j) → view s.size (run s c t).after i ≡ view s.size t i
unfolding run
others_kept s (Write w) t k j ne i m = others_written s t k w j ne i m
others_kept s (Look c) t k j ne i m = refl

-- A sound table is parted into its free list and its chains (`sound_parted`), and a parted one with a good header is sound, with that
-- free list and those chains (`parted_sound`, `parted_free_list`, `parted_chain_at`). Also what soundness says of the tests of a call.
use mathlib.Core.Path.{◌≡◌, refl, sym, ap, ap₂, ◌∙◌, subst, fun_ext}
use Prim.Native.Nat.{ℕ, ◌+◌, ◌-◌, ◌≤◌, ◌<◌}
use native.Mathlib.Omega.{arith}
use native.Mathlib.Decide.{dec_lt}
use mathlib.Core.Bool.{true, false, cond}
use mathlib.Core.List.{List, [], ◌∷◌, head_d}
use mathlib.Core.Option.{Option, none, some}
use lib.ListN.{length}
use Rattle.definition.specs.declared.Settings.{Settings}
use Rattle.definition.specs.Tests.{first}
use Rattle.definition.specs.Settings.{bad_settings, largest_size}
use Rattle.definition.specs.Slots.{View, last_removed, filled, starts}
use Rattle.definition.specs.FreeList.{free_list, members_of}
use Rattle.definition.specs.Chains.{Walk, whole, walk, head_fault}
use Rattle.definition.specs.Calls.{free_list_test, table_tests}
use Rattle.definition.specs.Sound.{occ, starts_at, chain_at, SoundView}
use Rattle.laws.proofs.Conditions.{cond_yes, cond_no, by_order, which, Which, is_yes, is_no, yes-no}
use Rattle.laws.proofs.Tests.{first_skip, first_pass, first_both, first_past, first_one}
use Rattle.laws.proofs.Counting.{sum_to, pigeon}
use Rattle.laws.proofs.FreeLists.{FreeAt, walk_free, free_head, free_below}
use Rattle.laws.proofs.Chains.{chain_walk, walk_chain, head_starts}
use Rattle.laws.proofs.Sizes.{Sizes, sizes}
use Rattle.laws.proofs.Starts.{filled_pos, starts_at_zero, starts_at_in, starts_at_above, chain_at_zero, chain_at_above, chain_at_in}
use Rattle.laws.proofs.Passed.{Opened, opened, open_tests, free_passed}
use Rattle.ledger.proofs.Owners.{owners_sum}
use Rattle.ledger.proofs.Invariant.{Started, started, Parted, chain_members, free_members, owned_once, chain_counted}

-- ---- a sound table is parted

module _ (s : Settings) (f : View) (cap : ℕ) (k : SoundView s f cap) where
  pub sound_tests : first (table_tests s f cap) ≡ 0
  sound_tests = (first_both (table_tests s f cap) _ k.accepted).0

  pub sound_free_test : free_list_test (free_list f) ≡ 0
  sound_free_test = (first_pass (free_list_test (free_list f)) [] (first_both (table_tests s f cap) _ k.accepted).1).0

  pub sound_open : Opened s f cap
  sound_open = opened s f cap sound_tests

  pub sound_sizes : Sizes s
  sound_sizes = sizes s sound_open.settings

  pub sound_last : last_removed f ≡ head_d (members_of (free_list f)) 0
  sound_last = free_head f (filled f) (last_removed f) (members_of (free_list f)) (free_passed f sound_free_test)

  -- from 1 up to FILLED a chain is well formed and found by its walk, or there is none
  pub sound_chain : (h : ℕ) → 0 < h → h < filled f → Started s f (filled f) h (chain_at s f h)
  sound_chain h p q = rw (chain_at_in s f h p q) (go (which (starts s (f h))))
    where
      go : Which (starts s (f h)) → Started s f (filled f) h (cond (starts s (f h)) (walk s f (filled f) h).slots [])
      go (is_yes e) =
          let a = first_pass (head_fault s none 8 (f h)) _ (k.formed h (starts_at_in s f h p q ∙ e)) in
          let b = first_pass (walk s f (filled f) h).fault [] a.1 in
          rw (cond_yes (starts s (f h)) (walk s f (filled f) h).slots [] e)
          (started s f (filled f) h (walk s f (filled f) h).slots (chain_walk s f (filled f) h p q a.0 b.0).0)
      go (is_no e) = rw (cond_no (starts s (f h)) (walk s f (filled f) h).slots [] e) e

  pub sound_parted : Parted s f (filled f) (members_of (free_list f)) (chain_at s f)
  sound_parted = record {
    pos = filled_pos f;
    listed = subst (λ (a : ℕ). FreeAt f (filled f) a (members_of (free_list f))) sound_last (free_passed f sound_free_test);
    chains = sound_chain;
    at_zero = chain_at_zero s f;
    above = chain_at_above s f;
    once = λ i p q. sym (owners_sum s f i) ∙ k.once i p q;
  }

-- ---- and a parted one is sound, with these chains and this free list

module _ (s : Settings) (f : View) (free : List ℕ) (ch : ℕ → List ℕ) (v : Parted s f (filled f) free ch) (hi : s.size ≤ largest_size)
    (last : last_removed f ≡ head_d free 0) where
  pub parted_free_list : free_list f ≡ some free
  unfolding free_list
  parted_free_list =
      walk_free f (filled f) (filled f - 1) (last_removed f) free (rw last v.listed)
      (pigeon (filled f) free (free_members v) (λ i. omega (arith, owned_once v i)))

  -- the walk of a chain that starts
  parted_walk : (h : ℕ) (l : List ℕ) → ch h ≡ l → 0 < length l → Started s f (filled f) h l → walk s f (filled f) h ≡ whole l
  parted_walk h [] e p r = absurd (omega arith)
  parted_walk h (x ∷ l) e p r =
      walk_chain s f (filled f) h (x ∷ l) hi
      (subst (λ (m : List ℕ). length m ≤ filled f - 1) e (pigeon (filled f) (ch h) (chain_members v h) (λ i. omega (arith, owned_once v i, chain_counted v h i)))) r

  parted_chain : (h : ℕ) (l : List ℕ) → ch h ≡ l → Started s f (filled f) h l → cond (starts s (f h)) (walk s f (filled f) h).slots [] ≡ l
  parted_chain h [] e r = cond_no (starts s (f h)) _ _ r
  parted_chain h (x ∷ l) e r =
      cond_yes (starts s (f h)) _ _ (head_starts s (f h) r.3) ∙ ap (λ (w : Walk). w.slots) (parted_walk h (x ∷ l) e (omega arith) r)

  pub parted_chain_at : (h : ℕ) → chain_at s f h ≡ ch h
  parted_chain_at h =
      by_order 0 h (λ b. absurd (omega arith)) (λ e. rw e (chain_at_zero s f ∙ sym v.at_zero))
      (λ p. elim (dec_lt h (filled f)) [
        | yes q ↦ chain_at_in s f h p q ∙ parted_chain h (ch h) refl (v.chains h p q)
        | no q ↦ chain_at_above s f h (omega arith) ∙ sym (v.above h (omega arith))
      ])

  well_formed : (h : ℕ) (l : List ℕ) → ch h ≡ l → Started s f (filled f) h l → starts s (f h) ≡ true
      → first (head_fault s none 8 (f h) ∷ (walk s f (filled f) h).fault ∷ []) ≡ 0
  well_formed h [] e r st = yes-no (starts s (f h)) st r
  well_formed h (x ∷ l) e r st =
      first_skip (head_fault s none 8 (f h)) _ r.3 ∙ first_one _ ∙ ap (λ (w : Walk). w.fault) (parted_walk h (x ∷ l) e (omega arith) r)

  parted_formed : (h : ℕ) → starts_at s f h ≡ true → first (head_fault s none 8 (f h) ∷ (walk s f (filled f) h).fault ∷ []) ≡ 0
  parted_formed h e = elim (dec_lt 0 h) [
    | no p ↦ (let z : h ≡ 0 = omega arith in yes-no (starts_at s f h) e (ap (starts_at s f) z ∙ starts_at_zero s f))
    | yes p ↦ elim (dec_lt h (filled f)) [
      | no q ↦ yes-no (starts_at s f h) e (starts_at_above s f h (omega arith))
      | yes q ↦ well_formed h (ch h) refl (v.chains h p q) (sym (starts_at_in s f h p q) ∙ e)
    ]
  ]

  pub parted_sound : (cap : ℕ) → bad_settings s ≡ false → filled f ≤ cap → SoundView s f cap
  unfolding free_list_test members_of
  parted_sound cap b fit = record {
    accepted = first_past (table_tests s f cap) _ (open_tests s f cap b (rw last (free_below f (filled f) (head_d free 0) free v.pos v.listed)) fit)
        ∙ first_one (free_list_test (free_list f)) ∙ ap free_list_test parted_free_list;
    formed = parted_formed;
    once = λ i p q.
        owners_sum s f i
        ∙ ap₂ (λ (a b : ℕ). a + b) (ap (λ (o : Option (List ℕ)). occ i (members_of o)) parted_free_list)
        (ap (λ (c : ℕ → List ℕ). sum_to (filled f) (λ h. occ i (c h))) (fun_ext parted_chain_at))
        ∙ v.once i p q;
  }

-- The count of owners and the sentence are the same: a slot has one owner exactly when it is on the free list once and in no chain, or
-- in one chain once, in no other and not on the free list (`counted_owner`, `owner_counted`, on any table). So on a sound table every
-- slot from 1 up to, not including, FILLED is on the free list once or in one chain once (`sound_owner`), and back (`owner_sound`).
use mathlib.Core.Path.{◌≡◌, refl, ap}
use mathlib.Core.Logic.{◌≢◌}
use Prim.Native.Nat.{ℕ, zero, suc, ◌+◌, ◌-◌, ◌≤◌, ◌<◌}
use native.Mathlib.Omega.{arith}
use native.Mathlib.Decide.{dec_lt, ℕ_discrete}
use mathlib.Core.Bool.{true}
use mathlib.Core.List.{[], ◌∷◌, ◌++◌}
use mathlib.Core.Option.{none}
use Rattle.definition.specs.declared.Settings.{Settings}
use Rattle.definition.specs.Tests.{first}
use Rattle.definition.specs.Slots.{View, filled}
use Rattle.definition.specs.FreeList.{free_list, members_of}
use Rattle.definition.specs.Chains.{head_fault, walk}
use Rattle.definition.specs.Calls.{table_tests, free_list_test}
use Rattle.definition.specs.Sound.{occ, occ_all, starts_at, chain_at, places, owners, SoundView}
use Rattle.laws.proofs.Starts.{filled_pos, chain_at_zero, chain_at_above}
use Rattle.laws.proofs.Counting.{sum_to, sum_zero, sum_set, occ_all_range}

-- ---- the count, over the heads below FILLED

module _ (s : Settings) (f : View) where
  pub owners_sum : (i : ℕ) → owners s f i ≡ occ i (members_of (free_list f)) + sum_to (filled f) (λ h. occ i (chain_at s f h))
  unfolding owners places occ_all sum_to occ
  owners_sum i =
      let p = filled_pos f in
      let e : 1 + (filled f - 1) ≡ filled f = omega arith in
      let z : occ i (chain_at s f 0) ≡ 0 = ap (occ i) (chain_at_zero s f) in
      let r = rw e at (occ_all_range i (chain_at s f) 1 (filled f - 1)) in
      omega arith

-- ---- the sentence

-- slot i is on the free list once and in no chain, or in the chain of one head once and nowhere else
pub data OneOwner (s : Settings) (f : View) (i : ℕ) : Type 0 where
  on_free_list : occ i (members_of (free_list f)) ≡ 1 → ((h : ℕ) → occ i (chain_at s f h) ≡ 0) → OneOwner s f i
  in_chain : (h : ℕ) → occ i (chain_at s f h) ≡ 1 → ((k : ℕ) → k ≢ h → occ i (chain_at s f k) ≡ 0) → occ i (members_of (free_list f)) ≡ 0 → OneOwner s f i

-- a sum of 0 has no term, and a sum of 1 has one
none_of : (n : ℕ) (g : ℕ → ℕ) → sum_to n g ≡ 0 → (h : ℕ) → h < n → g h ≡ 0
unfolding sum_to
none_of zero g e h l = absurd (omega arith)
none_of (suc n) g e h l = elim (dec_lt h n) [ yes p ↦ none_of n g (omega arith) h p | no p ↦ (let q : h ≡ n = omega arith in rw q (omega arith)) ]

one_of : (n : ℕ) (g : ℕ → ℕ) → sum_to n g ≡ 1 → (h : ℕ) × (h < n) × (g h ≡ 1) × ((k : ℕ) → k < n → k ≢ h → g k ≡ 0)
unfolding sum_to
one_of zero g e = absurd (omega arith)
one_of (suc n) g e = elim (ℕ_discrete (g n) 0) [
  | yes z ↦ (
      let r = one_of n g (omega arith) in
      (r.0, omega (arith, r.1), r.2, λ k l ne. elim (dec_lt k n) [ yes p ↦ r.3 k p ne | no p ↦ (let q : k ≡ n = omega arith in rw q z) ])
      )
  | no z ↦ (n, omega arith, omega arith, λ k l ne. none_of n g (omega arith) k (omega arith))
]

module _ (s : Settings) (f : View) (i : ℕ) where
  beyond : (h : ℕ) → filled f ≤ h → occ i (chain_at s f h) ≡ 0
  unfolding occ
  beyond h b = ap (occ i) (chain_at_above s f h b)

  every : ((h : ℕ) → h < filled f → occ i (chain_at s f h) ≡ 0) → (h : ℕ) → occ i (chain_at s f h) ≡ 0
  every z h = elim (dec_lt h (filled f)) [ yes p ↦ z h p | no p ↦ beyond h (omega arith) ]

  pub counted_owner : owners s f i ≡ 1 → OneOwner s f i
  counted_owner e = elim (ℕ_discrete (occ i (members_of (free_list f))) 0) [
    | yes z ↦ (
        let r = one_of (filled f) (λ h. occ i (chain_at s f h)) (omega (arith, owners_sum s f i)) in
        in_chain r.0 r.2 (λ k ne. elim (dec_lt k (filled f)) [ yes p ↦ r.3 k p ne | no p ↦ beyond k (omega arith) ]) z
        )
    | no z ↦ on_free_list (omega (arith, owners_sum s f i)) (every (none_of (filled f) (λ h. occ i (chain_at s f h)) (omega (arith, owners_sum s f i))))
  ]

  pub owner_counted : OneOwner s f i → owners s f i ≡ 1
  owner_counted (on_free_list one nowhere) = omega (arith, owners_sum s f i, sum_zero (filled f) (λ h. occ i (chain_at s f h)) (λ h l. nowhere h))
  owner_counted (in_chain h one others unlisted) =
      let zero-sum : sum_to (filled f) (λ k. 0) ≡ 0 = sum_zero (filled f) (λ k. 0) (λ k l. refl) in
      let r = sum_set (filled f) (λ k. 0) (λ k. occ i (chain_at s f k)) h below others in
      omega (arith, owners_sum s f i)
    where
      below : h < filled f
      below = elim (dec_lt h (filled f)) [ yes p ↦ p | no p ↦ absurd (omega (arith, beyond h (omega arith))) ]

-- ---- sound tables

module _ (s : Settings) (f : View) (cap : ℕ) where
  -- on a sound table every slot from 1 up to, not including, FILLED is on the free list once or in one chain once
  pub sound_owner : SoundView s f cap → (i : ℕ) → 0 < i → i < filled f → OneOwner s f i
  sound_owner k i p q = counted_owner s f i (k.once i p q)

  -- and a table that meets no refusal, whose chains are well formed, and of which the sentence holds, is sound
  pub owner_sound : first (table_tests s f cap ++ (free_list_test (free_list f) ∷ [])) ≡ 0
      → ((h : ℕ) → starts_at s f h ≡ true → first (head_fault s none 8 (f h) ∷ (walk s f (filled f) h).fault ∷ []) ≡ 0)
      → ((i : ℕ) → 0 < i → i < filled f → OneOwner s f i) → SoundView s f cap
  owner_sound a c o = record { accepted = a; formed = c; once = λ i p q. owner_counted s f i (o i p q) }

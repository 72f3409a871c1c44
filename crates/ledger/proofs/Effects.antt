-- The view after the stores of the one effect, from a parted one: header (`header_after`), free list (`free_after_lem`), and, given the new
-- chain, all of the invariant (`stored_parted`). Slots neither written nor freed stay (`unmoved`).
use mathlib.Core.Path.{◌≡◌, refl, sym, ap, ◌∙◌}
use mathlib.Core.Logic.{◌≢◌}
use Prim.Native.Nat.{ℕ, ◌+◌, ◌-◌, ◌^◌, ◌≤◌, ◌<◌}
use native.Mathlib.Omega.{arith}
use native.Mathlib.Decide.{ℕ_discrete}
use mathlib.Core.Bool.{Bool, false}
use mathlib.Core.List.{List, [], ◌∷◌, ◌++◌, head_d}
use lib.ListN.{length}
use lib.Dec.{eqb}
use borrow.Author.Tests.{ne_eqb}
use Rattle.definition.specs.declared.Settings.{Settings}
use Rattle.definition.specs.Numbers.{bytes, num, over}
use Rattle.definition.specs.Settings.{link_bytes, largest_size}
use Rattle.definition.specs.Slots.{View, last_removed, filled, starts}
use Rattle.definition.specs.Parts.{chain_stores, free_stores}
use Rattle.definition.specs.Effect.{new_slots, left_over, free_left, free_after, filled_after, header_store, header_stores, effect}
use Rattle.definition.specs.Sound.{occ}
use Rattle.laws.proofs.Conditions.{cond_no}
use Rattle.laws.proofs.Bytes.{le_bytes}
use Rattle.laws.proofs.Views.{upd_all}
use Rattle.laws.proofs.Counting.{hit_other, zero_unless}
use Rattle.laws.proofs.Stores.{slots_of, Stored, stored_left, stored_right, upd_all_other, upd_all_stored, header_none, header_one, header_slots, occ_free_after, nothing_moves, effect_slots}
use Rattle.laws.proofs.FreeLists.{FreeAt, free_marked, free_drop, free_frame, free_pile, free_below}
use Rattle.laws.proofs.Marks.{free_idle}
use Rattle.laws.proofs.Chains.{chain_idle}
use Rattle.laws.proofs.Distinct.{effect_distinct}
use Rattle.ledger.proofs.Invariant.{Started, Parted, chain_members, free_members, free_apart_of, after_once, after_in, grows, set_at, effect_parted}

-- ---- the header

pub header_stored : (g : View) (removed F : ℕ) (old : List ℕ) → removed < 256 ^ link_bytes → 0 < F → F < 256 ^ link_bytes
    → g 0 ≡ over (header_store removed F).1 old → (last_removed g ≡ removed) × (filled g ≡ F)
unfolding header_store last_removed filled num over bytes
header_stored g removed F old hr pos hF e =
    let n : num link_bytes link_bytes (g 0) ≡ F = rw e (le_bytes link_bytes F hF) in
    (rw e (le_bytes link_bytes removed hr), cond_no (eqb (num link_bytes link_bytes (g 0)) 0) _ _ (ne_eqb (num link_bytes link_bytes (g 0)) 0 (omega arith)) ∙ n)

pub header_same : (f g : View) → g 0 ≡ f 0 → (last_removed g ≡ last_removed f) × (filled g ≡ filled f)
unfolding last_removed filled
header_same f g e = (rw e refl, rw e refl)

-- a chain's slots but its head start no chain
started_idle : (s : Settings) (f : View) (F h : ℕ) (l : List ℕ) → s.size ≤ largest_size → Started s f F h l → (i : ℕ) → i ≢ h → 0 < occ i l → starts s (f i) ≡ false
unfolding occ
started_idle s f F h [] hi r i ne m = absurd (omega arith)
started_idle s f F h (x ∷ l) hi r i ne m = chain_idle s f F h (x ∷ l) hi r i ne m

-- ---- the view after

module _ {s : Settings} {f : View} {F : ℕ} {free : List ℕ} {ch : ℕ → List ℕ} (v : Parted s f F free ch) (hd : ℕ)
    (mark : Bool) (total : ℕ) (ps : List (List ℕ)) (hi : s.size ≤ largest_size) (small : filled_after (ch hd) free F (length ps) < 256 ^ link_bytes) where
  -- the stores are all found
  found : Stored (upd_all f (effect s mark total ps (ch hd) free F)) f (effect s mark total ps (ch hd) free F)
  found =
      upd_all_stored f (effect s mark total ps (ch hd) free F)
      (effect_distinct s mark total F (ch hd) free ps v.pos (chain_members v hd) (free_members v) (free_apart_of v hd))

  pub chain_stored : Stored (upd_all f (effect s mark total ps (ch hd) free F)) f (chain_stores s mark total (new_slots (ch hd) free F (length ps)) ps)
  unfolding effect
  chain_stored = stored_left _ f (chain_stores s mark total (new_slots (ch hd) free F (length ps)) ps) _ found

  rest_stored : Stored (upd_all f (effect s mark total ps (ch hd) free F)) f
      (free_stores (head_d (free_left (ch hd) free (length ps)) 0) (left_over (ch hd) (length ps)) ++ header_stores (ch hd) free F (length ps))
  unfolding effect
  rest_stored = stored_right _ f (chain_stores s mark total (new_slots (ch hd) free F (length ps)) ps) _ found

  -- slots neither written nor freed stay
  pub unmoved : (i : ℕ) → 0 < i → occ i (new_slots (ch hd) free F (length ps)) ≡ 0 → occ i (left_over (ch hd) (length ps)) ≡ 0
      → upd_all f (effect s mark total ps (ch hd) free F) i ≡ f i
  unmoved i p a b =
      upd_all_other f (effect s mark total ps (ch hd) free F) i
      (omega (arith, effect_slots s mark total F (ch hd) free ps i, header_slots (ch hd) free F (length ps) i, hit_other i 0 (omega arith)))

  pub free_after_lem : FreeAt (upd_all f (effect s mark total ps (ch hd) free F)) (filled_after (ch hd) free F (length ps))
      (head_d (free_after (ch hd) free (length ps)) 0) (free_after (ch hd) free (length ps))
  unfolding free_after free_left
  free_after_lem =
      free_pile f g G (head_d (free_left (ch hd) free n) 0) (left_over (ch hd) n) (free_left (ch hd) free n) (omega arith)
      (λ i h. after_in v hd n i (omega (arith, occ_free_after (ch hd) free F n i)))
      (stored_left g f (free_stores (head_d (free_left (ch hd) free n) 0) (left_over (ch hd) n)) _ rest_stored)
      (free_frame f g F G _ (free_left (ch hd) free n) (grows v hd n) kept (free_drop f F (head_d free 0) (n - length (ch hd)) free v.listed))
    where
      n : ℕ
      n = length ps

      g : View
      g = upd_all f (effect s mark total ps (ch hd) free F)

      G : ℕ
      G = filled_after (ch hd) free F n

      kept : (i : ℕ) → 0 < occ i (free_left (ch hd) free n) → g i ≡ f i
      kept i h =
          unmoved i (after_in v hd n i (omega (arith, occ_free_after (ch hd) free F n i))).0
          (omega (arith, after_once v hd n i, occ_free_after (ch hd) free F n i)) (omega (arith, after_once v hd n i, occ_free_after (ch hd) free F n i))

  -- given the new chain, all is as the invariant says
  pub stored_parted : 0 < hd → hd < filled_after (ch hd) free F (length ps)
      → Started s (upd_all f (effect s mark total ps (ch hd) free F)) (filled_after (ch hd) free F (length ps)) hd (new_slots (ch hd) free F (length ps))
      → Parted s (upd_all f (effect s mark total ps (ch hd) free F)) (filled_after (ch hd) free F (length ps)) (free_after (ch hd) free (length ps))
      (set_at ch hd (new_slots (ch hd) free F (length ps)))
  stored_parted p q new_chain =
      effect_parted v hd (length ps) (upd_all f (effect s mark total ps (ch hd) free F)) p q new_chain free_after_lem
      (λ h ne m. started_idle s (upd_all f (effect s mark total ps (ch hd) free F)) (filled_after (ch hd) free F (length ps)) hd (new_slots (ch hd) free F (length ps)) hi new_chain h ne m)
      (λ h m. free_idle s _ (free_marked _ _ _ (free_after (ch hd) free (length ps)) free_after_lem h (omega (arith, occ_free_after (ch hd) free F (length ps) h))))
      unmoved

  pub header_after : last_removed f ≡ head_d free 0 → filled f ≡ F
      → (last_removed (upd_all f (effect s mark total ps (ch hd) free F)) ≡ head_d (free_after (ch hd) free (length ps)) 0)
      × (filled (upd_all f (effect s mark total ps (ch hd) free F)) ≡ filled_after (ch hd) free F (length ps))
  unfolding slots_of occ header_store
  header_after el ef = go (ℕ_discrete n (length (ch hd)))
    where
      n : ℕ
      n = length ps

      g : View
      g = upd_all f (effect s mark total ps (ch hd) free F)

      G : ℕ
      G = filled_after (ch hd) free F n

      removed : ℕ
      removed = head_d (free_after (ch hd) free n) 0

      not_zero : occ 0 (free_after (ch hd) free n) + occ 0 (new_slots (ch hd) free F n) ≡ 0
      not_zero = zero_unless _ (λ b. omega (arith, (after_in v hd n 0 b).0))

      go : Dec (n ≡ length (ch hd)) → (last_removed g ≡ removed) × (filled g ≡ G)
      go (yes e) =
          let o : occ 0 (slots_of (header_stores (ch hd) free F n)) ≡ 0 = rw (header_none (ch hd) free F n e) refl in
          let k : g 0 ≡ f 0 = upd_all_other f (effect s mark total ps (ch hd) free F) 0
          (omega (arith, effect_slots s mark total F (ch hd) free ps 0, occ_free_after (ch hd) free F n 0, not_zero)) in
          let m = nothing_moves (ch hd) free F n e in
          let b = header_same f g k in
          (b.0 ∙ el ∙ ap (λ (l : List ℕ). head_d l 0) (sym m.0), b.1 ∙ ef ∙ sym m.1)
      go (no e) =
          let st : Stored g f (header_store removed G ∷ []) = rw (header_one (ch hd) free F n e) at
          (stored_right g f (free_stores (head_d (free_left (ch hd) free n) 0) (left_over (ch hd) n)) (header_stores (ch hd) free F n) rest_stored) in
          let pos : 0 < G = omega (arith, v.pos, grows v hd n) in
          header_stored g removed G (f 0) (omega (arith, free_below g G removed (free_after (ch hd) free n) pos free_after_lem)) pos small st.0

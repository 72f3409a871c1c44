-- The invariant behind soundness, `Parted`: the slots from 1 up to F are parted into a free list and chains, each slot in one of them
-- once. The one effect keeps it (`effect_parted`), whatever chain it rewrites and by however many parts: what it takes and frees was
-- that chain's, free or unused, so the other chains stay.
use mathlib.Core.Path.{◌≡◌, refl, ap, ◌∙◌}
use mathlib.Core.Logic.{◌≢◌}
use Prim.Native.Nat.{ℕ, ◌+◌, ◌-◌, ◌≤◌, ◌<◌}
use native.Mathlib.Omega.{arith}
use native.Mathlib.Decide.{dec_lt}
use mathlib.Core.Bool.{false, cond}
use mathlib.Core.List.{List, [], ◌∷◌, head_d}
use lib.ListN.{length}
use lib.Dec.{eqb}
use borrow.Author.Tests.{eq-eqb, ne_eqb}
use Rattle.definition.specs.declared.Settings.{Settings}
use Rattle.definition.specs.Numbers.{range}
use Rattle.definition.specs.Slots.{View, starts}
use Rattle.definition.specs.Effect.{new_slots, left_over, free_left, free_after, filled_after}
use Rattle.definition.specs.Sound.{occ}
use Rattle.laws.proofs.Conditions.{cond_yes, cond_no, by_order}
use Rattle.laws.proofs.Counting.{In, in_nil, in_zero, in_above, occ_cut, occ_range_in, occ_range_below, sum_to, sum_zero, sum_ge, sum_ge_two, sum_set, sum_more}
use Rattle.laws.proofs.Stores.{effect_owns, occ_free_after}
use Rattle.laws.proofs.FreeLists.{FreeAt, free_in_lem}
use Rattle.laws.proofs.Chains.{ChainAt, chain_in, chain_head, chain_frame}
use Rattle.laws.proofs.Distinct.{Apart, taken_once, taken_in}

-- the chain at h is on these slots; none starts where there are none
abbrev pub Started : Settings → View → ℕ → ℕ → List ℕ → Type 0
Started s f F h [] = starts s (f h) ≡ false
Started s f F h (x ∷ l) = ChainAt s f F h (x ∷ l)

pub started : (s : Settings) (f : View) (F h : ℕ) (l : List ℕ) → ChainAt s f F h l → Started s f F h l
started s f F h [] c = absurd c
started s f F h (x ∷ l) c = c

-- the slots of f below F are parted into the free list and the chains `ch h`
pub record Parted (s : Settings) (f : View) (F : ℕ) (free : List ℕ) (ch : ℕ → List ℕ) : Type 0 where
  pub pos : 0 < F
  pub listed : FreeAt f F (head_d free 0) free
  pub chains : (h : ℕ) → 0 < h → h < F → Started s f F h (ch h)
  pub at_zero : ch 0 ≡ []
  pub above : (h : ℕ) → F ≤ h → ch h ≡ []
  pub once : (i : ℕ) → 0 < i → i < F → occ i free + sum_to F (λ h. occ i (ch h)) ≡ 1

-- ---- what is owned lies from 1 up to F, and is owned once

started_in : (s : Settings) (f : View) (F h : ℕ) (l : List ℕ) → Started s f F h l → In F l
started_in s f F h [] r = in_nil F
started_in s f F h (x ∷ l) r = chain_in s f F h (x ∷ l) r

started_head : (s : Settings) (f : View) (F h : ℕ) (l : List ℕ) → Started s f F h l → 0 < length l → 0 < occ h l
started_head s f F h [] r m = absurd (omega arith)
started_head s f F h (x ∷ l) r m = (chain_head s f F h (x ∷ l) r).2

module _ {s : Settings} {f : View} {F : ℕ} {free : List ℕ} {ch : ℕ → List ℕ} (v : Parted s f F free ch) where
  pub chain_members : (h : ℕ) → In F (ch h)
  chain_members h =
      by_order 0 h (λ b. absurd (omega arith)) (λ e. rw (e, v.at_zero) (in_nil F))
      (λ p. elim (dec_lt h F) [ yes q ↦ started_in s f F h (ch h) (v.chains h p q) | no q ↦ rw (v.above h (omega arith)) (in_nil F) ])

  pub free_members : In F free
  free_members = free_in_lem f F (head_d free 0) free v.listed

  -- a chain has its head as a member
  pub own_head : (h : ℕ) → 0 < length (ch h) → 0 < occ h (ch h)
  own_head h m =
      by_order 0 h (λ b. absurd (omega arith)) (λ (e : h ≡ 0). absurd (omega (arith, ap (λ (j : ℕ). length (ch j)) e, ap length v.at_zero)))
      (λ p. elim (dec_lt h F) [
        | yes q ↦ started_head s f F h (ch h) (v.chains h p q) m
        | no q ↦ absurd (omega (arith, ap length (v.above h (omega arith))))
      ])

  chain_above : (h i : ℕ) → F ≤ h → occ i (ch h) ≡ 0
  unfolding occ
  chain_above h i b = ap (occ i) (v.above h b)

  -- a chain's slots are counted in the sum, and so are two chains' slots
  pub chain_counted : (h i : ℕ) → occ i (ch h) ≤ sum_to F (λ k. occ i (ch k))
  chain_counted h i =
      elim (dec_lt h F) [ yes q ↦ sum_ge F (λ k. occ i (ch k)) h q | no q ↦ omega (arith, chain_above h i (omega arith)) ]

  pub chains_apart : (h k i : ℕ) → h ≢ k → occ i (ch h) + occ i (ch k) ≤ sum_to F (λ j. occ i (ch j))
  chains_apart h k i n =
      elim (dec_lt h F) [
        | no q ↦ omega (arith, chain_above h i (omega arith), chain_counted k i)
        | yes q ↦ elim (dec_lt k F) [
          | no r ↦ omega (arith, chain_above k i (omega arith), chain_counted h i)
          | yes r ↦ by_order k h
              (λ (b : h < k). sum_ge_two F (λ j. occ i (ch j)) h k b r)
              (λ e. absurd (n e))
              (λ (b : k < h). omega (arith, sum_ge_two F (λ j. occ i (ch j)) k h b q))
        ]
      ]

  owned_above : (i : ℕ) → F ≤ i → occ i free + sum_to F (λ h. occ i (ch h)) ≡ 0
  owned_above i b = omega (arith, in_above F free free_members i b, sum_zero F (λ h. occ i (ch h)) (λ h l. in_above F (ch h) (chain_members h) i b))

  -- no slot is owned twice
  pub owned_once : (i : ℕ) → occ i free + sum_to F (λ h. occ i (ch h)) ≤ 1
  owned_once i =
      by_order 0 i (λ b. absurd (omega arith))
      (λ e. rw e (omega (arith, in_zero F free free_members, sum_zero F (λ h. occ 0 (ch h)) (λ h l. in_zero F (ch h) (chain_members h)))))
      (λ p. elim (dec_lt i F) [ yes q ↦ omega (arith, v.once i p q) | no q ↦ omega (arith, owned_above i (omega arith)) ])

  pub free_apart_of : (h : ℕ) → Apart (ch h) free
  free_apart_of h i = omega (arith, owned_once i, chain_counted h i)

-- ---- the chains after a rewrite of the chain at hd

unfoldable pub set_at : (ℕ → List ℕ) → ℕ → List ℕ → ℕ → List ℕ
set_at ch hd new = λ h. cond (eqb h hd) new (ch h)

pub set_at_same : (ch : ℕ → List ℕ) (hd : ℕ) (new : List ℕ) → set_at ch hd new hd ≡ new
unfolding set_at
set_at_same ch hd new = cond_yes (eqb hd hd) _ _ (eq-eqb hd hd refl)

pub set_at_other : (ch : ℕ → List ℕ) (hd : ℕ) (new : List ℕ) (h : ℕ) → h ≢ hd → set_at ch hd new h ≡ ch h
unfolding set_at
set_at_other ch hd new h n = cond_no (eqb h hd) _ _ (ne_eqb h hd n)

-- ---- the effect on the slots of the chain at hd, by n parts

module _ {s : Settings} {f : View} {F : ℕ} {free : List ℕ} {ch : ℕ → List ℕ} (v : Parted s f F free ch) (hd n : ℕ) where
  -- everything owned by the new chain and the new free list is owned once and lies from 1 up to the new FILLED
  pub after_once : (i : ℕ) → occ i (free_after (ch hd) free n) + occ i (new_slots (ch hd) free F n) ≤ 1
  after_once = taken_once (ch hd) free F n v.pos (chain_members v hd) (free_members v) (free_apart_of v hd)

  pub after_in : (i : ℕ) → 0 < occ i (free_after (ch hd) free n) + occ i (new_slots (ch hd) free F n) → (0 < i) × (i < filled_after (ch hd) free F n)
  after_in = taken_in (ch hd) free F n v.pos (chain_members v hd) (free_members v) (free_apart_of v hd)

  pub grows : F ≤ filled_after (ch hd) free F n
  unfolding filled_after
  grows = omega arith

  -- a slot of another chain is neither taken nor freed
  pub others_out : (h i : ℕ) → h ≢ hd → 0 < occ i (ch h) → occ i (free_after (ch hd) free n) + occ i (new_slots (ch hd) free F n) ≡ 0
  others_out h i ne m =
      omega (arith, effect_owns (ch hd) free F n i, owned_once v i, chains_apart v h hd i ne, occ_range_below i F (n - length (ch hd) - length free) (chain_members v h i m).1)

  -- a slot from FILLED up to the new FILLED is among the new ones
  fresh_taken : (i : ℕ) → F ≤ i → i < filled_after (ch hd) free F n → occ i (new_slots (ch hd) free F n) ≡ 1
  unfolding filled_after left_over free_left
  fresh_taken i p q =
      omega (
        arith,
        effect_owns (ch hd) free F n i,
        owned_above v i p,
        chain_counted v hd i,
        occ_range_in i F (n - length (ch hd) - length free) p q,
        occ_free_after (ch hd) free F n i,
        occ_cut i n (ch hd),
        occ_cut i (n - length (ch hd)) free,
      )

  -- what is owned in all: as before, and the slots from FILLED up
  owned_after : (i : ℕ) → 0 < i → i < filled_after (ch hd) free F n
      → occ i free + sum_to F (λ h. occ i (ch h)) + occ i (range F (n - length (ch hd) - length free)) ≡ 1
  unfolding filled_after
  owned_after i p q =
      elim (dec_lt i F) [
        | yes r ↦ omega (arith, v.once i p r, occ_range_below i F (n - length (ch hd) - length free) r)
        | no r ↦ omega (arith, owned_above v i (omega arith), occ_range_in i F (n - length (ch hd) - length free) (omega arith) q)
      ]

  sum_old : (i : ℕ) → sum_to (filled_after (ch hd) free F n) (λ h. occ i (ch h)) ≡ sum_to F (λ h. occ i (ch h))
  unfolding filled_after
  sum_old i = sum_more F (n - length (ch hd) - length free) (λ h. occ i (ch h)) (λ h b. chain_above v h i b)

  -- a view g after the effect: the new chain and the new free list are there, other new slots and freed ones start no chain, the rest stays
  module _ (g : View) (hpos : 0 < hd) (below : hd < filled_after (ch hd) free F n)
      (new_chain : Started s g (filled_after (ch hd) free F n) hd (new_slots (ch hd) free F n))
      (newFree : FreeAt g (filled_after (ch hd) free F n) (head_d (free_after (ch hd) free n) 0) (free_after (ch hd) free n))
      (newIdle : (h : ℕ) → h ≢ hd → 0 < occ h (new_slots (ch hd) free F n) → starts s (g h) ≡ false)
      (freedIdle : (h : ℕ) → 0 < occ h (left_over (ch hd) n) → starts s (g h) ≡ false)
      (stays : (i : ℕ) → 0 < i → occ i (new_slots (ch hd) free F n) ≡ 0 → occ i (left_over (ch hd) n) ≡ 0 → g i ≡ f i) where
    -- the other chains stay, and none starts where none did
    others : (h : ℕ) (l : List ℕ) → ch h ≡ l → h ≢ hd → 0 < h → h < F → Started s f F h l → Started s g (filled_after (ch hd) free F n) h l
    others h [] e ne p q r =
        elim (dec_lt 0 (occ h (new_slots (ch hd) free F n))) [
          | yes a ↦ newIdle h ne a
          | no a ↦ elim (dec_lt 0 (occ h (left_over (ch hd) n))) [
            | yes b ↦ freedIdle h b
            | no b ↦ (let k : g h ≡ f h = stays h p (omega arith) (omega arith) in rw k r)
          ]
        ]
    others h (x ∷ l) e ne p q r =
        chain_frame s f g F (filled_after (ch hd) free F n) h (x ∷ l) grows
        (λ (i : ℕ) (m : 0 < occ i (x ∷ l)).
        let m2 : 0 < occ i (ch h) = rw e m in
        let z = others_out h i ne m2 in
        stays i (chain_members v h i m2).0 (omega arith) (omega (arith, occ_free_after (ch hd) free F n i))) r

    other : (h : ℕ) → h ≢ hd → 0 < h → h < filled_after (ch hd) free F n → Started s g (filled_after (ch hd) free F n) h (set_at ch hd (new_slots (ch hd) free F n) h)
    other h ne p q =
        rw (set_at_other ch hd (new_slots (ch hd) free F n) h ne)
        (elim (dec_lt h F) [
          | yes r ↦ others h (ch h) refl ne p r (v.chains h p r)
          | no r ↦ (let b : F ≤ h = omega arith in rw (v.above h b) (newIdle h ne (omega (arith, fresh_taken h b q))))
        ])

    counted : (i : ℕ) → 0 < i → i < filled_after (ch hd) free F n
        → occ i (free_after (ch hd) free n) + sum_to (filled_after (ch hd) free F n) (λ h. occ i (set_at ch hd (new_slots (ch hd) free F n) h)) ≡ 1
    counted i p q =
        omega (
          arith,
          effect_owns (ch hd) free F n i,
          owned_after i p q,
          sum_old i,
          sum_set (filled_after (ch hd) free F n) (λ h. occ i (ch h)) (λ h. occ i (set_at ch hd (new_slots (ch hd) free F n) h)) hd below
              (λ h ne. ap (occ i) (set_at_other ch hd (new_slots (ch hd) free F n) h ne)),
          ap (occ i) (set_at_same ch hd (new_slots (ch hd) free F n)),
        )

    pub effect_parted : Parted s g (filled_after (ch hd) free F n) (free_after (ch hd) free n) (set_at ch hd (new_slots (ch hd) free F n))
    effect_parted = record {
      pos = omega (arith, v.pos, grows);
      listed = newFree;
      chains = λ h p q.
          by_order hd h (λ b. other h (omega arith) p q)
          (λ (e : h ≡ hd). rw (e, set_at_same ch hd (new_slots (ch hd) free F n)) new_chain)
          (λ b. other h (omega arith) p q);
      at_zero = set_at_other ch hd (new_slots (ch hd) free F n) 0 (omega arith) ∙ v.at_zero;
      above = λ h p. set_at_other ch hd (new_slots (ch hd) free F n) h (omega arith) ∙ v.above h (omega (arith, grows));
      once = counted;
    }

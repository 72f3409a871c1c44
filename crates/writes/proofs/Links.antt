-- The slot taken next is the next of the old chain, else of the free list, else FILLED, and the links of what is left lead on from what
-- the code then holds (`taken_next`). Before it, each way out of the functions that read links and take slots.
use mathlib.Core.Path.{◌≡◌, refl, ◌∙◌}
use mathlib.Core.Logic.{◌≢◌}
use mathlib.Core.Bool.{true, false}
use mathlib.Core.List.{List, [], ◌∷◌}
use Prim.Native.Nat.{ℕ, ◌+◌, ◌<◌}
use native.Mathlib.Omega.{arith}
use lib.Dec.{eqb}
use borrow.Author.Tests.{eq-eqb, ne_eqb}
use Rattle.definition.specs.declared.Settings.{Settings}
use Rattle.definition.specs.declared.Header.{Header}
use Rattle.definition.specs.Slots.{View, is_head, is_continuation, head_link, link_of}
use Rattle.laws.proofs.Conditions.{cond_yes, cond_no}
use Rattle.laws.proofs.Linked.{Linked}
use Rattle.laws.proofs.Taking.{next_slot, after_next}
use Rattle.writes.specs.declared.Taken.{Taken}
use Rattle.writes.specs.Steps.{next_part, taken_from}

-- ---- the next part

module _ (s : Settings) (b : List ℕ) where
  -- a fixed table has no links
  pub fixed_link : s.multipart ≡ false → next_part s b ≡ 0
  unfolding next_part
  fixed_link m = cond_no s.multipart _ _ m

  module _ (m : s.multipart ≡ true) where
    pub head_link_lem : is_head b ≡ true → next_part s b ≡ head_link s b
    unfolding next_part
    head_link_lem h = cond_yes s.multipart _ _ m ∙ cond_yes (is_head b) _ _ h

    pub continuation_link : is_head b ≡ false → is_continuation b ≡ true → next_part s b ≡ link_of b
    unfolding next_part
    continuation_link h k = cond_yes s.multipart _ _ m ∙ cond_no (is_head b) _ _ h ∙ cond_yes (is_continuation b) _ _ k

    pub last_link : is_head b ≡ false → is_continuation b ≡ false → next_part s b ≡ 0
    unfolding next_part
    last_link h k = cond_yes s.multipart _ _ m ∙ cond_no (is_head b) _ _ h ∙ cond_no (is_continuation b) _ _ k

-- ---- the slot taken

module _ (s : Settings) (f : View) (at : ℕ) (h : Header) where
  pub taken_old : at ≢ 0 → taken_from s f at h ≡ record { slot = at; rest = next_part s (f at); header = h }
  unfolding taken_from
  taken_old z = cond_no (eqb at 0) _ _ (ne_eqb at 0 z)

  pub taken_free_lem : at ≡ 0 → h.removed ≢ 0
      → taken_from s f at h ≡ record { slot = h.removed; rest = 0; header = record { removed = link_of (f h.removed); filled = h.filled } }
  unfolding taken_from
  taken_free_lem y z = cond_yes (eqb at 0) _ _ (eq-eqb at 0 y) ∙ cond_no (eqb h.removed 0) _ _ (ne_eqb h.removed 0 z)

  pub taken_unused : at ≡ 0 → h.removed ≡ 0
      → taken_from s f at h ≡ record { slot = h.filled; rest = 0; header = record { removed = 0; filled = h.filled + 1 } }
  unfolding taken_from
  taken_unused y z = cond_yes (eqb at 0) _ _ (eq-eqb at 0 y) ∙ cond_yes (eqb h.removed 0) _ _ (eq-eqb h.removed 0 z)

-- ---- and the lists

-- y is the next slot of these lists, and from what it holds besides the links lead over what is left of them
pub record Next (s : Settings) (f : View) (old free : List ℕ) (F : ℕ) (y : Taken) : Type 0 where
  pub slot : y.slot ≡ next_slot old free F
  pub filled : y.header.filled ≡ (after_next old free F).filled
  pub old_links : Linked (next_part s) f y.header.filled y.rest (after_next old free F).old
  pub free_links : Linked link_of f y.header.filled y.header.removed (after_next old free F).free
  pub up : 0 < y.slot
  pub low : y.slot < y.header.filled

pub taken_next : (s : Settings) (f : View) (old free : List ℕ) (at : ℕ) (h : Header) → 0 < h.filled → Linked (next_part s) f h.filled at old
    → Linked link_of f h.filled h.removed free → Next s f old free h.filled (taken_from s f at h)
unfolding next_slot after_next
taken_next s f (x ∷ old) free at h pos lo lf =
    rw (taken_old s f at h (λ z. omega (arith, lo.0, lo.1)))
    (record { slot = lo.0; filled = refl; old_links = rw lo.0 lo.3; free_links = lf; up = omega (arith, lo.0, lo.1); low = omega (arith, lo.0, lo.2) })
taken_next s f [] (x ∷ free) at h pos lo lf =
    rw (taken_free_lem s f at h lo (λ z. omega (arith, lf.0, lf.1)))
    (record { slot = lf.0; filled = refl; old_links = refl; free_links = rw lf.0 lf.3; up = omega (arith, lf.0, lf.1); low = omega (arith, lf.0, lf.2) })
taken_next s f [] [] at h pos lo lf =
    rw (taken_unused s f at h lo lf)
    (record { slot = refl; filled = omega arith; old_links = refl; free_links = refl; up = pos; low = omega arith })

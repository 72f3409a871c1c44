-- What clear_chain's loop keeps (`Kept`): slots are still to be freed, and once they are and the header is stored the table is the one
-- promised (`Clearing`). One law for the start (`kept_start`), one for a turn (`kept_turn`), one for each way out (`kept_same`,
-- `kept_stored`).
use mathlib.Core.Path.{◌≡◌, refl, sym, ap, ◌∙◌}
use mathlib.Core.Logic.{◌≢◌}
use mathlib.Core.Bool.{Bool, true, false, cond}
use mathlib.Core.List.{List, [], ◌∷◌, ◌++◌, head_d, reverse_aux-eq}
use Prim.Native.Nat.{ℕ, ◌+◌, ◌*◌, ◌≤◌, ◌<◌}
use native.Mathlib.Nat.{zero-mul}
use native.Mathlib.Omega.{arith}
use lib.ListN.{length}
use Rattle.definition.specs.declared.Settings.{Settings}
use Rattle.definition.specs.declared.Header.{Header}
use Rattle.definition.specs.Numbers.{put}
use Rattle.definition.specs.Slots.{View, view, store}
use Rattle.definition.specs.Parts.{free_slot, free_stores}
use Rattle.definition.specs.Effect.{header_store}
use Rattle.definition.specs.Sound.{occ}
use Rattle.laws.proofs.Conditions.{cond_yes, cond_no}
use Rattle.laws.proofs.Counting.{hit_same, pigeon}
use Rattle.laws.proofs.Puts.{length_put}
use Rattle.laws.proofs.Views.{within, upd, view_put}
use Rattle.laws.proofs.Sizes.{sizes}
use Rattle.laws.proofs.Parts.{length_free}
use Rattle.laws.proofs.Linked.{Linked, linked_in, linked_below, linked_upd, link_count, linked_length}
use Rattle.writes.specs.Steps.{next_part, freed_onto, clear_stores}
use Rattle.writes.specs.Ready.{Freeing}

-- ---- the stores, one slot at a time

clear_step : (same : Bool) (x : ℕ) (old free : List ℕ) (F : ℕ)
    → clear_stores same (x ∷ old) free F ≡ (x, free_slot (head_d free 0)) ∷ clear_stores same old (x ∷ free) F
unfolding clear_stores free_stores head_d
clear_step same x old free F =
    ap (λ (l : List ℕ). (x, free_slot (head_d free 0)) ∷ (free_stores x old ++ cond same [] (header_store (head_d l 0) F ∷ [])))
    (sym (reverse_aux-eq (x ∷ old) free) ∙ reverse_aux-eq old (x ∷ free))

clear_none : (same : Bool) (free : List ℕ) (F : ℕ) → clear_stores same [] free F ≡ cond same [] (header_store (head_d free 0) F ∷ [])
unfolding clear_stores free_stores
clear_none same free F = refl

header_only : (E removed F : ℕ) (t : List ℕ) → store E t (header_store removed F ∷ []) ≡ put t 0 (header_store removed F).1
unfolding store header_store
header_only E removed F t = ap (λ (k : ℕ). put t k (header_store removed F).1) (zero-mul E)

-- ---- the loop

pub record Clearing (s : Settings) (same : Bool) (T t : List ℕ) (at : ℕ) (h : Header) : Type 0 where
  pub old : List ℕ
  pub free : List ℕ
  pub freeing : Freeing s t old free at h
  pub left : store s.size t (clear_stores same old free h.filled) ≡ T

-- the slot lies in the table
pub slot_inside : (s : Settings) (t old free : List ℕ) (at : ℕ) (h : Header) → Freeing s t old free at h → at * s.size + s.size ≤ length t
slot_inside s t old free at h g = within s.size at h.filled (length t) (linked_below (next_part s) (view s.size t) h.filled at old g.some g.links) g.room

-- the slots still to be freed, counted by their links
clear_count : (s : Settings) (t old free : List ℕ) (at : ℕ) (h : Header) → Freeing s t old free at h
    → link_count (next_part s) (view s.size t) h.filled at ≡ length old
clear_count s t old free at h g =
    let f : View = view s.size t in
    linked_length (next_part s) f h.filled h.filled at old g.links
    (omega (arith, pigeon h.filled old (linked_in (next_part s) f h.filled at old g.links) g.once))

-- after a turn, with n the next slot, t' the table and k the header: one slot less is to be freed
pub record Turned (s : Settings) (same : Bool) (T t : List ℕ) (at : ℕ) (h : Header) (n : ℕ) (t' : List ℕ) (k : Header) : Type 0 where
  pub going : Clearing s same T t' n k
  pub less : link_count (next_part s) (view s.size t') k.filled n < link_count (next_part s) (view s.size t) h.filled at

module _ (s : Settings) (same : Bool) (T t : List ℕ) (at : ℕ) (h : Header) (g : Clearing s same T t at h) where
  pub clear_turn : (n : ℕ) (t' : List ℕ) (k : Header) → at ≢ 0 → n ≡ next_part s (view s.size t at) → t' ≡ put t (at * s.size) (free_slot h.removed)
      → k ≡ freed_onto at h → Turned s same T t at h n t' k
  unfolding store occ head_d
  clear_turn n t' k nz e w ek = rw ek (go g.old g.freeing g.left)
    where
      go : (l : List ℕ) → Freeing s t l g.free at h → store s.size t (clear_stores same l g.free h.filled) ≡ T → Turned s same T t at h n t' (freed_onto at h)
      go [] r q = absurd (nz r.links)
      go (x ∷ l) r q =
          let z = sizes s r.good in
          let ax : at ≡ x = r.links.0 in
          let inside = slot_inside s t (x ∷ l) g.free at h r in
          let bs : List ℕ = free_slot h.removed in
          let lb : length bs ≤ s.size = omega (arith, length_free h.removed, z.least) in
          let lt : length t' ≡ length t = rw w (length_put t (at * s.size) bs (omega arith)) in
          let v : view s.size t' ≡ upd (view s.size t) at bs = rw w (view_put s.size at t bs lb inside) in
          let no : occ at l ≡ 0 = rw ax (omega (arith, r.once x, hit_same x)) in
          let links : Linked (next_part s) (view s.size t) h.filled n l = rw (e, ax) r.links.3 in
          let next : Freeing s t' l (at ∷ g.free) n (freed_onto at h) =
          record {
            good = r.good;
            links = rw v (linked_upd (next_part s) (view s.size t) h.filled at bs n l no links);
            top = refl;
            once = λ i. omega (arith, r.once i);
            some = r.some;
            room = rw lt r.room;
          } in
          record {
            going =
                record {
                  old = l;
                  free = at ∷ g.free;
                  freeing = next;
                  left = rw (w, r.top, ax) (sym (ap (store s.size t) (clear_step same x l g.free h.filled)) ∙ q);
                };
            less = omega (arith, clear_count s t (x ∷ l) g.free at h r, clear_count s t' l (at ∷ g.free) n (freed_onto at h) next);
          }

  -- all slots are freed, and the header stays
  pub clear_done : at ≡ 0 → same ≡ true → t ≡ T
  unfolding store
  clear_done z e = go g.old g.freeing g.left
    where
      go : (l : List ℕ) → Freeing s t l g.free at h → store s.size t (clear_stores same l g.free h.filled) ≡ T → t ≡ T
      go [] k q = sym (ap (store s.size t) (clear_none same g.free h.filled ∙ cond_yes same _ _ e)) ∙ q
      go (x ∷ l) k q = absurd (omega (arith, k.links.0, k.links.1))

  -- or it is stored
  pub clear_header : (t' : List ℕ) → at ≡ 0 → same ≡ false → t' ≡ put t 0 (header_store h.removed h.filled).1 → t' ≡ T
  clear_header t' z e w = go g.old g.freeing g.left
    where
      go : (l : List ℕ) → Freeing s t l g.free at h → store s.size t (clear_stores same l g.free h.filled) ≡ T → t' ≡ T
      go [] k q =
          w ∙ ap (λ (a : ℕ). put t 0 (header_store a h.filled).1) k.top
          ∙ sym (ap (store s.size t) (clear_none same g.free h.filled ∙ cond_no same _ _ e) ∙ header_only s.size (head_d g.free 0) h.filled t) ∙ q
      go (x ∷ l) k q = absurd (omega (arith, k.links.0, k.links.1))

-- ---- from where the loop began

-- from the table t₀, the slot at₀ and the header h₀ the loop came here, and whichever lists it began with, the table that they promise is made
pub record Kept (s : Settings) (same : Bool) (t₀ : List ℕ) (at₀ : ℕ) (h₀ : Header) (t : List ℕ) (at : ℕ) (h : Header) : Type 0 where
  pub here : (T : List ℕ) × Clearing s same T t at h
  pub each : (old free : List ℕ) → Freeing s t₀ old free at₀ h₀ → Clearing s same (store s.size t₀ (clear_stores same old free h₀.filled)) t at h

module _ {s : Settings} {t : List ℕ} {at : ℕ} {h : Header} (same : Bool) where
  pub kept_start : (old : List ℕ) × (free : List ℕ) × Freeing s t old free at h → Kept s same t at h t at h
  kept_start p = record { here = (_, each p.0 p.1 p.2); each = each }
    where
      each : (old free : List ℕ) → Freeing s t old free at h → Clearing s same (store s.size t (clear_stores same old free h.filled)) t at h
      each old free g = record { old = old; free = free; freeing = g; left = refl }

module _ {s : Settings} {same : Bool} {t₀ : List ℕ} {at₀ : ℕ} {h₀ : Header} {t : List ℕ} {at : ℕ} {h : Header} (k : Kept s same t₀ at₀ h₀ t at h) where
  pub kept_slot : at * s.size + s.size ≤ length t
  kept_slot = slot_inside s t k.here.1.old k.here.1.free at h k.here.1.freeing

  pub kept_turn : {n : ℕ} {t' : List ℕ} {h' : Header} → at ≢ 0 → n ≡ next_part s (view s.size t at) → t' ≡ put t (at * s.size) (free_slot h.removed)
      → h' ≡ freed_onto at h
      → Kept s same t₀ at₀ h₀ t' n h' × (link_count (next_part s) (view s.size t') h'.filled n < link_count (next_part s) (view s.size t) h.filled at)
  kept_turn {n} {t'} {h'} z e w eh = (record { here = (k.here.0, (turn _ k.here.1).going); each = λ old free g. (turn _ (k.each old free g)).going }, (turn _ k.here.1).less)
    where
      turn : (T : List ℕ) → Clearing s same T t at h → Turned s same T t at h n t' h'
      turn T g = clear_turn s same T t at h g n t' h' z e w eh

  module _ (z : at ≡ 0) (old free : List ℕ) (g : Freeing s t₀ old free at₀ h₀) where
    pub kept_same : same ≡ true → t ≡ store s.size t₀ (clear_stores same old free h₀.filled)
    kept_same e = clear_done s same _ t at h (k.each old free g) z e

    pub kept_stored : {t' : List ℕ} → same ≡ false → t' ≡ put t 0 (header_store h.removed h.filled).1 → t' ≡ store s.size t₀ (clear_stores same old free h₀.filled)
    kept_stored {t'} e w = clear_header s same _ t at h (k.each old free g) t' z e w

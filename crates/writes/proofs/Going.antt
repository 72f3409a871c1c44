-- What overwrite_chain's loop keeps (`Laid`): pos bytes are written, a slot is taken for the next piece, and the stores still to come
-- make the table the one promised (`Going`). One law for the first slot (`laid_start`), one for a turn (`laid_turn`), one for the last
-- part (`laid_freeing`), one for the end (`laid_end`).
use mathlib.Core.Path.{◌≡◌, refl, sym, ap, ◌∙◌}
use mathlib.Core.Bool.{Bool, cond}
use mathlib.Core.List.{List, [], ◌∷◌, ◌++◌, head_d}
use Prim.Native.Nat.{ℕ, suc, ◌+◌, ◌-◌, ◌*◌, ◌≤◌, ◌<◌}
use native.Mathlib.Nat.{mul-le-mul_right, zero-sub, add-zero}
use native.Mathlib.Omega.{arith}
use lib.Dec.{eqb}
use lib.ListN.{length, drop, length-drop}
use borrow.Author.Tests.{ne_eqb}
use Rattle.definition.specs.declared.Settings.{Settings}
use Rattle.definition.specs.declared.Header.{Header}
use Rattle.definition.specs.Numbers.{put}
use Rattle.definition.specs.Settings.{word_bytes}
use Rattle.definition.specs.Slots.{View, view, link_of, Store, store}
use Rattle.definition.specs.Parts.{sized_part, rest_stores, chain_stores, pieces}
use Rattle.definition.specs.Effect.{new_slots, left_over, free_left, free_after, filled_after, header_stores, effect}
use Rattle.definition.specs.Sound.{hit, occ}
use Rattle.laws.proofs.Conditions.{cond_no, which, Which, is_yes, is_no}
use Rattle.laws.proofs.Counting.{hit_same}
use Rattle.laws.proofs.Puts.{length_put}
use Rattle.laws.proofs.Views.{within, upd, view_put}
use Rattle.laws.proofs.Sizes.{sizes}
use Rattle.laws.proofs.Parts.{length_sized}
use Rattle.laws.proofs.Linked.{Linked, linked_in, linked_head, linked_below, linked_upd}
use Rattle.laws.proofs.Taking.{next_slot, after_next, new_next, left_over_next, free_left_next, filled_next, next_fewer, next_once}
use Rattle.writes.specs.declared.Taken.{Taken}
use Rattle.writes.specs.Steps.{next_part, taken_from, clear_stores, place_after, piece_at, linked_part}
use Rattle.writes.specs.Ready.{Fit, Ready, Freeing}
use Rattle.writes.proofs.Links.{Next, taken_next}
use Rattle.writes.proofs.Pieces.{Some, pieces_at, pieces_start, pieces_left, pieces_last, pieces_step, more_multi, place_inside, part_fits}

-- ---- the stores still to come

-- pieces from place pos on into these slots: a whole chain at place 0, later parts after it
part_stores : Settings → Bool → ℕ → ℕ → List ℕ → List (List ℕ) → List Store
part_stores s mark total pos l ps = cond (eqb pos 0) (chain_stores s mark total l ps) (rest_stores mark l ps)

-- these pieces, into slot x and those taken after it, and the end
pub still_stores : Settings → Bool → ℕ → Bool → ℕ → ℕ → List ℕ → List ℕ → ℕ → List ℕ → List (List ℕ) → List Store
still_stores s mark total same pos x old free F p more =
    part_stores s mark total pos (x ∷ new_slots old free F (length more)) (p ∷ more)
    ++ clear_stores same (left_over old (length more)) (free_left old free (length more)) (filled_after old free F (length more))

-- the one effect: the new chain, and the end
pub effect_clears : (s : Settings) (mark : Bool) (total : ℕ) (ps : List (List ℕ)) (old free : List ℕ) (F : ℕ)
    → effect s mark total ps old free F
    ≡ chain_stores s mark total (new_slots old free F (length ps)) ps
    ++ clear_stores (eqb (length ps) (length old)) (left_over old (length ps)) (free_left old free (length ps)) (filled_after old free F (length ps))
unfolding effect header_stores free_after clear_stores
effect_clears s mark total ps old free F = refl

still_start : (s : Settings) (mark : Bool) (total : ℕ) (p : List ℕ) (more : List (List ℕ)) (old free : List ℕ) (F : ℕ)
    → effect s mark total (p ∷ more) old free F
    ≡ still_stores s mark total (eqb (suc (length more)) (length old)) 0 (next_slot old free F) (after_next old free F).old (after_next old free F).free (after_next old free F).filled p more
unfolding still_stores part_stores
still_start s mark total p more old free F =
    let k : ℕ = length more in
    effect_clears s mark total (p ∷ more) old free F
    ∙ rw (new_next old free F k, left_over_next old free F k, free_left_next old free F k, filled_next old free F k) refl

module _ (s : Settings) (mark : Bool) (total : ℕ) (same : Bool) (body : List ℕ) where
  part_step : (pos x y : ℕ) (l q : List ℕ) (ps : List (List ℕ)) → 0 < place_after s pos
      → part_stores s mark total pos (x ∷ y ∷ l) (piece_at s pos body ∷ q ∷ ps)
      ≡ (x, linked_part s mark total y pos body) ∷ part_stores s mark total (place_after s pos) (y ∷ l) (q ∷ ps)
  unfolding part_stores chain_stores rest_stores linked_part
  part_step pos x y l q ps h = go (which (eqb pos 0))
    where
      later : part_stores s mark total (place_after s pos) (y ∷ l) (q ∷ ps) ≡ rest_stores mark (y ∷ l) (q ∷ ps)
      later = cond_no (eqb (place_after s pos) 0) _ _ (ne_eqb (place_after s pos) 0 (omega arith))

      go : Which (eqb pos 0) → part_stores s mark total pos (x ∷ y ∷ l) (piece_at s pos body ∷ q ∷ ps)
          ≡ (x, linked_part s mark total y pos body) ∷ part_stores s mark total (place_after s pos) (y ∷ l) (q ∷ ps)
      go (is_yes e) = rw (later, e) refl
      go (is_no e) = rw (later, e) refl

  still_step : (pos x : ℕ) (old free : List ℕ) (F : ℕ) (q : List ℕ) (ps : List (List ℕ)) → 0 < place_after s pos
      → still_stores s mark total same pos x old free F (piece_at s pos body) (q ∷ ps)
      ≡ (x, linked_part s mark total (next_slot old free F) pos body)
      ∷ still_stores s mark total same (place_after s pos) (next_slot old free F) (after_next old free F).old (after_next old free F).free (after_next old free F).filled q ps
  unfolding still_stores
  still_step pos x old free F q ps h =
      let k : ℕ = length ps in
      rw (new_next old free F k, left_over_next old free F k, free_left_next old free F k, filled_next old free F k, part_step pos x (next_slot old free F) (new_slots (after_next old free F).old (after_next old free F).free (after_next old free F).filled k) q ps h) refl

  still_last : (pos x : ℕ) (old free : List ℕ) (F : ℕ) (p : List ℕ)
      → still_stores s mark total same pos x old free F p [] ≡ (x, sized_part mark p) ∷ clear_stores same old free F
  unfolding still_stores part_stores chain_stores rest_stores new_slots left_over free_left filled_after
  still_last pos x old free F p = go (which (eqb pos 0))
    where
      go : Which (eqb pos 0) → still_stores s mark total same pos x old free F p [] ≡ (x, sized_part mark p) ∷ clear_stores same old free F
      go (is_yes e) = rw e (simp (zero-sub, add-zero) refl)
      go (is_no e) = rw e (simp (zero-sub, add-zero) refl)

-- ---- the loop

-- the slot in hand and what is left of the old chain and of the free list share nothing, and are enough for the pieces from pos on
pub record Going (s : Settings) (mark : Bool) (total : ℕ) (same : Bool) (body T t : List ℕ) (pos : ℕ) (to : Taken) : Type 0 where
  pub old : List ℕ
  pub free : List ℕ
  pub piece : List ℕ
  pub more : List (List ℕ)
  pub cut : pieces_at s body pos ≡ piece ∷ more
  pub old_links : Linked (next_part s) (view s.size t) to.header.filled to.rest old
  pub free_links : Linked link_of (view s.size t) to.header.filled to.header.removed free
  pub once : (i : ℕ) → hit i to.slot + (occ i old + occ i free) ≤ 1
  pub up : 0 < to.slot
  pub low : to.slot < to.header.filled
  pub room : filled_after old free to.header.filled (length more) * s.size ≤ length t
  pub here : pos ≤ length body
  pub left : store s.size t (still_stores s mark total same pos to.slot old free to.header.filled piece more) ≡ T

-- room for slots from FILLED up is room for those below it
filled_room : (E F n L : ℕ) (old free : List ℕ) → filled_after old free F n * E ≤ L → F * E ≤ L
unfolding filled_after
filled_room E F n L old free h = omega (arith, mul-le-mul_right E (more F (n - length old - length free)))
  where
    more : (a b : ℕ) → a ≤ a + b
    more a b = omega arith

-- what next_free asks: in the table the old chain's slot, LAST_REMOVED and the slots below FILLED
abbrev pub Asked : Settings → List ℕ → ℕ → Header → Type 0
Asked s t at h = (at * s.size + s.size ≤ length t) × (h.removed * s.size + s.size ≤ length t) × (h.filled * s.size ≤ length t)

next_asks : (s : Settings) (t old free : List ℕ) (at n : ℕ) (h : Header) → 0 < h.filled
    → Linked (next_part s) (view s.size t) h.filled at old → Linked link_of (view s.size t) h.filled h.removed free
    → filled_after old free h.filled n * s.size ≤ length t → Asked s t at h
next_asks s t old free at n h pos lo lf room =
    let E : ℕ = s.size in
    let F : ℕ = h.filled in
    let m : F * E ≤ length t = filled_room E F n (length t) old free room in (
      within E at F (length t) (linked_below (next_part s) (view E t) F at old pos lo) m,
      within E h.removed F (length t) (linked_below link_of (view E t) F h.removed free pos lf) m,
      m,
    )

-- ---- the first slot

first_piece : (s : Settings) (body : List ℕ) → Fit s body → Some (pieces s body)
first_piece s body fit = let k = pieces_left s body fit 0 in record { piece = k.piece; more = k.more; is = sym (pieces_start s body) ∙ k.is }

module _ (s : Settings) (same : Bool) (body t old free : List ℕ) (at : ℕ) (h : Header) (fit : Fit s body) (r : Ready s same body t old free at h) where
  pub begin : (mark : Bool) (total : ℕ) (y : Taken) → y ≡ taken_from s (view s.size t) at h
      → Going s mark total same body (store s.size t (effect s mark total (pieces s body) old free h.filled)) t 0 y
  begin mark total y ey =
      let f : View = view s.size t in
      let F : ℕ = h.filled in
      let k : Next s f old free F y = rw ey (taken_next s f old free at h r.some r.old_links r.free_links) in
      let p = first_piece s body fit in
      let n : length (pieces s body) ≡ suc (length p.more) = ap length p.is in
      let apart = next_once old free F (linked_in (next_part s) f F at old r.old_links) (linked_in link_of f F h.removed free r.free_links) r.once in
      record {
        old = (after_next old free F).old;
        free = (after_next old free F).free;
        piece = p.piece;
        more = p.more;
        cut = pieces_start s body ∙ p.is;
        old_links = k.old_links;
        free_links = k.free_links;
        once = λ i. rw k.slot (apart i);
        up = k.up;
        low = k.low;
        room = rw (k.filled, ← filled_next old free F (length p.more), ← n) r.room;
        here = omega arith;
        left = rw (r.stays, n, p.is, k.slot, k.filled) (ap (store s.size t) (sym (still_start s mark total p.piece p.more old free F)));
      }

-- ---- a turn, and the last part

-- t was the table before the last part was stored and t' is the one after it: what is left of the old chain is to be freed
pub record Ended (s : Settings) (same : Bool) (T t t' old free : List ℕ) (to : Taken) : Type 0 where
  pub freeing : Freeing s t' old free to.rest to.header
  pub left : store s.size t' (clear_stores same old free to.header.filled) ≡ T

module _ (s : Settings) (mark : Bool) (total : ℕ) (same : Bool) (body T : List ℕ) (fit : Fit s body)
    (t : List ℕ) (pos : ℕ) (to : Taken) (g : Going s mark total same body T t pos to) where
  pub going_asks : Asked s t to.rest to.header
  going_asks = next_asks s t g.old g.free to.rest (length g.more) to.header (omega (arith, g.low)) g.old_links g.free_links g.room

  -- the slot in hand lies in the table
  pub slot_fits : to.slot * s.size + s.size ≤ length t
  slot_fits = within s.size to.slot to.header.filled (length t) g.low going_asks.2

  -- bytes laid over the slot in hand leave the links of the others
  module _ (t' bs : List ℕ) (fits : length bs ≤ s.size) (w : t' ≡ put t (to.slot * s.size) bs) where
    long : length t' ≡ length t
    long = rw w (length_put t (to.slot * s.size) bs (omega (arith, slot_fits)))

    kept : (next : List ℕ → ℕ) (F a : ℕ) (l : List ℕ) → occ to.slot l ≡ 0 → Linked next (view s.size t) F a l → Linked next (view s.size t') F a l
    kept next F a l z k =
        let v : view s.size t' ≡ upd (view s.size t) to.slot bs = rw w (view_put s.size to.slot t bs fits slot_fits) in
        rw v (linked_upd next (view s.size t) F to.slot bs a l z k)

  pub go_on : (y : Taken) (pos' : ℕ) (t' : List ℕ) → s.size - word_bytes < length body - pos → y ≡ taken_from s (view s.size t) to.rest to.header
      → t' ≡ put t (to.slot * s.size) (linked_part s mark total y.slot pos body) → pos' ≡ place_after s pos
      → Going s mark total same body T t' pos' y
  unfolding store
  go_on y pos' t' h ey w ep =
      let f : View = view s.size t in
      let F : ℕ = to.header.filled in
      let old : List ℕ = g.old in
      let free : List ℕ = g.free in
      let k : Next s f old free F y = rw ey (taken_next s f old free to.rest to.header (omega (arith, g.low)) g.old_links g.free_links) in
      let place = place_inside s body fit pos h in
      let bs : List ℕ = linked_part s mark total y.slot pos body in
      let lb : length bs ≤ s.size = part_fits s mark total y.slot pos body (sizes s fit.good) (more_multi s body fit pos h) place.1 in
      let io = linked_in (next_part s) f F to.rest old g.old_links in
      let fi = linked_in link_of f F to.header.removed free g.free_links in
      let apart = next_once old free F io fi (λ i. omega (arith, g.once i)) in
      let q = pieces_left s body fit (place_after s pos) in
      let c : g.piece ∷ g.more ≡ piece_at s pos body ∷ q.piece ∷ q.more = cc (g.cut, pieces_step s body fit pos h, q.is) in
      let cp : g.piece ≡ piece_at s pos body = cc in
      let cm : g.more ≡ q.piece ∷ q.more = cc in
      let lt : length t' ≡ length t = long t' bs lb w in
      let none : occ to.slot (after_next old free F).old + occ to.slot (after_next old free F).free ≡ 0 =
      omega (arith, next_fewer old free F to.slot, g.once to.slot, hit_same to.slot) in
      record {
        old = (after_next old free F).old;
        free = (after_next old free F).free;
        piece = q.piece;
        more = q.more;
        cut = rw ep q.is;
        old_links = kept t' bs lb w (next_part s) y.header.filled y.rest (after_next old free F).old (omega arith) k.old_links;
        free_links = kept t' bs lb w link_of y.header.filled y.header.removed (after_next old free F).free (omega arith) k.free_links;
        once = λ i. rw k.slot (apart i);
        up = k.up;
        low = k.low;
        room = rw (lt, k.filled, ← filled_next old free F (length q.more), ← ap length cm) g.room;
        here = rw ep place.1;
        left = rw (ep, w, k.slot, k.filled) (sym (ap (store s.size t) (still_step s mark total same body pos to.slot old free F q.piece q.more (omega (arith, place.0)))) ∙ rw (← cp, ← cm) g.left);
      }

  pub last_part : (t' : List ℕ) → length body - pos ≤ s.size - word_bytes → t' ≡ put t (to.slot * s.size) (sized_part mark (drop pos body))
      → Ended s same T t t' g.old g.free to
  unfolding store
  last_part t' h w =
      let z = sizes s fit.good in
      let F : ℕ = to.header.filled in
      let bs : List ℕ = sized_part mark (drop pos body) in
      let lb : length bs ≤ s.size = omega (arith, length_sized mark (drop pos body), length-drop pos body, z.least) in
      let c : g.piece ∷ g.more ≡ drop pos body ∷ [] = cc (g.cut, pieces_last s body fit pos h) in
      let cp : g.piece ≡ drop pos body = cc in
      let cm : g.more ≡ [] = cc in
      let lt : length t' ≡ length t = long t' bs lb w in
      record {
        freeing =
            record {
              good = fit.good;
              links = kept t' bs lb w (next_part s) F to.rest g.old (omega (arith, g.once to.slot, hit_same to.slot)) g.old_links;
              top = linked_head link_of (view s.size t) F to.header.removed g.free g.free_links;
              once = λ i. omega (arith, g.once i);
              some = omega (arith, g.low);
              room = rw lt going_asks.2;
            };
        left = rw w (sym (ap (store s.size t) (still_last s mark total same body pos to.slot g.old g.free F (drop pos body))) ∙ rw (← cp, ← cm) g.left);
      }

-- ---- from where the loop began

-- from the table t₀, the old chain at at₀ and the header h₀ the loop came here, and whichever lists it began with, the table that they
-- promise is made
pub record Laid (s : Settings) (mark : Bool) (total : ℕ) (same : Bool) (body t₀ : List ℕ) (at₀ : ℕ) (h₀ : Header) (t : List ℕ) (pos : ℕ) (to : Taken) : Type 0 where
  pub fit : Fit s body
  pub here : (T : List ℕ) × Going s mark total same body T t pos to
  pub each : (old free : List ℕ) → Ready s same body t₀ old free at₀ h₀
      → Going s mark total same body (store s.size t₀ (effect s mark total (pieces s body) old free h₀.filled)) t pos to

module _ {s : Settings} {same : Bool} {body t : List ℕ} {at : ℕ} {h : Header} (may : Fit s body × ((old : List ℕ) × (free : List ℕ) × Ready s same body t old free at h)) where
  pub first_asks : Asked s t at h
  first_asks = let r = may.1.2 in next_asks s t may.1.0 may.1.1 at (length (pieces s body)) h r.some r.old_links r.free_links r.room

  pub laid_start : (mark : Bool) (total : ℕ) {y : Taken} → y ≡ taken_from s (view s.size t) at h → Laid s mark total same body t at h t 0 y
  laid_start mark total {y} e = record { fit = may.0; here = (_, each may.1.0 may.1.1 may.1.2); each = each }
    where
      each : (old free : List ℕ) → Ready s same body t old free at h → Going s mark total same body (store s.size t (effect s mark total (pieces s body) old free h.filled)) t 0 y
      each old free r = begin s same body t old free at h may.0 r mark total y e

  -- the slot that is answered
  pub first_slot : {old free : List ℕ} → Ready s same body t old free at h → {y : Taken} → y ≡ taken_from s (view s.size t) at h
      → y.slot ≡ head_d (new_slots old free h.filled (length (pieces s body))) 0
  unfolding head_d
  first_slot {old} {free} r {y} e =
      let k : Next s (view s.size t) old free h.filled y = rw e (taken_next s (view s.size t) old free at h r.some r.old_links r.free_links) in
      let p = first_piece s body may.0 in
      k.slot ∙ sym (ap (λ (l : List (List ℕ)). head_d (new_slots old free h.filled (length l)) 0) p.is ∙ ap (λ (l : List ℕ). head_d l 0) (new_next old free h.filled (length p.more)))

module _ {s : Settings} {mark : Bool} {total : ℕ} {same : Bool} {body t₀ : List ℕ} {at₀ : ℕ} {h₀ : Header} {t : List ℕ} {pos : ℕ} {to : Taken}
    (k : Laid s mark total same body t₀ at₀ h₀ t pos to) where
  pub laid_asks : Asked s t to.rest to.header
  laid_asks = going_asks s mark total same body k.here.0 k.fit t pos to k.here.1

  pub laid_slot : to.slot * s.size + s.size ≤ length t
  laid_slot = slot_fits s mark total same body k.here.0 k.fit t pos to k.here.1

  pub laid_here : pos ≤ length body
  laid_here = k.here.1.here

  module _ (more : s.size - word_bytes < length body - pos) where
    pub laid_place : (pos < place_after s pos) × (place_after s pos ≤ length body)
    laid_place = place_inside s body k.fit pos more

    pub laid_turn : {y : Taken} {pos' : ℕ} {t' : List ℕ} → y ≡ taken_from s (view s.size t) to.rest to.header
        → t' ≡ put t (to.slot * s.size) (linked_part s mark total y.slot pos body) → pos' ≡ place_after s pos → Laid s mark total same body t₀ at₀ h₀ t' pos' y
    laid_turn {y} {pos'} {t'} ey w ep = record { fit = k.fit; here = (k.here.0, turn _ k.here.1); each = λ old free r. turn _ (k.each old free r) }
      where
        turn : (T : List ℕ) → Going s mark total same body T t pos to → Going s mark total same body T t' pos' y
        turn T g = go_on s mark total same body T k.fit t pos to g y pos' t' more ey w ep

  module _ {t' : List ℕ} (last : length body - pos ≤ s.size - word_bytes) (w : t' ≡ put t (to.slot * s.size) (sized_part mark (drop pos body))) where
    ended : (T : List ℕ) (g : Going s mark total same body T t pos to) → Ended s same T t t' g.old g.free to
    ended T g = last_part s mark total same body T k.fit t pos to g t' last w

    pub laid_freeing : (old : List ℕ) × (free : List ℕ) × Freeing s t' old free to.rest to.header
    laid_freeing = (k.here.1.old, k.here.1.free, (ended _ k.here.1).freeing)

    pub laid_end : {t'' : List ℕ} → ((old free : List ℕ) → Freeing s t' old free to.rest to.header → t'' ≡ store s.size t' (clear_stores same old free to.header.filled))
        → (old free : List ℕ) → Ready s same body t₀ old free at₀ h₀ → t'' ≡ store s.size t₀ (effect s mark total (pieces s body) old free h₀.filled)
    laid_end cleared old free r =
        let e = ended _ (k.each old free r) in
        cleared _ _ e.freeing ∙ e.left

-- A copy of part of a chain's bytes, piece by piece: what is copied of one piece and then of the rest is what is copied of both
-- (`split_copy`), and after the piece in hand the later parts are left to copy (`onward`).
use mathlib.Core.Path.{◌≡◌, refl, sym, ap, ◌∙◌}
use mathlib.Core.Bool.{Bool, true, false}
use mathlib.Core.List.{List, [], ◌∷◌, ◌++◌, append-nil}
use Prim.Native.Nat.{ℕ, ◌+◌, ◌-◌, ◌*◌, ◌≤◌, ◌<◌, min}
use native.Mathlib.Omega.{arith}
use Rattle.std.proofs.lemmas.List.{take_min, drop_min}
use lib.ListN.{length, take, drop, length-append, length-drop}
use Rattle.definition.specs.declared.Settings.{Settings}
use Rattle.definition.specs.Numbers.{put}
use Rattle.definition.specs.Settings.{bad_settings}
use Rattle.definition.specs.Slots.{view, is_continuation, size_of, link_of}
use Rattle.definition.specs.Chains.{sized_body, rest_body}
use Rattle.laws.proofs.Conditions.{cond_yes, cond_no, yes-no}
use Rattle.laws.proofs.Lists.{take_append, drop_append, length_part}
use Rattle.laws.proofs.Puts.{put_none, put_next, length_put}
use Rattle.laws.proofs.Views.{within, length_view}
use Rattle.laws.proofs.Marks.{small_no_mark}
use Rattle.laws.proofs.Sizes.{Sizes, sizes}
use Rattle.laws.proofs.Turns.{last_small}
use Rattle.laws.proofs.Chains.{RestAt}
use Rattle.contents.specs.Pieces.{part_piece, part_next, PartFits, Parts, Copying}

-- ---- one piece, and the rest

module _ (p r : List ℕ) (from n k c : ℕ) (h : k ≡ min from (length p)) (g : c ≡ min (length p - k) n) (enough : from + n ≤ length (p ++ r)) where
  pub shares : (k ≤ from) × (c ≤ n) × (k + c ≤ length p) × (from - k + (n - c) ≤ length r)
  shares = (omega arith, omega arith, omega arith, omega (arith, length-append p r))

  -- the bytes wanted are those of the piece, then those of the rest
  wanted : take n (drop from (p ++ r)) ≡ take c (drop k p) ++ take (n - c) (drop (from - k) r)
  wanted =
      let some : c ≡ min n (length (drop k p)) = omega (arith, length-drop k p) in
      let here : take c (drop k p) ≡ take n (drop from p) =
      ap (λ (i : ℕ). take i (drop k p)) some ∙ take_min n (drop k p) ∙ ap (λ (i : ℕ). take n (drop i p)) h ∙ ap (take n) (drop_min from p) in
      let passed : from - k ≡ from - length p = omega arith in
      let more : n - c ≡ n - length (drop from p) = omega (arith, length-drop from p) in
      rw (here, passed, more, drop_append, take_append) refl

  -- put one after the other they are one put
  pub split_copy : (out : List ℕ) (to : ℕ) → to + n ≤ length out
      → put (put out to (take c (drop k p))) (to + c) (take (n - c) (drop (from - k) r)) ≡ put out to (take n (drop from (p ++ r)))
  split_copy out to room =
      let s = shares in
      let lp : length (take c (drop k p)) ≡ c = length_part p k c s.2 in
      let lr : length (take (n - c) (drop (from - k) r)) ≡ n - c = length_part r (from - k) (n - c) s.3 in
      put_next out to (to + c) (take c (drop k p)) (take (n - c) (drop (from - k) r)) (omega arith) (omega (arith, s.1)) ∙ ap (put out to) (sym wanted)

-- ---- the piece in hand

-- these bytes of a chain are piece p, which links on to `next`, and what later parts hold
pub record Ahead (s : Settings) (t body p : List ℕ) (next : ℕ) : Type 0 where
  pub slots : List ℕ
  pub is : body ≡ p ++ rest_body (view s.size t) slots
  pub more : 0 < length (rest_body (view s.size t) slots) → Parts s t next slots

-- what is wanted of the piece was copied: the later parts are left to copy
pub onward : (s : Settings) (t T body p : List ℕ) (next from n : ℕ) (out : List ℕ) (to : ℕ) → Ahead s t body p next → from + n ≤ length body → to + n ≤ length out
    → put out to (take n (drop from body)) ≡ T → (k c : ℕ) → k ≡ min from (length p) → c ≡ min (length p - k) n → (out' : List ℕ) → out' ≡ put out to (take c (drop k p))
    → Copying s t T next (from - k) (n - c) out' (to + c)
onward s t T body p next from n out to a enough room left k c h g out' o =
    let r = rest_body (view s.size t) a.slots in
    let all : from + n ≤ length (p ++ r) = rw (← a.is) enough in
    let q = shares p r from n k c h g all in
    let w : to + length (take c (drop k p)) ≤ length out = omega (arith, length_part p k c q.2, q.1) in
    record {
      slots = a.slots;
      parts = λ m. a.more (omega (arith, q.3));
      enough = q.3;
      room = rw (o, length_put) (omega (arith, q.1));
      left = rw o (split_copy p r from n k c h g all out to room ∙ ap (λ (b : List ℕ). put out to (take n (drop from b))) (sym a.is) ∙ left);
    }

-- ---- later parts

-- the first of them, which holds a byte if any of them does
pub record Later (s : Settings) (t : List ℕ) (at : ℕ) (l : List ℕ) : Type 0 where
  pub slot : at * s.size + s.size ≤ length t
  pub fits : PartFits (view s.size t at)
  pub ahead : Ahead s t (rest_body (view s.size t) l) (part_piece (view s.size t at)) (part_next (view s.size t at))
  pub some : 0 < length (rest_body (view s.size t) l) → 0 < length (part_piece (view s.size t at))

module _ (s : Settings) (t : List ℕ) (at F : ℕ) (mark after : Bool) (z : Sizes s) (inside : F * s.size ≤ length t) where
  last_later : (x : ℕ) → RestAt s (view s.size t) F mark after at (x ∷ []) → Later s t at (x ∷ [])
  unfolding part_piece rest_body
  last_later x r =
      let slot : at * s.size + s.size ≤ length t = within s.size at F (length t) (omega (arith, r.0, r.2)) inside in
      let b : List ℕ = view s.size t at in
      let small : size_of b ≤ s.size - 2 = last_small s mark after b (rw r.0 r.3) in
      let is : sized_body (view s.size t x) ≡ part_piece b =
      ap (λ (i : ℕ). sized_body (view s.size t i)) (sym r.0) ∙ sym (cond_no (is_continuation b) _ _ (small_no_mark s.size b z.largest small).not_continuation) in
      record {
        slot = slot;
        fits = λ e. omega (arith, z.least, length_view s.size at t slot);
        ahead = record { slots = []; is = is ∙ sym (append-nil _); more = λ h. absurd (omega arith) };
        some = λ h. omega (arith, ap length is);
      }

  continuation_later : (x y : ℕ) (l : List ℕ) → RestAt s (view s.size t) F mark after at (x ∷ y ∷ l) → Later s t at (x ∷ y ∷ l)
  unfolding part_piece part_next rest_body
  continuation_later x y l r =
      let slot : at * s.size + s.size ≤ length t = within s.size at F (length t) (omega (arith, r.0, r.2)) inside in
      let b : List ℕ = view s.size t at in
      let m : is_continuation b ≡ true = rw r.0 r.3 in
      let is : part_piece b ≡ drop 10 b = cond_yes (is_continuation b) _ _ m in
      record {
        slot = slot;
        fits = λ e. yes-no (is_continuation b) m e;
        ahead = record {
          slots = y ∷ l;
          is = rw (is, r.0) refl;
          more = λ h. record { F = F; mark = mark; after = false; rest = rw (cond_yes (is_continuation b) (link_of b) 0 m, r.0) r.4; inside = inside };
        };
        some = λ h. rw is (rw length-drop (omega (arith, z.least, length_view s.size at t slot)));
      }

later : (s : Settings) (t : List ℕ) (at : ℕ) (l : List ℕ) → bad_settings s ≡ false → Parts s t at l → Later s t at l
later s t at l good q = go l q.rest
  where
    go : (l : List ℕ) → RestAt s (view s.size t) q.F q.mark q.after at l → Later s t at l
    go [] r = absurd r
    go (x ∷ []) r = last_later s t at q.F q.mark q.after (sizes s good) q.inside x r
    go (x ∷ y ∷ l) r = continuation_later s t at q.F q.mark q.after (sizes s good) q.inside x y l r

module _ (s : Settings) (t T : List ℕ) (at from n : ℕ) (out : List ℕ) (to : ℕ) (good : bad_settings s ≡ false) (c : Copying s t T at from n out to) where
  -- nothing is left
  pub done : n ≡ 0 → out ≡ T
  done e = sym (ap (λ (j : ℕ). put out to (take j (drop from (rest_body (view s.size t) c.slots)))) e ∙ put_none out to) ∙ c.left

  module _ (some : 0 < n) where
    -- something is left, so there is a next part
    pub next_part : Later s t at c.slots
    next_part = later s t at c.slots good (c.parts some)

    module _ (p : List ℕ) (e : p ≡ part_piece (view s.size t at)) (k j : ℕ) (h : k ≡ min from (length p)) (g : j ≡ min (length p - k) n) where
      -- some byte of it is passed over or copied
      pub less : from - k + (n - j) < from + n
      less = let m : 0 < length p = rw e (next_part.some (omega (arith, c.enough))) in omega (arith, c.enough)

      pub turn : (next : ℕ) → next ≡ part_next (view s.size t at) → (out' : List ℕ) → out' ≡ put out to (take j (drop k p)) → Copying s t T next (from - k) (n - j) out' (to + j)
      turn next f out' o =
          onward s t T (rest_body (view s.size t) c.slots) p next from n out to (rw (e, f) next_part.ahead) c.enough c.room c.left k j h g out' o

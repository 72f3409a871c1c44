-- The first piece of a chain's content: it lies in the slot where the chain starts, and what is left to copy lies in the later parts.
use mathlib.Core.Path.{◌≡◌, refl, sym, ap, ◌∙◌, subst}
use mathlib.Core.Bool.{Bool, true, false, cond}
use mathlib.Core.List.{List, [], ◌∷◌, append-nil}
use mathlib.Core.Option.{none}
use Prim.Native.Nat.{ℕ, ◌+◌, ◌-◌, ◌*◌, ◌≤◌, ◌<◌, min}
use native.Mathlib.Omega.{arith}
use lib.ListN.{length, take, drop, length-append, length-drop}
use lib.Seq.{drop-drop}
use Rattle.definition.specs.declared.Settings.{Settings}
use Rattle.definition.specs.Numbers.{put}
use Rattle.definition.specs.Settings.{prefix_len, head_overhead}
use Rattle.definition.specs.Slots.{view, filled, size_of, head_link, mark_of}
use Rattle.definition.specs.Chains.{head_fault, sized_body, rest_body, body_of, content_of, walk}
use Rattle.definition.specs.Calls.{capacity}
use Rattle.laws.proofs.Conditions.{cond_yes, cond_no, yes-no}
use Rattle.laws.proofs.Lists.{length_part}
use Rattle.laws.proofs.Views.{apart, length_view}
use Rattle.laws.proofs.Sizes.{Sizes, sizes, slot_inside, slots_inside}
use Rattle.laws.proofs.Chains.{TailAt, ChainAt, chain_head}
use Rattle.laws.proofs.Passed.{Opened, opened, chain_passed}
use Rattle.walks.proofs.ChainWalks.{rest_most, slot_most}
use Rattle.laws.proofs.FixedParts.{size_fits, size_least}
use Rattle.contents.specs.Pieces.{start_piece, start_next, StartFits, Copying, Copyable, content_at}
use Rattle.contents.proofs.CopyLaws.{Ahead, onward}

-- the slot where a chain starts, and its piece, which holds the prefix
pub record Start (s : Settings) (t : List ℕ) (at : ℕ) (l : List ℕ) : Type 0 where
  pub slot : at * s.size + s.size ≤ length t
  pub fits : StartFits s (view s.size t at)
  pub prefixed : prefix_len s ≤ length (start_piece s (view s.size t at))
  pub most : length (start_piece s (view s.size t at)) ≤ s.size
  pub ahead : Ahead s t (body_of s (view s.size t) l) (start_piece s (view s.size t at)) (start_next s (view s.size t at))
  pub short : length ahead.slots < length l

module _ (s : Settings) (t : List ℕ) (F at : ℕ) (z : Sizes s) (slot : at * s.size + s.size ≤ length t) (inside : F * s.size ≤ length t) where
  from_head : s.multipart ≡ true → (l : List ℕ) → TailAt true s (view s.size t) F at l → Start s t at (at ∷ l)
  unfolding start_piece start_next body_of
  from_head m l r =
      let b : List ℕ = view s.size t at in
      let long : length (cond s.multipart (drop (head_overhead s) b) (sized_body b)) ≡ s.size - head_overhead s =
      ap length (cond_yes s.multipart _ _ m) ∙ rw (length-drop, length_view s.size at t slot) refl in
      record {
        slot = slot;
        fits = λ e. yes-no s.multipart m e;
        prefixed = omega (arith, z.roomy m);
        most = omega arith;
        ahead = record {
          slots = l;
          is = rw m refl;
          more = λ h. record { F = F; mark = mark_of s b; after = true; rest = rw (cond_yes s.multipart (head_link s b) 0 m) r.0; inside = inside };
        };
        short = omega arith;
      }

  from_plain : s.multipart ≡ false → head_fault s none 8 (view s.size t at) ≡ 0 → Start s t at (at ∷ [])
  unfolding start_piece body_of sized_body rest_body
  from_plain m g =
      let b : List ℕ = view s.size t at in
      let fits : 2 + size_of b ≤ s.size = omega (arith, size_fits s b m g, z.least) in
      let w : length b ≡ s.size = length_view s.size at t slot in
      let long : length (cond s.multipart (drop (head_overhead s) b) (take (size_of b) (drop 2 b))) ≡ size_of b =
      ap length (cond_no s.multipart _ _ m) ∙ length_part b 2 (size_of b) (omega arith) in
      record {
        slot = slot;
        fits = λ e. omega arith;
        prefixed = omega (arith, size_least s b m g);
        most = omega arith;
        ahead = record { slots = []; is = rw m (sym (append-nil _)); more = λ h. absurd (omega arith) };
        short = omega arith;
      }

  from_chain : (l : List ℕ) → ChainAt s (view s.size t) F at l → Start s t at l
  from_chain [] c = absurd c
  from_chain (x ∷ l) c = subst (λ (y : ℕ). Start s t at (y ∷ l)) (sym c.0) (go s.multipart refl c.4)
    where
      go : (m : Bool) → s.multipart ≡ m → TailAt m s (view s.size t) F at l → Start s t at (at ∷ l)
      go true m r = from_head m l r
      go false m r = rw r (from_plain m c.3)

module _ (s : Settings) (t : List ℕ) (at from n : ℕ) (out : List ℕ) (pre : Copyable s t at from n out) where
  open_table : Opened s (view s.size t) (capacity s t)
  open_table = opened s (view s.size t) (capacity s t) pre.table

  pub start : Start s t at (walk s (view s.size t) (filled (view s.size t)) at).slots
  start =
      let f = view s.size t in
      let chained = (chain_passed s f at none pre.chain).0 in
      let h = chain_head s f (filled f) at (walk s f (filled f) at).slots chained in
      from_chain s t (filled f) at (sizes s open_table.settings) (slot_inside s t at (omega (arith, h.1, open_table.fits)))
      (slots_inside s t (filled f) open_table.fits) (walk s f (filled f) at).slots chained

  -- the prefix is there
  pub prefix_there : prefix_len s ≤ length (body_of s (view s.size t) (walk s (view s.size t) (filled (view s.size t)) at).slots)
  prefix_there = rw start.ahead.is (rw length-append (omega (arith, start.prefixed)))

  -- the bytes to copy lie behind it
  enough : prefix_len s + from + n ≤ length (body_of s (view s.size t) (walk s (view s.size t) (filled (view s.size t)) at).slots)
  unfolding content_of
  enough =
      let b = body_of s (view s.size t) (walk s (view s.size t) (filled (view s.size t)) at).slots in
      omega (arith, prefix_there, pre.enough, length-drop (prefix_len s) b)

  -- the place to start from lies within the table
  pub starts_within : prefix_len s + from ≤ length t
  starts_within =
      let f = view s.size t in
      let b : length (body_of s f (walk s f (filled f) at).slots) ≡ length (start_piece s (f at)) + length (rest_body f start.ahead.slots) =
      ap length start.ahead.is ∙ length-append (start_piece s (f at)) (rest_body f start.ahead.slots) in
      let few : length start.ahead.slots < filled f = omega (arith, start.short, (chain_passed s f at none pre.chain).1) in
      omega (arith, enough, start.most, rest_most f s.size start.ahead.slots (slot_most s.size t), apart s.size (filled f) (length start.ahead.slots) few, slots_inside s t (filled f) open_table.fits)

  -- then the later parts are still to be copied
  pub rest_left : (p : List ℕ) → p ≡ start_piece s (view s.size t at) → (next : ℕ) → next ≡ start_next s (view s.size t at)
      → (skip k j : ℕ) → skip ≡ prefix_len s + from → k ≡ min skip (length p) → j ≡ min (length p - k) n → (out' : List ℕ) → out' ≡ put out 0 (take j (drop k p))
      → Copying s t (put out 0 (take n (drop from (content_at s t at)))) next (skip - k) (n - j) out' j
  unfolding content_of
  rest_left p e next f skip k j i h g out' o =
      let b = body_of s (view s.size t) (walk s (view s.size t) (filled (view s.size t)) at).slots in
      let to : 0 + j ≡ j = omega arith in
      let long : skip + n ≤ length b = omega (arith, enough) in
      let same : put out 0 (take n (drop skip b)) ≡ put out 0 (take n (drop from (content_at s t at))) =
      ap (λ (l : List ℕ). put out 0 (take n l)) (ap (λ (x : ℕ). drop x b) i ∙ sym (drop-drop from (prefix_len s) b)) in
      rw to at (onward s t _ b p next skip n out 0 (rw (e, f) start.ahead) long (omega (arith, pre.room)) same k j h g out' o)

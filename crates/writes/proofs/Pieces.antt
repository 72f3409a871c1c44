-- Prefix and content by their place: while more than E - 2 bytes remain the next piece fills a part with a link and the loop goes on
-- from the place after it (`pieces_step`), and what then remains is the last piece (`pieces_last`). So the loop's test is the cut's.
use mathlib.Core.Path.{◌≡◌, refl, sym, ap, ap₂, ◌∙◌}
use mathlib.Core.Logic.{◌≢◌}
use mathlib.Core.Bool.{Bool, true, cond}
use mathlib.Core.List.{List, [], ◌∷◌}
use Prim.Native.Nat.{ℕ, zero, suc, ◌+◌, ◌-◌, ◌≤◌, ◌<◌}
use native.Mathlib.Omega.{arith}
use lib.Dec.{eqb, leb}
use lib.ListN.{length, take, drop, length-drop}
use lib.Seq.{drop-drop, length-take-le}
use borrow.Author.Tests.{eq-eqb, ne_eqb, eqb-true, eqb-false, lt-ltb, le-ltb, leb-true, leb-false}
use Rattle.definition.specs.declared.Settings.{Settings}
use Rattle.definition.specs.Settings.{word_bytes, link_overhead, head_overhead}
use Rattle.definition.specs.Parts.{head_part, continuation_part, cut_rest, pieces}
use Rattle.laws.proofs.Conditions.{cond_yes, cond_no, which, Which, is_yes, is_no}
use Rattle.laws.proofs.Lists.{length_part}
use Rattle.laws.proofs.Sizes.{Sizes, sizes}
use Rattle.laws.proofs.Overheads.{overhead_bounds}
use Rattle.laws.proofs.Parts.{Shaped, cut_rest_joins, pieces_some, cut_rest_last, cut_rest_more, pieces_fixed, pieces_multi, length_head, length_continuation}
use Rattle.writes.specs.Steps.{overhead_at, place_after, piece_at, linked_part}
use Rattle.writes.specs.Ready.{Fit}

-- ---- a part with a link

module _ (s : Settings) (pos : ℕ) where
  overhead_head : pos ≡ 0 → overhead_at s pos ≡ head_overhead s
  unfolding overhead_at
  overhead_head z = cond_yes (eqb pos 0) _ _ (eq-eqb pos 0 z)

  overhead_later : pos ≢ 0 → overhead_at s pos ≡ link_overhead
  unfolding overhead_at
  overhead_later z = cond_no (eqb pos 0) _ _ (ne_eqb pos 0 z)

  -- no less than a continuation's, no more than a head's
  overhead_between : (link_overhead ≤ overhead_at s pos) × (overhead_at s pos ≤ head_overhead s)
  overhead_between = go (which (eqb pos 0))
    where
      go : Which (eqb pos 0) → (link_overhead ≤ overhead_at s pos) × (overhead_at s pos ≤ head_overhead s)
      go (is_yes y) = let e = overhead_head (eqb-true pos 0 y) in (omega (arith, overhead_bounds s), omega arith)
      go (is_no y) = let e = overhead_later (eqb-false pos 0 y) in (omega arith, omega (arith, overhead_bounds s))

  pub head_after : (o : ℕ) → pos ≡ 0 → o ≡ head_overhead s → s.size - o ≡ place_after s pos
  unfolding place_after
  head_after o z e = let k = overhead_head z in omega arith

  pub later_after : pos ≢ 0 → pos + (s.size - link_overhead) ≡ place_after s pos
  unfolding place_after
  later_after z = ap (λ (n : ℕ). pos + (s.size - n)) (sym (overhead_later z))

  module _ (mark : Bool) (total next : ℕ) (body : List ℕ) where
    pub part_head : pos ≡ 0 → head_part s mark total next (take (s.size - head_overhead s) body) ≡ linked_part s mark total next pos body
    unfolding linked_part piece_at
    part_head z =
        ap₂ (λ (n k : ℕ). head_part s mark total next (take (s.size - n) (drop k body))) (sym (overhead_head z)) (sym z)
        ∙ sym (cond_yes (eqb pos 0) _ _ (eq-eqb pos 0 z))

    pub part_later : pos ≢ 0 → continuation_part next (take (s.size - link_overhead) (drop pos body)) ≡ linked_part s mark total next pos body
    unfolding linked_part piece_at
    part_later z =
        ap (λ (n : ℕ). continuation_part next (take (s.size - n) (drop pos body))) (sym (overhead_later z)) ∙ sym (cond_no (eqb pos 0) _ _ (ne_eqb pos 0 z))

-- it is no longer than its slot
pub part_fits : (s : Settings) (mark : Bool) (total next pos : ℕ) (body : List ℕ) → Sizes s → s.multipart ≡ true → place_after s pos ≤ length body
    → length (linked_part s mark total next pos body) ≤ s.size
part_fits s mark total next pos body z m h = go (which (eqb pos 0))
  where
    go : Which (eqb pos 0) → length (linked_part s mark total next pos body) ≤ s.size
    go (is_yes y) =
        let e : pos ≡ 0 = eqb-true pos 0 y in
        rw (← part_head s pos mark total next body e)
        (omega (
          arith,
          z.roomy m,
          length_head s mark total next (take (s.size - head_overhead s) body),
          length-take-le (s.size - head_overhead s) body (omega (arith, head_after s pos (head_overhead s) e refl)),
        ))
    go (is_no y) =
        let e : pos ≢ 0 = eqb-false pos 0 y in
        rw (← part_later s pos mark total next body e)
        (omega (
          arith,
          z.least,
          length_continuation next (take (s.size - link_overhead) (drop pos body)),
          length_part body pos (s.size - link_overhead) (omega (arith, later_after s pos e)),
        ))

-- ---- the pieces from a place on

-- the pieces still to be written where pos bytes of the body are
unfoldable pub pieces_at : Settings → List ℕ → ℕ → List (List ℕ)
pieces_at s body pos = cond (eqb pos 0) (pieces s body) (cut_rest s.size (length body) (drop pos body))

pub pieces_start : (s : Settings) (body : List ℕ) → pieces_at s body 0 ≡ pieces s body
unfolding pieces_at
pieces_start s body = refl

later_pieces : (s : Settings) (body : List ℕ) (pos : ℕ) → pos ≢ 0 → pieces_at s body pos ≡ cut_rest s.size (length body) (drop pos body)
unfolding pieces_at
later_pieces s body pos z = cond_no (eqb pos 0) _ _ (ne_eqb pos 0 z)

-- enough fuel is enough
cut_fuel : (E n m : ℕ) (b : List ℕ) → link_overhead < E → length b ≤ n → length b ≤ m → cut_rest E n b ≡ cut_rest E m b
cut_fuel E zero m b hE h k = cut_rest_last E zero b (omega arith) ∙ sym (cut_rest_last E m b (omega arith))
cut_fuel E (suc n) zero b hE h k = cut_rest_last E (suc n) b (omega arith) ∙ sym (cut_rest_last E zero b (omega arith))
cut_fuel E (suc n) (suc m) b hE h k = go (cut_fuel E n m (drop (E - link_overhead) b) hE) (which (leb (length b) (E - word_bytes)))
  where
    go : (length (drop (E - link_overhead) b) ≤ n → length (drop (E - link_overhead) b) ≤ m → cut_rest E n (drop (E - link_overhead) b) ≡ cut_rest E m (drop (E - link_overhead) b))
        → Which (leb (length b) (E - word_bytes)) → cut_rest E (suc n) b ≡ cut_rest E (suc m) b
    go more (is_yes y) = let l = leb-true (length b) (E - word_bytes) y in cut_rest_last E (suc n) b l ∙ sym (cut_rest_last E (suc m) b l)
    go more (is_no y) =
        let l = leb-false (length b) (E - word_bytes) y in
        cut_rest_more E n b l
        ∙ ap (λ (ps : List (List ℕ)). take (E - link_overhead) b ∷ ps) (more (rw length-drop (omega arith)) (rw length-drop (omega arith)))
        ∙ sym (cut_rest_more E m b l)

-- one piece at least
pub record Some (l : List (List ℕ)) : Type 0 where
  pub piece : List ℕ
  pub more : List (List ℕ)
  pub is : l ≡ piece ∷ more

some_piece : (l : List (List ℕ)) → 0 < length l → Some l
some_piece [] h = absurd (omega arith)
some_piece (p ∷ ps) h = record { piece = p; more = ps; is = refl }

shaped_some : (E : ℕ) (l : List (List ℕ)) → Shaped E l → 0 < length l
shaped_some E [] h = absurd h
shaped_some E (p ∷ ps) h = omega arith

module _ (s : Settings) (body : List ℕ) (fit : Fit s body) (pos : ℕ) where
  -- at every place a piece is left
  pub pieces_left : Some (pieces_at s body pos)
  pieces_left = some_piece (pieces_at s body pos) (go (which (eqb pos 0)))
    where
      go : Which (eqb pos 0) → 0 < length (pieces_at s body pos)
      go (is_yes y) = rw (eqb-true pos 0 y, pieces_start s body) (pieces_some s body)
      go (is_no y) =
          let z = sizes s fit.good in
          rw (later_pieces s body pos (eqb-false pos 0 y))
          (shaped_some s.size (cut_rest s.size (length body) (drop pos body)) (cut_rest_joins s.size (length body) (drop pos body) (omega (arith, z.least)) (rw length-drop (omega arith))).0)

  -- what remains is the last piece
  pub pieces_last : length body - pos ≤ s.size - word_bytes → pieces_at s body pos ≡ drop pos body ∷ []
  pieces_last h = go (which (eqb pos 0))
    where
      go : Which (eqb pos 0) → pieces_at s body pos ≡ drop pos body ∷ []
      go (is_yes y) =
          rw (eqb-true pos 0 y) (pieces_start s body ∙ pieces_fixed s body (fit.kind ∙ le-ltb (s.size - word_bytes) (length body) (omega (arith, eqb-true pos 0 y))))
      go (is_no y) = later_pieces s body pos (eqb-false pos 0 y) ∙ cut_rest_last s.size (length body) (drop pos body) (rw length-drop h)

  module _ (h : s.size - word_bytes < length body - pos) where
    -- more remains only on a multipart table
    pub more_multi : s.multipart ≡ true
    more_multi = fit.kind ∙ lt-ltb (s.size - word_bytes) (length body) (omega arith)

    -- and fills a part, so that the place after it is within the body
    pub place_inside : (pos < place_after s pos) × (place_after s pos ≤ length body)
    unfolding place_after
    place_inside =
        let z = sizes s fit.good in
        let o = overhead_between s pos in
        (omega (arith, z.roomy more_multi), omega (arith, o.0))

    -- the next piece fills a part with a link
    pub pieces_step : pieces_at s body pos ≡ piece_at s pos body ∷ pieces_at s body (place_after s pos)
    unfolding piece_at
    pieces_step = go (which (eqb pos 0))
      where
        after : pieces_at s body (place_after s pos) ≡ cut_rest s.size (length body) (drop (place_after s pos) body)
        after = later_pieces s body (place_after s pos) (omega (arith, place_inside))

        go : Which (eqb pos 0) → pieces_at s body pos ≡ take (s.size - overhead_at s pos) (drop pos body) ∷ pieces_at s body (place_after s pos)
        go (is_yes y) =
            let e : pos ≡ 0 = eqb-true pos 0 y in
            rw (after, overhead_head s pos e, ← head_after s pos (head_overhead s) e refl, e)
            (pieces_start s body ∙ pieces_multi s body more_multi)
        go (is_no y) =
            let e : pos ≢ 0 = eqb-false pos 0 y in
            let n : ℕ = s.size - link_overhead in
            let b : List ℕ = drop pos body in
            let z = sizes s fit.good in
            let lb : length b ≡ length body - pos = length-drop pos body in
            rw (after, overhead_later s pos e, ← later_after s pos e)
            (later_pieces s body pos e
            ∙ cut_fuel s.size (length body) (suc (length body)) b (omega (arith, z.least)) (omega arith) (omega arith)
            ∙ cut_rest_more s.size (length body) b (omega arith)
            ∙ ap (λ (c : List ℕ). take n b ∷ cut_rest s.size (length body) c) (drop-drop n pos body))

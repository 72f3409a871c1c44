-- The walks one turn at a time, as a loop over the table meets them: what the free list's walk and the chain's walk come to when the
-- slot in hand is the end, out of bounds, wrongly marked, one to go on from, or a last part.
use mathlib.Core.Path.{◌≡◌, refl, ap, ◌∙◌}
use mathlib.Core.Logic.{◌≢◌}
use Prim.Native.Nat.{ℕ, zero, suc, ◌-◌, ◌≤◌, ◌<◌}
use native.Mathlib.Omega.{arith}
use native.Mathlib.Decide.{dec_lt}
use mathlib.Core.Bool.{Bool, true, false, ◌&&◌, ◌||◌}
use mathlib.Core.List.{List, [], ◌∷◌}
use mathlib.Core.Option.{none, some}
use lib.Dec.{eqb, leb, ltb}
use borrow.Author.Tests.{eq-eqb, ne_eqb, le-leb, lt-leb, lt-ltb, le-ltb, ltb-false}
use Rattle.definition.specs.declared.Settings.{Settings}
use Rattle.definition.specs.declared.PartKind.TheVariants.{Last}
use Rattle.definition.specs.Settings.{word_bytes}
use Rattle.definition.specs.Slots.{View, is_free, is_continuation, is_head, size_of, link_of}
use Rattle.definition.specs.FreeList.{push, free_from}
use Rattle.definition.specs.Chains.{Parse, part, unless_refused, last_fault, later_parse, stopped, whole, passed, is_last, onward, parts_from}
use Rattle.laws.proofs.Conditions.{cond_yes, cond_no, which, Which, is_yes, is_no, or_left, or_right, or_no, and_yes, and_left, and_right}
use Rattle.laws.proofs.Tests.{refuse_yes, refuse_no, passed as unrefused}

-- ---- the free list

module _ (f : View) (F n a : ℕ) where
  pub free_end : a ≡ 0 → free_from f F n a ≡ some []
  unfolding free_from
  free_end e = go n
    where
      go : (m : ℕ) → free_from f F m a ≡ some []
      go zero = cond_yes (eqb a 0) _ _ (eq-eqb a 0 e)
      go (suc m) = cond_yes (eqb a 0) _ _ (eq-eqb a 0 e)

  pub free_limit : a ≢ 0 → free_from f F 0 a ≡ none
  unfolding free_from
  free_limit e = cond_no (eqb a 0) _ _ (ne_eqb a 0 e)

  pub free_above : a ≢ 0 → F ≤ a → free_from f F (suc n) a ≡ none
  unfolding free_from
  free_above e b =
      cond_no (eqb a 0) _ _ (ne_eqb a 0 e) ∙ cond_no (ltb a F && is_free (f a)) _ _ (and_left (ltb a F) (is_free (f a)) (le-ltb a F b))

  pub free_unmarked : a ≢ 0 → is_free (f a) ≡ false → free_from f F (suc n) a ≡ none
  unfolding free_from
  free_unmarked e m =
      cond_no (eqb a 0) _ _ (ne_eqb a 0 e) ∙ cond_no (ltb a F && is_free (f a)) _ _ (and_right (ltb a F) (is_free (f a)) m)

  pub free_next : a ≢ 0 → a < F → is_free (f a) ≡ true → free_from f F (suc n) a ≡ push a (free_from f F n (link_of (f a)))
  unfolding free_from
  free_next e b m =
      cond_no (eqb a 0) _ _ (ne_eqb a 0 e) ∙ cond_yes (ltb a F && is_free (f a)) _ _ (and_yes (ltb a F) (is_free (f a)) (lt-ltb a F b) m)

-- ---- the later parts of a chain

-- the one judge of a last part, where its size fits and where it does not
pub last_fits : (s : Settings) (mark after : Bool) (b : List ℕ) → size_of b ≤ s.size - word_bytes → last_fault s mark after b ≡ 0
unfolding last_fault
last_fits s mark after b h = refuse_no 9 (ltb (s.size - word_bytes) (size_of b)) (le-ltb (s.size - word_bytes) (size_of b) h)

pub last_long : (s : Settings) (mark after : Bool) (b : List ℕ) → s.size - word_bytes < size_of b → last_fault s mark after b ≡ 9
unfolding last_fault
last_long s mark after b h = refuse_yes 9 (ltb (s.size - word_bytes) (size_of b)) (lt-ltb (s.size - word_bytes) (size_of b) h)

pub last_small : (s : Settings) (mark after : Bool) (b : List ℕ) → last_fault s mark after b ≡ 0 → size_of b ≤ s.size - word_bytes
unfolding last_fault
last_small s mark after b e = ltb-false (s.size - word_bytes) (size_of b) (unrefused 9 (ltb (s.size - word_bytes) (size_of b)) (omega arith) e)

module _ (s : Settings) (f : View) (F : ℕ) (mark after : Bool) where
  -- the part limit is tested before a part is looked at
  pub part_limit : (a : ℕ) → parts_from s f F mark after 0 a ≡ stopped 10
  unfolding parts_from
  part_limit a = refl

  pub part_unlinked : (n a : ℕ) → a ≡ 0 → parts_from s f F mark after (suc n) a ≡ stopped 10
  unfolding parts_from
  part_unlinked n a e = cond_yes (eqb a 0 || leb F a) _ _ (or_left (eqb a 0) (leb F a) (eq-eqb a 0 e))

  pub part_above : (n a : ℕ) → F ≤ a → parts_from s f F mark after (suc n) a ≡ stopped 10
  unfolding parts_from
  part_above n a b = cond_yes (eqb a 0 || leb F a) _ _ (or_right (eqb a 0) (leb F a) (le-leb F a b))

  module _ (n a : ℕ) (p : 0 < a) (q : a < F) where
    -- a link within bounds: the part that it names decides
    pub part_at : parts_from s f F mark after (suc n) a ≡ onward a (later_parse s mark after (f a)) (parts_from s f F mark false n (link_of (f a)))
    unfolding parts_from
    part_at = cond_no (eqb a 0 || leb F a) _ _ (or_no (eqb a 0) (leb F a) (ne_eqb a 0 (omega arith)) (lt-leb F a q))

    pub part_marked : (is_free (f a) || is_head (f a)) ≡ true → parts_from s f F mark after (suc n) a ≡ stopped 10
    unfolding later_parse onward
    part_marked m = part_at ∙ ap (λ (r : Parse). onward a r (parts_from s f F mark false n (link_of (f a)))) (cond_yes (is_free (f a) || is_head (f a)) _ _ m)

    module _ (m : (is_free (f a) || is_head (f a)) ≡ false) where
      pub part_next : is_continuation (f a) ≡ true → parts_from s f F mark after (suc n) a ≡ passed a (parts_from s f F mark false n (link_of (f a)))
      unfolding later_parse onward is_last
      part_next c =
          part_at ∙ ap (λ (r : Parse). onward a r (parts_from s f F mark false n (link_of (f a))))
          (cond_no (is_free (f a) || is_head (f a)) _ _ m ∙ cond_yes (is_continuation (f a)) _ _ c)

      unless_last : (k : ℕ) → is_continuation (f a) ≡ false → last_fault s mark after (f a) ≡ k
          → parts_from s f F mark after (suc n) a ≡ onward a (unless_refused k (part (Last 0) (size_of (f a)))) (parts_from s f F mark false n (link_of (f a)))
      unfolding later_parse
      unless_last k c l =
          part_at ∙ ap (λ (r : Parse). onward a r (parts_from s f F mark false n (link_of (f a))))
          (cond_no (is_free (f a) || is_head (f a)) _ _ m ∙ cond_no (is_continuation (f a)) _ _ c ∙ ap (λ (j : ℕ). unless_refused j (part (Last 0) (size_of (f a)))) l)

      pub part_refused : (k : ℕ) → is_continuation (f a) ≡ false → last_fault s mark after (f a) ≡ suc k → parts_from s f F mark after (suc n) a ≡ stopped (suc k)
      unfolding onward unless_refused
      part_refused k c l = unless_last (suc k) c l

      pub part_last : is_continuation (f a) ≡ false → last_fault s mark after (f a) ≡ 0 → parts_from s f F mark after (suc n) a ≡ whole (a ∷ [])
      unfolding onward unless_refused is_last
      part_last c l = unless_last 0 c l

-- ---- one turn in all

-- what one turn over the later parts comes to: a link or mark at fault, a last part that its judge refuses, a continuation, a last part
pub data Turn (s : Settings) (f : View) (F : ℕ) (mark after : Bool) (n a : ℕ) : Type 0 where
  broken : parts_from s f F mark after (suc n) a ≡ stopped 10 → Turn s f F mark after n a
  judged : (k : ℕ) → last_fault s mark after (f a) ≡ suc k → parts_from s f F mark after (suc n) a ≡ stopped (suc k) → Turn s f F mark after n a
  goes_on : 0 < a → a < F → is_continuation (f a) ≡ true → parts_from s f F mark after (suc n) a ≡ passed a (parts_from s f F mark false n (link_of (f a)))
      → Turn s f F mark after n a
  ends : 0 < a → a < F → last_fault s mark after (f a) ≡ 0 → parts_from s f F mark after (suc n) a ≡ whole (a ∷ []) → Turn s f F mark after n a

pub turn : (s : Settings) (f : View) (F : ℕ) (mark after : Bool) (n a : ℕ) → Turn s f F mark after n a
turn s f F mark after n a = start (dec_lt 0 a) (dec_lt a F)
  where
    last : (k : ℕ) → last_fault s mark after (f a) ≡ k → 0 < a → a < F → (is_free (f a) || is_head (f a)) ≡ false → is_continuation (f a) ≡ false → Turn s f F mark after n a
    last zero l p q m c = ends p q l (part_last s f F mark after n a p q m c l)
    last (suc k) l p q m c = judged k l (part_refused s f F mark after n a p q m k c l)

    look : 0 < a → a < F → Which (is_free (f a) || is_head (f a)) → Which (is_continuation (f a)) → Turn s f F mark after n a
    look p q (is_yes m) c = broken (part_marked s f F mark after n a p q m)
    look p q (is_no m) (is_yes c) = goes_on p q c (part_next s f F mark after n a p q m c)
    look p q (is_no m) (is_no c) = last (last_fault s mark after (f a)) refl p q m c

    start : Dec (0 < a) → Dec (a < F) → Turn s f F mark after n a
    start (no p) q = broken (part_unlinked s f F mark after n a (omega arith))
    start (yes p) (no q) = broken (part_above s f F mark after n a (omega arith))
    start (yes p) (yes q) = look p q (which (is_free (f a) || is_head (f a))) (which (is_continuation (f a)))

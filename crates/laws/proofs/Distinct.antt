-- On any table whose walks end, sound or not, the stores of one call name distinct slots (`effect_distinct`): a free list and a chain
-- that end meet no slot twice (`free_distinct`, `chain_distinct`), a chain meets no free slot (`chain_free_apart`), and what is taken
-- and what is left free share nothing (`taken_once`).
use mathlib.Core.Path.{◌≡◌, refl, sym, ap, ◌∙◌, subst}
use mathlib.Core.Logic.{◌≢◌}
use Prim.Native.Nat.{ℕ, suc, ◌+◌, ◌-◌, ◌≤◌, ◌<◌}
use native.Mathlib.Omega.{arith}
use native.Mathlib.Decide.{dec_lt}
use mathlib.Core.Bool.{Bool, true, false}
use mathlib.Core.List.{List, [], ◌∷◌}
use lib.ListN.{length}
use Rattle.definition.specs.declared.Settings.{Settings}
use Rattle.definition.specs.Settings.{largest_size}
use Rattle.definition.specs.Slots.{View, is_free, is_continuation, is_head, link_of, head_link, starts, mark_of}
use Rattle.definition.specs.Chains.{last_fault}
use Rattle.definition.specs.Effect.{new_slots, free_after, filled_after, effect}
use Rattle.definition.specs.Sound.{hit, occ}
use Rattle.laws.proofs.Conditions.{by_order, yes-no}
use Rattle.laws.proofs.Counting.{hit_same, hit_other, In, in_zero, in_above, occ_range_in, occ_range_below, occ_range_above}
use Rattle.laws.proofs.Stores.{slots_of, header_slots, occ_free_after, effect_owns, effect_slots}
use Rattle.laws.proofs.FreeLists.{FreeAt, free_marked}
use Rattle.laws.proofs.Marks.{small_no_mark, starts_multi, starts_not_free}
use Rattle.laws.proofs.Turns.{last_small}
use Rattle.laws.proofs.Chains.{RestAt, TailAt, ChainAt, head_starts, rest_not_head, rest_not_free}

-- a member is met first, or later in the list
first-or-later {ℓ} : {X : Type ℓ} (i x : ℕ) (l : List ℕ) → 0 < occ i (x ∷ l) → (i ≡ x → X) → (i ≢ x → 0 < occ i l → X) → X
unfolding occ
first-or-later i x l m here later =
    by_order x i
    (λ b. later (omega arith) (omega (arith, hit_other i x (omega arith))))
    here
    (λ b. later (omega arith) (omega (arith, hit_other i x (omega arith))))

-- a list whose head is not met again, and whose tail has each slot once, has each slot once
once_cons : (x : ℕ) (l : List ℕ) → (0 < occ x l → ⊥) → ((i : ℕ) → occ i l ≤ 1) → (i : ℕ) → occ i (x ∷ l) ≤ 1
unfolding occ
once_cons x l again once i =
    by_order x i
    (λ b. omega (arith, hit_other i x (omega arith), once i))
    (λ (e : i ≡ x). subst (λ (j : ℕ). occ j (x ∷ l) ≤ 1) (sym e) (by_order 0 (occ x l) (λ b. absurd (omega arith)) (λ z. omega (arith, hit_same x)) (λ b. absurd (again b))))
    (λ b. omega (arith, hit_other i x (omega arith), once i))

-- ---- the free list

-- from one slot the free list has one length
free_one_lem : (f : View) (F a : ℕ) (l m : List ℕ) → FreeAt f F a l → FreeAt f F a m → length l ≡ length m
free_one_lem f F a [] [] p q = refl
free_one_lem f F a [] (x ∷ m) p q = absurd (omega (arith, p, q.0, q.1))
free_one_lem f F a (x ∷ l) [] p q = absurd (omega (arith, q, p.0, p.1))
free_one_lem f F a (x ∷ l) (y ∷ m) p q =
    let e : x ≡ y = sym p.0 ∙ q.0 in
    ap suc (free_one_lem f F (link_of (f x)) l m p.4 (subst (λ (z : ℕ). FreeAt f F (link_of (f z)) m) (sym e) q.4))

-- a member starts a free list that is no longer
free_from_lem : (f : View) (F a i : ℕ) (l : List ℕ) → FreeAt f F a l → 0 < occ i l → (m : List ℕ) × FreeAt f F i m × (length m ≤ length l)
unfolding occ
free_from_lem f F a i [] r h = absurd (omega arith)
free_from_lem f F a i (x ∷ l) r h =
    first-or-later i x l h
    (λ e. (x ∷ l, (e, r.1, r.2, r.3, r.4), omega arith))
    (λ ne k. let z = free_from_lem f F (link_of (f x)) i l r.4 k in (z.0, z.1, omega (arith, z.2)))

pub free_distinct : (f : View) (F a : ℕ) (l : List ℕ) → FreeAt f F a l → (i : ℕ) → occ i l ≤ 1
unfolding occ
free_distinct f F a [] r = λ i. omega arith
free_distinct f F a (x ∷ l) r = once_cons x l again (free_distinct f F (link_of (f x)) l r.4)
  where
    again : 0 < occ x l → ⊥
    again b =
        let k = free_from_lem f F (link_of (f x)) x l r.4 b in
        omega (arith, k.2, free_one_lem f F x k.0 (x ∷ l) k.1 (refl, r.1, r.2, r.3, r.4))

-- ---- a chain

module _ (s : Settings) (f : View) (F : ℕ) (mark : Bool) (hi : s.size ≤ largest_size) where
  ends : (x : ℕ) (d : Bool) → last_fault s mark d (f x) ≡ 0 → is_continuation (f x) ≡ false
  ends x d e = (small_no_mark s.size (f x) hi (last_small s mark d (f x) e)).not_continuation

  -- from one slot the later parts have one length
  rest_one : (d k : Bool) (a : ℕ) (l m : List ℕ) → RestAt s f F mark d a l → RestAt s f F mark k a m → length l ≡ length m
  rest_one d k a [] m p q = absurd p
  rest_one d k a (x ∷ l) [] p q = absurd q
  rest_one d k a (x ∷ []) (y ∷ []) p q = refl
  rest_one d k a (x ∷ []) (y ∷ z ∷ m) p q =
      let e : y ≡ x = sym q.0 ∙ p.0 in
      yes-no (is_continuation (f x)) (subst (λ (w : ℕ). is_continuation (f w) ≡ true) e q.3) (ends x d p.3)
  rest_one d k a (x ∷ w ∷ l) (y ∷ []) p q =
      let e : x ≡ y = sym p.0 ∙ q.0 in
      yes-no (is_continuation (f y)) (subst (λ (w : ℕ). is_continuation (f w) ≡ true) e p.3) (ends y k q.3)
  rest_one d k a (x ∷ w ∷ l) (y ∷ z ∷ m) p q =
      let e : y ≡ x = sym q.0 ∙ p.0 in
      ap suc (rest_one false false (link_of (f x)) (w ∷ l) (z ∷ m) p.4 (subst (λ (v : ℕ). RestAt s f F mark false (link_of (f v)) (z ∷ m)) e q.4))

  -- a later part starts later parts that are no more
  rest_from : (d : Bool) (a i : ℕ) (l : List ℕ) → RestAt s f F mark d a l → 0 < occ i l → (k : Bool) × (m : List ℕ) × RestAt s f F mark k i m × (length m ≤ length l)
  unfolding occ
  rest_from d a i [] r h = absurd r
  rest_from d a i (x ∷ []) r h = first-or-later i x [] h (λ e. (d, x ∷ [], (e, r.1, r.2, r.3), omega arith)) (λ ne k. absurd (omega arith))
  rest_from d a i (x ∷ y ∷ l) r h =
      first-or-later i x (y ∷ l) h
      (λ e. (d, x ∷ y ∷ l, (e, r.1, r.2, r.3, r.4), omega arith))
      (λ ne k. let z = rest_from false (link_of (f x)) i (y ∷ l) r.4 k in (z.0, z.1, z.2, omega (arith, z.3)))

  pub rest_distinct : (d : Bool) (a : ℕ) (l : List ℕ) → RestAt s f F mark d a l → (i : ℕ) → occ i l ≤ 1
  unfolding occ
  rest_distinct d a [] r = absurd r
  rest_distinct d a (x ∷ []) r = once_cons x [] (λ b. omega arith) (λ i. omega arith)
  rest_distinct d a (x ∷ y ∷ l) r = once_cons x (y ∷ l) again (rest_distinct false (link_of (f x)) (y ∷ l) r.4)
    where
      again : 0 < occ x (y ∷ l) → ⊥
      again b =
          let k = rest_from false (link_of (f x)) x (y ∷ l) r.4 b in
          omega (arith, k.3, rest_one k.0 d x k.1 (x ∷ y ∷ l) k.2 (refl, r.1, r.2, r.3, r.4))

-- a chain's later parts are distinct, none is its head, and none is marked free
tail_facts : (m : Bool) (s : Settings) (f : View) (F h : ℕ) (l : List ℕ) → s.multipart ≡ m → s.size ≤ largest_size → starts s (f h) ≡ true → TailAt m s f F h l
    → ((i : ℕ) → occ i l ≤ 1) × ((i : ℕ) → 0 < occ i l → (i ≢ h) × (is_free (f i) ≡ false))
unfolding occ
tail_facts true s f F h l m hi st r = (
  rest_distinct s f F (mark_of s (f h)) hi true (head_link s (f h)) l r.0,
  λ i o. (
    (λ e. yes-no (is_head (f h)) (sym (starts_multi s (f h) m) ∙ st) (subst (λ (x : ℕ). is_head (f x) ≡ false) e (rest_not_head s f F (mark_of s (f h)) true _ l hi r.0 i o))),
    rest_not_free s f F (mark_of s (f h)) true _ l hi r.0 i o,
  ),
)
tail_facts false s f F h l m hi st r = ((λ i. omega (arith, ap (occ i) r)), λ i o. absurd (omega (arith, ap (occ i) r)))

pub chain_distinct : (s : Settings) (f : View) (F h : ℕ) (l : List ℕ) → s.size ≤ largest_size → ChainAt s f F h l → (i : ℕ) → occ i l ≤ 1
chain_distinct s f F h [] hi c = absurd c
chain_distinct s f F h (x ∷ l) hi c =
    let t = tail_facts s.multipart s f F h l refl hi (head_starts s (f h) c.3) c.4 in
    once_cons x l (λ b. (t.1 x b).0 c.0) t.0

pub chain_not_free : (s : Settings) (f : View) (F h : ℕ) (l : List ℕ) → s.size ≤ largest_size → ChainAt s f F h l → (i : ℕ) → 0 < occ i l → is_free (f i) ≡ false
chain_not_free s f F h [] hi c i o = absurd c
chain_not_free s f F h (x ∷ l) hi c i o =
    let st = head_starts s (f h) c.3 in
    first-or-later i x l o
    (λ e. rw (e ∙ c.0) (starts_not_free s (f h) st))
    (λ ne k. ((tail_facts s.multipart s f F h l refl hi st c.4).1 i k).1)

-- ---- a chain and the free list

-- no slot is twice in old and free taken together
abbrev pub Apart : List ℕ → List ℕ → Type 0
Apart old free = (i : ℕ) → occ i old + occ i free ≤ 1

pub chain_free_apart : (s : Settings) (f : View) (F h a : ℕ) (old free : List ℕ) → s.size ≤ largest_size → ChainAt s f F h old → FreeAt f F a free → Apart old free
chain_free_apart s f F h a old free hi c r i =
    by_order 0 (occ i old) (λ b. absurd (omega arith)) (λ z. omega (arith, free_distinct f F a free r i))
    (λ b. by_order 0 (occ i free) (λ y. absurd (omega arith)) (λ z. omega (arith, chain_distinct s f F h old hi c i))
    (λ y. yes-no (is_free (f i)) (free_marked f F a free r i y) (chain_not_free s f F h old hi c i b)))

-- with no chain, as for insert
pub free_apart : (f : View) (F a : ℕ) (free : List ℕ) → FreeAt f F a free → Apart [] free
unfolding occ
free_apart f F a free r i = omega (arith, free_distinct f F a free r i)

-- ---- the slots of the effect

module _ (old free : List ℕ) (F n : ℕ) (pos : 0 < F) (io : In F old) (fi : In F free) (once : Apart old free) where
  -- what is taken and what is left free share nothing
  pub taken_once : (i : ℕ) → occ i (free_after old free n) + occ i (new_slots old free F n) ≤ 1
  taken_once i =
      elim (dec_lt i F) [
        | yes q ↦ omega (arith, effect_owns old free F n i, once i, occ_range_below i F (n - length old - length free) q)
        | no q ↦ elim (dec_lt i (F + (n - length old - length free))) [
          | yes r ↦ omega (arith, effect_owns old free F n i, none i (omega arith), occ_range_in i F (n - length old - length free) (omega arith) r)
          | no r ↦ omega (arith, effect_owns old free F n i, none i (omega arith), occ_range_above i F (n - length old - length free) (omega arith))
        ]
      ]
    where
      none : (j : ℕ) → F ≤ j → occ j old + occ j free ≡ 0
      none j b = omega (arith, in_above F old io j b, in_above F free fi j b)

  taken_zero : occ 0 (free_after old free n) + occ 0 (new_slots old free F n) ≡ 0
  taken_zero = omega (arith, effect_owns old free F n 0, in_zero F old io, in_zero F free fi, occ_range_below 0 F (n - length old - length free) pos)

  taken_above : (i : ℕ) → F + (n - length old - length free) ≤ i → occ i (free_after old free n) + occ i (new_slots old free F n) ≡ 0
  taken_above i b =
      omega (
        arith,
        effect_owns old free F n i,
        in_above F old io i (omega arith),
        in_above F free fi i (omega arith),
        occ_range_above i F (n - length old - length free) b,
      )

  -- and lies from 1 up to FILLED afterwards
  pub taken_in : (i : ℕ) → 0 < occ i (free_after old free n) + occ i (new_slots old free F n) → (0 < i) × (i < filled_after old free F n)
  unfolding filled_after
  taken_in i h = (
    elim (dec_lt 0 i) [ yes p ↦ p | no p ↦ (let e : i ≡ 0 = omega arith in absurd (omega (arith, taken_zero, rw e at h))) ],
    elim (dec_lt i (F + (n - length old - length free))) [ yes p ↦ p | no p ↦ absurd (omega (arith, taken_above i (omega arith))) ],
  )

-- the stores name distinct slots
pub effect_distinct : (s : Settings) (mark : Bool) (total F : ℕ) (old free : List ℕ) (ps : List (List ℕ)) → 0 < F → In F old → In F free → Apart old free
    → (i : ℕ) → occ i (slots_of (effect s mark total ps old free F)) ≤ 1
effect_distinct s mark total F old free ps pos io fi once i =
    let n : ℕ = length ps in
    let split = effect_slots s mark total F old free ps i in
    let header = header_slots old free F n i in
    let left = occ_free_after old free F n i in
    by_order 0 i (λ b. absurd (omega arith))
    (λ (e : i ≡ 0). omega (arith, hit_zero e, rw (← e) at (taken_zero old free F n pos io fi once)))
    (λ (b : 0 < i). omega (arith, hit_other i 0 (omega arith), taken_once old free F n pos io fi once i))
  where
    hit_zero : i ≡ 0 → hit i 0 ≡ 1
    hit_zero e = rw e (hit_same 0)

-- The free list as a relation, `FreeAt`: from a slot the links lead over these members and end. The walk finds it (`walk_free`) and
-- finds nothing else (`free_walk`); stores to other slots leave it (`free_frame`), and freed slots come on top, one by one (`free_pile`).
use mathlib.Core.Path.{◌≡◌, refl, sym, ap, ◌∙◌, subst}
use mathlib.Core.Logic.{◌≢◌}
use Prim.Native.Nat.{ℕ, zero, suc, ◌^◌, ◌≤◌, ◌<◌}
use native.Mathlib.Omega.{arith}
use mathlib.Core.Bool.{true, ◌&&◌}
use mathlib.Core.List.{List, [], ◌∷◌, ◌++◌, head_d, reverse, reverse_aux, reverse_aux-eq}
use mathlib.Core.Option.{Option, none, some}
use lib.ListN.{length, drop}
use lib.Dec.{eqb, ltb}
use borrow.Author.Tests.{eq-eqb, ne_eqb, eqb-true, eqb-false, lt-ltb, ltb-true}
use Rattle.definition.specs.Numbers.{bytes, num, over, same_bytes}
use Rattle.definition.specs.Slots.{View, marked, is_free, link_of}
use Rattle.definition.specs.FreeList.{push, free_from}
use Rattle.definition.specs.Parts.{free_slot, free_stores}
use Rattle.definition.specs.Sound.{occ}
use Rattle.laws.proofs.Conditions.{cond_yes, cond_no, by_order, which, Which, is_yes, is_no, and_yes, and_split}
use Rattle.laws.proofs.Bytes.{le_bytes}
use Rattle.laws.proofs.Counting.{hit_other, mem_head, mem_tail, In, in_nil, in_cons, in_head, in_tail}
use Rattle.laws.proofs.Stores.{Stored}

-- from slot a the links lead over l and end: each member from 1 up to F and marked free
abbrev pub FreeAt : View → ℕ → ℕ → List ℕ → Type 0
FreeAt f F a [] = a ≡ 0
FreeAt f F a (x ∷ l) = (a ≡ x) × (0 < x) × (x < F) × (is_free (f x) ≡ true) × FreeAt f F (link_of (f x)) l

-- ---- the walk finds what the relation says

pub walk_free : (f : View) (F n a : ℕ) (l : List ℕ) → FreeAt f F a l → length l ≤ n → free_from f F n a ≡ some l
unfolding free_from push
walk_free f F zero a [] r h = cond_yes (eqb a 0) _ _ (eq-eqb a 0 r)
walk_free f F (suc n) a [] r h = cond_yes (eqb a 0) _ _ (eq-eqb a 0 r)
walk_free f F zero a (x ∷ l) r h = absurd (omega arith)
walk_free f F (suc n) a (x ∷ l) r h =
    rw r.0 (cond_no (eqb x 0) _ _ (ne_eqb x 0 (omega (arith, r.1)))
    ∙ cond_yes (ltb x F && is_free (f x)) _ _ (and_yes (ltb x F) (is_free (f x)) (lt-ltb x F r.2) r.3)
    ∙ ap (push x) (walk_free f F n (link_of (f x)) l r.4 (omega arith)))

-- ---- and only that

some_inj : (a b : List ℕ) → some a ≡ some b → a ≡ b
some_inj a b e = cc

none_some : {X : Type 0} (l : List ℕ) → none ≡ some l → X
none_some l e = absurd (let z : ◌≡◌ {A = ℕ} 0 1 = cc in omega arith)

push_some : (x : ℕ) (o : Option (List ℕ)) (l : List ℕ) → push x o ≡ some l → (m : List ℕ) × (o ≡ some m) × (l ≡ x ∷ m)
unfolding push
push_some x none l e = none_some l e
push_some x (some m) l e = (m, refl, sym (some_inj (x ∷ m) l e))

-- a free list from a that is at most n long
abbrev Listed : View → ℕ → ℕ → ℕ → List ℕ → Type 0
Listed f F n a l = FreeAt f F a l × (length l ≤ n)

pub free_walk : (f : View) (F n a : ℕ) (l : List ℕ) → free_from f F n a ≡ some l → FreeAt f F a l × (length l ≤ n)
unfolding free_from
free_walk f F zero a l e = go (which (eqb a 0))
  where
    go : Which (eqb a 0) → Listed f F zero a l
    go (is_yes y) = subst (Listed f F zero a) (some_inj [] l (sym (cond_yes (eqb a 0) (some []) none y) ∙ e)) (eqb-true a 0 y, omega arith)
    go (is_no y) = none_some l (sym (cond_no (eqb a 0) (some []) none y) ∙ e)
free_walk f F (suc n) a l e = start (which (eqb a 0)) (which (ltb a F && is_free (f a))) (free_walk f F n (link_of (f a)))
  where
    next : ((m : List ℕ) → free_from f F n (link_of (f a)) ≡ some m → Listed f F n (link_of (f a)) m) → a ≢ 0
        → push a (free_from f F n (link_of (f a))) ≡ some l → (a < F) → (is_free (f a) ≡ true) → Listed f F (suc n) a l
    next more z p q m =
        let r = push_some a (free_from f F n (link_of (f a))) l p in
        let k = more r.0 r.1 in
        subst (Listed f F (suc n) a) (sym r.2) ((refl, omega arith, q, m, k.0), omega arith)

    start : Which (eqb a 0) → Which (ltb a F && is_free (f a)) → ((m : List ℕ) → free_from f F n (link_of (f a)) ≡ some m → Listed f F n (link_of (f a)) m)
        → Listed f F (suc n) a l
    start (is_yes y) w more = subst (Listed f F (suc n) a) (some_inj [] l (sym (cond_yes (eqb a 0) (some []) _ y) ∙ e)) (eqb-true a 0 y, omega arith)
    start (is_no y) (is_yes q) more =
        let b = and_split (ltb a F) (is_free (f a)) q in
        next more (eqb-false a 0 y) (sym (cond_yes (ltb a F && is_free (f a)) _ none q) ∙ sym (cond_no (eqb a 0) (some []) _ y) ∙ e) (ltb-true a F b.0) b.1
    start (is_no y) (is_no q) more =
        none_some l (sym (cond_no (ltb a F && is_free (f a)) (push a (free_from f F n (link_of (f a)))) none q) ∙ sym (cond_no (eqb a 0) (some []) _ y) ∙ e)

-- ---- members

pub free_in_lem : (f : View) (F a : ℕ) (l : List ℕ) → FreeAt f F a l → In F l
free_in_lem f F a [] r = in_nil F
free_in_lem f F a (x ∷ l) r = in_cons F x l r.1 r.2 (free_in_lem f F (link_of (f x)) l r.4)

pub free_marked : (f : View) (F a : ℕ) (l : List ℕ) → FreeAt f F a l → (i : ℕ) → 0 < occ i l → is_free (f i) ≡ true
unfolding occ
free_marked f F a [] r i h = absurd (omega arith)
free_marked f F a (x ∷ l) r i h =
    by_order x i
    (λ (b : i < x). free_marked f F (link_of (f x)) l r.4 i (omega (arith, hit_other i x (omega arith))))
    (λ (e : i ≡ x). rw e r.3)
    (λ (b : x < i). free_marked f F (link_of (f x)) l r.4 i (omega (arith, hit_other i x (omega arith))))

-- the list starts with its first member, 0 if it has none, and that is below F
pub free_head : (f : View) (F a : ℕ) (l : List ℕ) → FreeAt f F a l → a ≡ head_d l 0
unfolding head_d
free_head f F a [] r = r
free_head f F a (x ∷ l) r = r.0

pub free_below : (f : View) (F a : ℕ) (l : List ℕ) → 0 < F → FreeAt f F a l → a < F
free_below f F a [] p r = omega (arith, r)
free_below f F a (x ∷ l) p r = omega (arith, r.0, r.2)

-- what is left after members are taken off the front
pub free_drop : (f : View) (F a n : ℕ) (l : List ℕ) → FreeAt f F a l → FreeAt f F (head_d (drop n l) 0) (drop n l)
unfolding head_d
free_drop f F a zero l r = subst (λ (k : ℕ). FreeAt f F k l) (free_head f F a l r) r
free_drop f F a (suc n) [] r = refl
free_drop f F a (suc n) (x ∷ l) r = free_drop f F (link_of (f x)) n l r.4

-- ---- stores

-- stores to other slots
pub free_frame : (f g : View) (F G a : ℕ) (l : List ℕ) → F ≤ G → ((i : ℕ) → 0 < occ i l → g i ≡ f i) → FreeAt f F a l → FreeAt g G a l
free_frame f g F G a [] h e r = r
free_frame f g F G a (x ∷ l) h e r =
    let k : g x ≡ f x = e x (mem_head x l) in
    (r.0, r.1, omega (arith, r.2), rw k r.3, rw k (free_frame f g F G (link_of (f x)) l h (λ i m. e i (mem_tail i x l m)) r.4))

-- a free slot's bytes read back
pub free_mark_lem : (n : ℕ) (old : List ℕ) → is_free (over (free_slot n) old) ≡ true
unfolding is_free marked same_bytes over free_slot bytes
free_mark_lem n old = refl

pub free_link : (n : ℕ) (old : List ℕ) → n < 256 ^ 8 → link_of (over (free_slot n) old) ≡ n
unfolding link_of num over free_slot bytes
free_link n old h = le_bytes 8 n h

freeing : (f g : View) (F a : ℕ) (xs l : List ℕ) → F ≤ 256 ^ 8 → In F xs → Stored g f (free_stores a xs) → FreeAt g F a l
    → FreeAt g F (head_d (reverse_aux xs l) 0) (reverse_aux xs l)
unfolding free_stores
freeing f g F a [] l b i st r = subst (λ (k : ℕ). FreeAt g F k l) (free_head g F a l r) r
freeing f g F a (x ∷ xs) l b i st r =
    let z = in_head F x xs i in
    let small : a < 256 ^ 8 = omega (arith, free_below g F a l (omega arith) r) in
    freeing f g F x xs (x ∷ l) b (in_tail F x xs i) st.1
    (refl, z.0, z.1, rw st.0 (free_mark_lem a (f x)), rw (st.0, free_link a (f x) small) r)

-- slots freed one after another come on top of the list
pub free_pile : (f g : View) (F a : ℕ) (xs l : List ℕ) → F ≤ 256 ^ 8 → In F xs → Stored g f (free_stores a xs) → FreeAt g F a l
    → FreeAt g F (head_d (reverse xs ++ l) 0) (reverse xs ++ l)
free_pile f g F a xs l b i st r = subst (λ (k : List ℕ). FreeAt g F (head_d k 0) k) (reverse_aux-eq xs l) (freeing f g F a xs l b i st r)

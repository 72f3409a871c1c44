-- Counting slots: how often a slot is in a list, added up over lists (`occ_append`, `occ_cut`) and over heads (`sum_to`), and the
-- pigeonhole (`pigeon`): distinct slots from 1 up to, not including, F are at most F - 1.
use mathlib.Core.Path.{◌≡◌, refl, sym, ap, ap₂, ◌∙◌}
use mathlib.Core.Logic.{◌≢◌}
use Prim.Native.Nat.{ℕ, zero, suc, ◌+◌, ◌-◌, ◌≤◌, ◌<◌}
use native.Mathlib.Nat.{add-zero, add-suc}
use native.Mathlib.Omega.{arith}
use mathlib.Core.List.{List, [], ◌∷◌, ◌++◌, map, reverse, reverse_aux, reverse_aux-eq}
use lib.ListN.{length, take, drop}
use lib.Dec.{eqb}
use borrow.Author.Tests.{eq-eqb, ne_eqb, eqb-true}
use Rattle.definition.specs.Numbers.{range}
use Rattle.definition.specs.Sound.{hit, occ, occ_all}
use Rattle.laws.proofs.Conditions.{cond_yes, cond_no, by_order, which, Which, is_yes, is_no}

-- ---- one slot in a list

pub hit_same : (i : ℕ) → hit i i ≡ 1
unfolding hit
hit_same i = cond_yes (eqb i i) 1 0 (eq-eqb i i refl)

pub hit_other : (i x : ℕ) → i ≢ x → hit i x ≡ 0
unfolding hit
hit_other i x n = cond_no (eqb i x) 1 0 (ne_eqb i x n)

pub hit_eq : (i x : ℕ) → 0 < hit i x → i ≡ x
unfolding hit
hit_eq i x h = go (which (eqb i x))
  where
    go : Which (eqb i x) → i ≡ x
    go (is_yes e) = eqb-true i x e
    go (is_no e) = let z : hit i x ≡ 0 = cond_no (eqb i x) 1 0 e in absurd (omega arith)

pub hit_none : (i x : ℕ) → hit i x ≡ 0 → i ≢ x
hit_none i x z e = let k : hit i x ≡ 1 = rw (← e) (hit_same i) in omega arith

pub occ_append : (i : ℕ) (l m : List ℕ) → occ i (l ++ m) ≡ occ i l + occ i m
unfolding occ
occ_append i [] m = omega arith
occ_append i (x ∷ l) m = rw (occ_append i l m) (omega arith)

pub occ_cut : (i n : ℕ) (l : List ℕ) → occ i (take n l) + occ i (drop n l) ≡ occ i l
unfolding occ
occ_cut i zero l = omega arith
occ_cut i (suc n) [] = refl
occ_cut i (suc n) (x ∷ l) = omega (arith, occ_cut i n l)

occ_reverse_aux : (i : ℕ) (l m : List ℕ) → occ i (reverse_aux l m) ≡ occ i l + occ i m
unfolding occ
occ_reverse_aux i [] m = omega arith
occ_reverse_aux i (x ∷ l) m = rw (occ_reverse_aux i l (x ∷ m)) (omega arith)

-- slots put on a list one by one
pub occ_reverse : (i : ℕ) (l m : List ℕ) → occ i (reverse l ++ m) ≡ occ i l + occ i m
occ_reverse i l m = ap (occ i) (sym (reverse_aux-eq l m)) ∙ occ_reverse_aux i l m

-- ---- members

-- a list holds its first member, and what its tail holds
pub mem_head : (x : ℕ) (l : List ℕ) → 0 < occ x (x ∷ l)
unfolding occ
mem_head x l = omega (arith, hit_same x)

pub mem_tail : (i x : ℕ) (l : List ℕ) → 0 < occ i l → 0 < occ i (x ∷ l)
unfolding occ
mem_tail i x l h = omega arith

-- the members of l lie from 1 up to, not including, F
abbrev pub In : ℕ → List ℕ → Type 0
In F l = (i : ℕ) → 0 < occ i l → (0 < i) × (i < F)

pub in_nil : (F : ℕ) → In F []
unfolding occ
in_nil F i h = absurd (omega arith)

pub in_cons : (F x : ℕ) (l : List ℕ) → 0 < x → x < F → In F l → In F (x ∷ l)
unfolding occ
in_cons F x l p q h i k =
    by_order x i
    (λ (b : i < x). h i (omega (arith, hit_other i x (omega arith))))
    (λ (e : i ≡ x). (omega arith, omega arith))
    (λ (b : x < i). h i (omega (arith, hit_other i x (omega arith))))

pub in_head : (F x : ℕ) (l : List ℕ) → In F (x ∷ l) → (0 < x) × (x < F)
in_head F x l h = h x (mem_head x l)

pub in_tail : (F x : ℕ) (l : List ℕ) → In F (x ∷ l) → In F l
in_tail F x l h i k = h i (mem_tail i x l k)

-- a count that is not above 0 is 0
pub zero_unless : (n : ℕ) → (0 < n → ⊥) → n ≡ 0
zero_unless n h = by_order 0 n (λ b. absurd (omega arith)) (λ e. e) (λ b. absurd (h b))

pub in_zero : (F : ℕ) (l : List ℕ) → In F l → occ 0 l ≡ 0
in_zero F l h = zero_unless (occ 0 l) (λ b. omega (arith, (h 0 b).0))

pub in_above : (F : ℕ) (l : List ℕ) → In F l → (i : ℕ) → F ≤ i → occ i l ≡ 0
in_above F l h i b = zero_unless (occ i l) (λ c. omega (arith, (h i c).1))

-- ---- slots from n up

pub occ_range_below : (i n k : ℕ) → i < n → occ i (range n k) ≡ 0
unfolding occ range
occ_range_below i n zero h = refl
occ_range_below i n (suc k) h = rw (hit_other i n (omega arith), occ_range_below i (suc n) k (omega arith)) refl

pub occ_range_above : (i n k : ℕ) → n + k ≤ i → occ i (range n k) ≡ 0
unfolding occ range
occ_range_above i n zero h = refl
occ_range_above i n (suc k) h = rw (hit_other i n (omega arith), occ_range_above i (suc n) k (omega arith)) refl

pub occ_range_in : (i n k : ℕ) → n ≤ i → i < n + k → occ i (range n k) ≡ 1
unfolding occ range
occ_range_in i n zero h k = absurd (omega arith)
occ_range_in i n (suc k) h b =
    by_order i n
    (λ (l : n < i). omega (arith, hit_other i n (omega arith), occ_range_in i (suc n) k l (omega arith)))
    (λ (e : n ≡ i). let z : hit i n ≡ 1 = rw e (hit_same i) in omega (arith, occ_range_below i (suc n) k (omega arith)))
    (λ (l : i < n). absurd (omega arith))

pub length_range : (n k : ℕ) → length (range n k) ≡ k
unfolding range
length_range n zero = refl
length_range n (suc k) = ap suc (length_range (suc n) k)

pub take_range : (n j k : ℕ) → j ≤ k → take j (range n k) ≡ range n j
unfolding range
take_range n zero k h = refl
take_range n (suc j) zero h = absurd (omega arith)
take_range n (suc j) (suc k) h = ap (λ (l : List ℕ). n ∷ l) (take_range (suc n) j k (omega arith))

-- ---- sums over heads

-- g 0 + .. + g (n - 1)
unfoldable pub sum_to : ℕ → (ℕ → ℕ) → ℕ
sum_to zero g = 0
sum_to (suc n) g = sum_to n g + g n

pub sum_cong : (n : ℕ) (g k : ℕ → ℕ) → ((h : ℕ) → h < n → g h ≡ k h) → sum_to n g ≡ sum_to n k
unfolding sum_to
sum_cong zero g k e = refl
sum_cong (suc n) g k e = ap₂ (λ (a b : ℕ). a + b) (sum_cong n g k (λ h l. e h (omega arith))) (e n (omega arith))

pub sum_zero : (n : ℕ) (g : ℕ → ℕ) → ((h : ℕ) → h < n → g h ≡ 0) → sum_to n g ≡ 0
unfolding sum_to
sum_zero zero g e = refl
sum_zero (suc n) g e = omega (arith, sum_zero n g (λ h l. e h (omega arith)), e n (omega arith))

pub sum_add : (n : ℕ) (g k : ℕ → ℕ) → sum_to n (λ h. g h + k h) ≡ sum_to n g + sum_to n k
unfolding sum_to
sum_add zero g k = refl
sum_add (suc n) g k = omega (arith, sum_add n g k)

-- a term is at most the sum, and so are two
pub sum_ge : (n : ℕ) (g : ℕ → ℕ) (h : ℕ) → h < n → g h ≤ sum_to n g
unfolding sum_to
sum_ge zero g h l = absurd (omega arith)
sum_ge (suc n) g h l =
    by_order n h
    (λ (b : h < n). omega (arith, sum_ge n g h b))
    (λ (e : h ≡ n). rw e (omega arith))
    (λ (b : n < h). absurd (omega arith))

pub sum_ge_two : (n : ℕ) (g : ℕ → ℕ) (a b : ℕ) → a < b → b < n → g a + g b ≤ sum_to n g
unfolding sum_to
sum_ge_two zero g a b l m = absurd (omega arith)
sum_ge_two (suc n) g a b l m =
    by_order n b
    (λ (k : b < n). omega (arith, sum_ge_two n g a b l k))
    (λ (e : b ≡ n). rw e (omega (arith, sum_ge n g a (omega arith))))
    (λ (k : n < b). absurd (omega arith))

-- one term changes
pub sum_set : (n : ℕ) (g k : ℕ → ℕ) (a : ℕ) → a < n → ((h : ℕ) → h ≢ a → k h ≡ g h) → sum_to n k + g a ≡ sum_to n g + k a
unfolding sum_to
sum_set zero g k a l e = absurd (omega arith)
sum_set (suc n) g k a l e =
    by_order n a
    (λ (b : a < n). omega (arith, sum_set n g k a b e, e n (omega arith)))
    (λ (q : a ≡ n). rw q (omega (arith, sum_cong n k g (λ h m. e h (omega arith)))))
    (λ (b : n < a). absurd (omega arith))

-- terms past m are 0
pub sum_more : (m d : ℕ) (g : ℕ → ℕ) → ((h : ℕ) → m ≤ h → g h ≡ 0) → sum_to (m + d) g ≡ sum_to m g
unfolding sum_to
sum_more m zero g e = ap (λ (k : ℕ). sum_to k g) (add-zero m)
sum_more m (suc d) g e = rw add-suc (omega (arith, sum_more m d g e, e (m + d) (omega arith)))

sum_le : (n : ℕ) (g : ℕ → ℕ) → ((h : ℕ) → g h ≤ 1) → g 0 ≡ 0 → sum_to n g ≤ n - 1
unfolding sum_to
sum_le zero g e z = omega arith
sum_le (suc zero) g e z = omega arith
sum_le (suc (suc n)) g e z = omega (arith, sum_le (suc n) g e z, e (suc n))

-- ---- the pigeonhole

sum_hit : (n x : ℕ) → x < n → sum_to n (λ i. hit i x) ≡ 1
sum_hit n x l =
    let z : sum_to n (λ i. 0) ≡ 0 = sum_zero n (λ i. 0) (λ i m. refl) in
    omega (arith, hit_same x, sum_set n (λ i. 0) (λ i. hit i x) x l (λ i m. hit_other i x m))

sum_occ : (F : ℕ) (l : List ℕ) → In F l → sum_to F (λ i. occ i l) ≡ length l
unfolding occ
sum_occ F [] h = sum_zero F (λ i. 0) (λ i m. refl)
sum_occ F (x ∷ l) h =
    omega (arith, sum_add F (λ i. hit i x) (λ i. occ i l), sum_hit F x (in_head F x l h).1, sum_occ F l (in_tail F x l h))

pub pigeon : (F : ℕ) (l : List ℕ) → In F l → ((i : ℕ) → occ i l ≤ 1) → length l ≤ F - 1
pigeon F l h d = omega (arith, sum_occ F l h, sum_le F (λ i. occ i l) d (in_zero F l h))

-- ---- the places of a list of heads

-- the sum over heads from 1 up is the count over the list of their places
pub occ_all_range : (i : ℕ) (g : ℕ → List ℕ) (n k : ℕ) → sum_to n (λ h. occ i (g h)) + occ_all i (map g (range n k)) ≡ sum_to (n + k) (λ h. occ i (g h))
unfolding occ_all range sum_to
occ_all_range i g n zero = rw (add-zero n) (omega arith)
occ_all_range i g n (suc k) =
    let e : suc n + k ≡ n + suc k = omega arith in
    let r = rw e at (occ_all_range i g (suc n) k) in
    omega arith

-- Numbers as bytes, over the width k: k bytes of a number below 256 ^ k spell it again (`le_bytes`), k bytes are the bytes of the
-- number that they spell (`bytes_le`), and two numbers side by side are one (`num_two_parts`).
use mathlib.Core.Path.{◌≡◌, refl, sym, ap, ◌∙◌}
use mathlib.Core.List.{List, [], ◌∷◌, ◌++◌}
use Prim.Native.Nat.{ℕ, zero, suc, ◌+◌, ◌*◌, ◌/◌, ◌%◌, ◌^◌, ◌≤◌, ◌<◌}
use native.Mathlib.Numerals.{add-one}
use native.Mathlib.Nat.{mul_assoc, pow-succ', pow-suc, add_comm, div-add-mod, div-div-eq-div-mul, div-lt_iff_lt-mul, zero-lt-suc, suc-add, zero-add, div-one, min-le_left}
use native.Mathlib.Decide.{dec_lt}
use native.Mathlib.Omega.{arith}
use lib.ListN.{length, take, drop, get_or, length-take, get_or-eq_default}
use lib.Seq.{drop-cons, drop-drop, take-add, get_or-take, get_or-drop}
use Rattle.definition.specs.Numbers.{le, bytes, num}
use Rattle.laws.proofs.Lists.{length_part}

pub length_bytes : (k n : ℕ) → length (bytes k n) ≡ k
unfolding bytes
length_bytes zero n = refl
length_bytes (suc k) n = ap suc (length_bytes k (n / 256))

-- what was written as k bytes is read back
pub le_bytes : (k n : ℕ) → n < 256 ^ k → le (bytes k n) ≡ n
unfolding bytes le
le_bytes zero n h = omega arith
le_bytes (suc k) n h =
    let q : n / 256 < 256 ^ k = (div-lt_iff_lt-mul (zero-lt-suc 255)).1 (rw pow-suc at h) in
    rw (le_bytes k (n / 256) q) (omega arith)

-- ---- reading

-- one byte of a number that stands in a list
pub num_step : (at k : ℕ) (t : List ℕ) → at < length t → num at (suc k) t ≡ get_or t at 0 + 256 * num (at + 1) k t
unfolding num le
num_step at k t h = rw (add-one, drop-cons t at 0)

le_append : (xs ys : List ℕ) → le (xs ++ ys) ≡ le xs + 256 ^ length xs * le ys
unfolding le
le_append [] ys = omega arith
le_append (x ∷ xs) ys = rw (le_append xs ys, pow-succ', mul_assoc) (omega arith)

-- two numbers side by side are one
pub num_two_parts : (a b at : ℕ) (t : List ℕ) → at + a ≤ length t → num at (a + b) t ≡ num at a t + 256 ^ a * num (at + a) b t
unfolding num
num_two_parts a b at t h = rw (take-add, le_append, length_part t at a h, drop-drop)

-- ---- storing

-- what stands above the k lowest bytes does not count
bytes_above : (k n m : ℕ) → bytes k (n + 256 ^ k * m) ≡ bytes k n
unfolding bytes
bytes_above zero n m = refl
bytes_above (suc k) n m =
    let e : (n + 256 * (256 ^ k * m)) % 256 ≡ n % 256 = omega arith in
    let d : (n + 256 * (256 ^ k * m)) / 256 ≡ n / 256 + 256 ^ k * m = omega arith in
    rw (pow-succ' 256 k, mul_assoc 256 (256 ^ k) m, e, d, bytes_above k (n / 256) m)

bytes_mod : (k n : ℕ) → bytes k (n % 256 ^ k) ≡ bytes k n
bytes_mod k n = sym (bytes_above k (n % 256 ^ k) (n / 256 ^ k)) ∙ ap (bytes k) (add_comm (n % 256 ^ k) (256 ^ k * (n / 256 ^ k)) ∙ div-add-mod n (256 ^ k))

bytes_append : (a b n : ℕ) → bytes a n ++ bytes b (n / 256 ^ a) ≡ bytes (a + b) n
unfolding bytes
bytes_append zero b n = rw (div-one, zero-add)
bytes_append (suc a) b n = rw (pow-succ', ← div-div-eq-div-mul, suc-add, bytes_append a b (n / 256))

-- the low half and the high half
pub bytes_halves : (k n : ℕ) → bytes k (n % 256 ^ k) ++ bytes k (n / 256 ^ k) ≡ bytes (k + k) n
bytes_halves k n = ap (λ (b : List ℕ). b ++ bytes k (n / 256 ^ k)) (bytes_mod k n) ∙ bytes_append k k n

-- ---- bytes and the number that they spell say the same

-- every element is a byte
abbrev pub AllBytes : List ℕ → Type 0
AllBytes l = (i : ℕ) → get_or l i 0 < 256

pub bytes_le : (l : List ℕ) → AllBytes l → bytes (length l) (le l) ≡ l
unfolding bytes le
bytes_le [] h = refl
bytes_le (x ∷ l) h =
    let b : x < 256 = h 0 in
    let m : (x + 256 * le l) % 256 ≡ x = omega arith in
    let d : (x + 256 * le l) / 256 ≡ le l = omega arith in
    rw (m, d, bytes_le l (λ (i : ℕ). h (suc i)))

all_take : (n : ℕ) (l : List ℕ) → AllBytes l → AllBytes (take n l)
all_take n l h i = go (dec_lt i n)
  where
    go : Dec (i < n) → get_or (take n l) i 0 < 256
    go (yes p) = rw (get_or-take n l i 0 p) (h i)
    go (no p) = rw (get_or-eq_default (take n l) 0 {n = i} (rw length-take (omega (arith, min-le_left n (length l))))) (omega arith)

pub all_drop : (at : ℕ) (l : List ℕ) → AllBytes l → AllBytes (drop at l)
all_drop at l h i = rw get_or-drop (h (at + i))

pub all_part : (at n : ℕ) (l : List ℕ) → AllBytes l → AllBytes (take n (drop at l))
all_part at n l h = all_take n (drop at l) (all_drop at l h)

-- the bytes of the number that a part spells are the part
pub bytes_num : (k at n : ℕ) (l : List ℕ) → AllBytes l → at + k ≤ length l → n ≡ num at k l → bytes k n ≡ take k (drop at l)
unfolding num
bytes_num k at n l h p e =
    let w : length (take k (drop at l)) ≡ k = length_part l at k p in
    ap (bytes k) e ∙ ap (λ (j : ℕ). bytes j (le (take k (drop at l)))) (sym w) ∙ bytes_le (take k (drop at l)) (all_part at k l h)

-- equal numbers of a width are equal parts
pub num_same : (k at to : ℕ) (l m : List ℕ) → AllBytes l → AllBytes m → at + k ≤ length l → to + k ≤ length m → num at k l ≡ num to k m
    → take k (drop at l) ≡ take k (drop to m)
num_same k at to l m hl hm p q e = sym (bytes_num k at (num at k l) l hl p refl) ∙ bytes_num k to (num at k l) m hm q e

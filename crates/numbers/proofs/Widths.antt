-- Over the width: the bytes of a part, each by its worth, sum up to the number that the part spells (`spelt`), and a number's bytes
-- in the place of a part are its store (`stored`).
use mathlib.Core.Path.{◌≡◌, refl, sym, ap, ◌∙◌}
use mathlib.Core.List.{List}
use Prim.Native.Nat.{ℕ, zero, suc, ◌+◌, ◌-◌, ◌*◌, ◌/◌, ◌%◌, ◌^◌, ◌≤◌, ◌<◌}
use native.Mathlib.Numerals.{add-one}
use native.Mathlib.Nat.{add-zero, zero-add, mul_comm, div-one, div-div-eq-div-mul, pow-suc}
use native.Mathlib.Omega.{arith}
use borrow.Rule.Slice.PartMut.{put_mid}
use lib.ListN.{length, take, drop, get_or}
use lib.Seq.{take-take}
use Rattle.std.specs.Int.{byte_at, byte_worth, bytes_low_first, sum_through}
use Rattle.definition.specs.Numbers.{bytes, le, num, put}
use Rattle.laws.proofs.Bytes.{length_bytes, num_step, num_two_parts}
use Rattle.laws.proofs.Lists.{length_part}
use Rattle.laws.proofs.Puts.{lent}

one_byte : (at : ℕ) (l : List ℕ) → at + 1 ≤ length l → num at 1 l ≡ get_or l at 0
unfolding num le
one_byte at l h = num_step at 0 l (omega arith) ∙ add-zero (get_or l at 0)

-- the first bytes of a list
summed : (k : ℕ) (l : List ℕ) → suc k ≤ length l → sum_through (λ i. byte_worth i (get_or l i 0)) k ≡ num 0 (suc k) l
summed zero l h = sym (one_byte 0 l h)
summed (suc k) l h =
    let e : num 0 (suc k + 1) l ≡ num 0 (suc k) l + 256 ^ suc k * num (0 + suc k) 1 l = num_two_parts (suc k) 1 0 l (omega arith) in
    let last : num (suc k) 1 l ≡ get_or l (suc k) 0 = one_byte (suc k) l (omega arith) in
    rw (summed k l (omega arith), mul_comm) (sym (rw (zero-add, last, add-one) at e))

part_num : (k at : ℕ) (t : List ℕ) → num 0 k (take k (drop at t)) ≡ num at k t
unfolding num
part_num k at t = ap le (take-take k k (drop at t) (omega arith))

pub spelt : (k at n : ℕ) (t : List ℕ) → 0 < k → at + k ≤ length t
    → n ≡ sum_through (λ i. byte_worth i (get_or (take (at + k - at) (drop at t)) i 0)) (k - 1) → n ≡ num at k t
spelt zero at n t p h e = absurd (omega arith)
spelt (suc k) at n t p h e =
    let w : at + suc k - at ≡ suc k = omega arith in
    let z : suc k - 1 ≡ k = omega arith in
    let whole : num 0 (suc k) (take (suc k) (drop at t)) ≡ num at (suc k) t = part_num (suc k) at t in
    rw (w, z) at e ∙ summed k (take (suc k) (drop at t)) (omega (arith, length_part t at (suc k) h)) ∙ whole

-- byte i of a number is the lowest of what is left above the i below it
low : (i n : ℕ) → byte_at i n ≡ n / 256 ^ i % 256
low zero n = rw div-one
low (suc i) n = refl

low_first : (i k n : ℕ) → bytes_low_first i k n ≡ bytes k (n / 256 ^ i)
unfolding bytes
low_first i zero n = refl
low_first i (suc k) n = rw (low, low_first (suc i) k n, div-div-eq-div-mul, pow-suc)

pub stored : (k : ℕ) (s : List ℕ) (at n : ℕ) (part : List ℕ) → part ≡ bytes_low_first 0 k n → put_mid at (at + k - at) s part ≡ put s at (bytes k n)
stored k s at n part e =
    let b : part ≡ bytes k n = rw (low_first, div-one) at e in
    let w : at + k - at ≡ k = omega arith in
    ap (put_mid at (at + k - at) s) b ∙ lent s at (at + k) (bytes k n) (length_bytes k n ∙ sym w)

-- `take` and `drop` across a seam, wherever it is; what the library has not.
use mathlib.Core.Path.{◌≡◌, refl, ap}
use mathlib.Core.List.{List, [], ◌∷◌, ◌++◌, append-nil}
use Prim.Native.Nat.{ℕ, zero, suc, ◌+◌, ◌-◌, ◌≤◌}
use native.Mathlib.Nat.{suc-sub-suc, sub-zero, zero-sub}
use native.Mathlib.Omega.{arith}
use lib.ListN.{length, take, drop, length-drop, drop_of_length-le}
use lib.Seq.{take-nil, drop-nil, length-take-le}

pub take_append : (n : ℕ) (xs ys : List ℕ) → take n (xs ++ ys) ≡ take n xs ++ take (n - length xs) ys
take_append n [] ys = rw sub-zero (rw take-nil refl)
take_append zero (x ∷ xs) ys = rw zero-sub refl
take_append (suc n) (x ∷ xs) ys = rw suc-sub-suc (ap (λ (r : List ℕ). x ∷ r) (take_append n xs ys))

pub drop_append : (n : ℕ) (xs ys : List ℕ) → drop n (xs ++ ys) ≡ drop n xs ++ drop (n - length xs) ys
drop_append n [] ys = rw sub-zero (rw drop-nil refl)
drop_append zero (x ∷ xs) ys = rw zero-sub refl
drop_append (suc n) (x ∷ xs) ys = rw suc-sub-suc (drop_append n xs ys)

pub drop_take : (m n : ℕ) (l : List ℕ) → drop m (take n l) ≡ take (n - m) (drop m l)
drop_take zero n l = rw sub-zero refl
drop_take (suc m) zero l = rw zero-sub refl
drop_take (suc m) (suc n) [] = rw take-nil refl
drop_take (suc m) (suc n) (x ∷ l) = rw suc-sub-suc (drop_take m n l)

-- a part that lies within a list has its length
pub length_part : (l : List ℕ) (at n : ℕ) → at + n ≤ length l → length (take n (drop at l)) ≡ n
length_part l at n h = length-take-le n (drop at l) (rw length-drop (omega arith))

-- nothing is left past the end
pub drop_past : (p old : List ℕ) (k : ℕ) → length old ≤ k → p ++ drop k old ≡ p
drop_past p old k h = rw (drop_of_length-le old h) (append-nil p)

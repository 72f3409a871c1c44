-- A condition decides: `cond b x y` is x where b holds and y where it does not. What a comparison says is in the library
-- (borrow.Author.Tests); here are the two ways, case splits that keep their equation, and `&&` and `||` taken apart.
-- The library has some of these by other names; the ledger's theorems cite them by ours.
use mathlib.Core.Path.{◌≡◌, refl}
use mathlib.Core.Bool.{Bool, true, false, cond, ◌&&◌, ◌||◌}
use Prim.Native.Nat.{ℕ, ◌<◌}
use native.Mathlib.Decide.{dec_lt}
use native.Mathlib.Omega.{arith}

pub cond_yes {ℓ} : {X : Type ℓ} (b : Bool) (x y : X) → b ≡ true → cond b x y ≡ x
cond_yes b x y e = rw e refl

pub cond_no {ℓ} : {X : Type ℓ} (b : Bool) (x y : X) → b ≡ false → cond b x y ≡ y
cond_no b x y e = rw e refl

-- a function of a choice is a choice
pub cond_of {ℓ} : {X Y : Type ℓ} (g : X → Y) (b : Bool) (x y : X) → g (cond b x y) ≡ cond b (g x) (g y)
cond_of g true x y = refl
cond_of g false x y = refl

-- which way a condition goes, with the equation
pub data Which (b : Bool) : Type 0 where
  is_yes : b ≡ true → Which b
  is_no : b ≡ false → Which b

pub which : (b : Bool) → Which b
which true = is_yes refl
which false = is_no refl

-- two slots: below, the same, above
pub by_order {ℓ} : {X : Type ℓ} (i j : ℕ) → (j < i → X) → (j ≡ i → X) → (i < j → X) → X
by_order i j below same above = elim (dec_lt j i) [ yes h ↦ below h | no h ↦ elim (dec_lt i j) [ yes k ↦ above k | no k ↦ same (omega arith) ] ]

-- true is not false
pub yes-no {ℓ} : {X : Type ℓ} (b : Bool) → b ≡ true → b ≡ false → X
yes-no b p q = absurd (let z : ◌≡◌ {A = ℕ} 0 1 = cc in omega arith)

pub or_no : (a b : Bool) → a ≡ false → b ≡ false → (a || b) ≡ false
or_no a b p q = rw (p, q) refl

pub or_left : (a b : Bool) → a ≡ true → (a || b) ≡ true
or_left a b p = rw p refl

pub or_right : (a b : Bool) → b ≡ true → (a || b) ≡ true
or_right true b p = refl
or_right false b p = p

pub no_or : (a b : Bool) → (a || b) ≡ false → (a ≡ false) × (b ≡ false)
no_or false b e = (refl, e)
no_or true b e = yes-no true refl e

pub and_yes : (a b : Bool) → a ≡ true → b ≡ true → (a && b) ≡ true
and_yes a b p q = rw (p, q) refl

pub and_left : (a b : Bool) → a ≡ false → (a && b) ≡ false
and_left a b p = rw p refl

pub and_right : (a b : Bool) → b ≡ false → (a && b) ≡ false
and_right true b p = p
and_right false b p = refl

pub and_split : (a b : Bool) → (a && b) ≡ true → (a ≡ true) × (b ≡ true)
and_split true b e = (refl, e)
and_split false b e = yes-no false e refl

pub or_skip : (a b : Bool) → a ≡ false → (a || b) ≡ b
or_skip a b p = rw p refl

pub and_skip : (a b : Bool) → a ≡ true → (a && b) ≡ b
and_skip a b p = rw p refl

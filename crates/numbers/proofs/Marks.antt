-- A slot's mark is the mark's pair of bytes: two slices compared are `same_bytes` (`pointwise_same`), and two bytes are a pair (`pair`).
use mathlib.Core.Path.{◌≡◌, refl, ap, ◌∙◌}
use mathlib.Core.Bool.{Bool, ◌&&◌}
use mathlib.Core.List.{List, [], ◌∷◌, ◌++◌}
use Prim.Native.Nat.{ℕ}
use native.Mathlib.Omega.{arith}
use lib.Dec.{eqb}
use lib.ListN.{length, take, drop, get_or}
use lib.Pointwise.{pointwise}
use Rattle.std.specs.Prelude.{nat_eq}
use Rattle.definition.specs.Numbers.{over, put, same_bytes}
use Rattle.definition.specs.Slots.{marked}

pointwise_same : (l m : List ℕ) → pointwise nat_eq l m ≡ same_bytes l m
unfolding same_bytes
pointwise_same [] [] = refl
pointwise_same [] (y ∷ m) = refl
pointwise_same (x ∷ l) [] = refl
pointwise_same (x ∷ l) (y ∷ m) = ap (λ (r : Bool). eqb x y && r) (pointwise_same l m)

pair : (l : List ℕ) → length l ≡ 2 → l ≡ get_or l 0 0 ∷ get_or l 1 0 ∷ []
pair [] e = absurd (omega arith)
pair (x ∷ []) e = absurd (omega arith)
pair (x ∷ y ∷ []) e = refl
pair (x ∷ y ∷ z ∷ l) e = absurd (omega arith)

pub marked_pair : (b mark : List ℕ) → length mark ≡ 2 → pointwise nat_eq (take 2 b) mark ≡ marked (get_or mark 0 0 ∷ get_or mark 1 0 ∷ []) b
unfolding marked
marked_pair b mark e = pointwise_same (take 2 b) mark ∙ ap (same_bytes (take 2 b)) (pair mark e)

pub put_pair : (slot mark part : List ℕ) → length mark ≡ 2 → part ≡ mark → part ++ drop 2 slot ≡ put slot 0 (get_or mark 0 0 ∷ get_or mark 1 0 ∷ [])
unfolding put over
put_pair slot mark part n e = ap (λ (l : List ℕ). l ++ drop 2 slot) (e ∙ pair mark n)

-- The header is the table's first 16 bytes, seen through slot 0.
use mathlib.Core.Path.{◌≡◌, refl, sym, ap, ◌∙◌}
use mathlib.Core.Bool.{cond}
use mathlib.Core.List.{List}
use Prim.Native.Nat.{ℕ, zero, suc, ◌+◌, ◌≤◌, max}
use native.Mathlib.Nat.{max-eq_left}
use native.Mathlib.Omega.{arith}
use lib.Dec.{eqb}
use lib.ListN.{length}
use borrow.Author.Tests.{ne_eqb}
use Rattle.definition.specs.Numbers.{bytes, num, put}
use Rattle.definition.specs.Settings.{least_size}
use Rattle.definition.specs.Slots.{view, last_removed, filled, header_of}
use Rattle.definition.specs.Effect.{header_store}
use Rattle.laws.proofs.Bytes.{length_bytes}
use Rattle.laws.proofs.Conditions.{cond_no}
use Rattle.laws.proofs.Puts.{put_next}
use Rattle.laws.proofs.Views.{view_num}

-- a number in the first 16 bytes is one in slot 0
front : (E : ℕ) (t : List ℕ) (at : ℕ) → least_size ≤ E → at + 8 ≤ 16 → num at 8 (view E t 0) ≡ num at 8 t
front E t at g h = view_num E 0 at 8 t (omega arith) ∙ ap (λ (k : ℕ). num k 8 t) (omega arith)

at_least_one : (n : ℕ) → max n 1 ≡ cond (eqb n 0) 1 n
at_least_one zero = refl
at_least_one (suc n) = max-eq_left (omega arith) ∙ sym (cond_no (eqb (suc n) 0) 1 (suc n) (ne_eqb (suc n) 0 (omega arith)))

pub header_is : (E : ℕ) (t : List ℕ) → least_size ≤ E → (a b c : ℕ) → a ≡ num 0 8 t → b ≡ num 8 8 t → c ≡ max b 1 → record { removed = a; filled = c } ≡ header_of (view E t)
unfolding last_removed filled
header_is E t g a b c ea eb ec =
    let p : a ≡ num 0 8 (view E t 0) = ea ∙ sym (front E t 0 g (omega arith)) in
    let q : b ≡ num 8 8 (view E t 0) = eb ∙ sym (front E t 8 g (omega arith)) in
    let r : c ≡ cond (eqb (num 8 8 (view E t 0)) 0) 1 (num 8 8 (view E t 0)) = ec ∙ at_least_one b ∙ ap (λ (n : ℕ). cond (eqb n 0) 1 n) q in
    λ i. record { removed = p i; filled = r i }

pub header_put : (t u v : List ℕ) (a b : ℕ) → 16 ≤ length t → u ≡ put t 0 (bytes 8 a) → v ≡ put u 8 (bytes 8 b) → v ≡ put t 0 (header_store a b).1
unfolding header_store
header_put t u v a b h eu ev =
    ev ∙ ap (λ (w : List ℕ). put w 8 (bytes 8 b)) eu ∙ put_next t 0 8 (bytes 8 a) (bytes 8 b) (omega (arith, length_bytes 8 a)) (omega (arith, length_bytes 8 b))

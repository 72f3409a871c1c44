-- A copy block by block: after each block the front of what is copied lies over the front of what is written (`Copied`), and at the end all of
-- it does.
use mathlib.Core.Path.{◌≡◌, sym, ap, ◌∙◌}
use mathlib.Core.List.{List, ◌++◌, append-nil}
use Prim.Native.Nat.{ℕ, ◌+◌, ◌-◌, ◌≤◌}
use native.Mathlib.Omega.{arith}
use borrow.Rule.Slice.PartMut.{put_mid}
use lib.ListN.{length, take, drop}
use lib.Seq.{take_all, take-add}
use Rattle.std.proofs.Common.{drop_of_length-le}
use Rattle.definition.specs.Numbers.{over, put}
use Rattle.laws.proofs.Lists.{length_part}
use Rattle.laws.proofs.Puts.{length_put, put_front, put_none, put_next, lent}

-- x is d with the first i bytes of s over its front
pub record Copied (s d x : List ℕ) (i : ℕ) : Type 0 where
  pub most : i ≤ length s
  pub same : length x ≡ length s
  pub is : x ≡ put d 0 (take i s)

pub copied_none : (s d : List ℕ) → length d ≡ length s → Copied s d d 0
copied_none s d w = record { most = omega arith; same = w; is = sym (put_none d 0) }

-- a turn: the next k bytes, in a part that was lent
pub copied_more : (s d x part : List ℕ) (i k : ℕ) → length d ≡ length s → i + k ≤ length s → Copied s d x i → part ≡ take (i + k - i) (drop i s)
    → Copied s d (put_mid i (i + k - i) x part) (i + k)
copied_more s d x part i k w h c e =
    let n : i + k - i ≡ k = omega arith in
    let front : length (take i s) ≡ i = length_part s 0 i (omega arith) in
    let bs : length (take k (drop i s)) ≡ k = length_part s i k h in
    let p : part ≡ take k (drop i s) = e ∙ ap (λ (j : ℕ). take j (drop i s)) n in
    let is : put_mid i (i + k - i) x part ≡ put d 0 (take (i + k) s) =
    lent x i (i + k) part (ap length p ∙ bs ∙ sym n)
    ∙ ap (put x i) p
    ∙ ap (λ (l : List ℕ). put l i (take k (drop i s))) c.is
    ∙ put_next d 0 i (take i s) (take k (drop i s)) (omega arith) (omega arith)
    ∙ ap (put d 0) (sym (take-add i k s)) in
    record { most = h; same = ap length is ∙ length_put d 0 (take (i + k) s) (omega (arith, length_part s 0 (i + k) (omega arith))) ∙ w; is = is }

-- at the end
pub copied_all : (s d x : List ℕ) (i : ℕ) → length d ≡ length s → length s ≤ i → Copied s d x i → x ≡ s
unfolding over
copied_all s d x i w h c =
    c.is ∙ ap (put d 0) (take_all i s h) ∙ put_front d s ∙ ap (λ (l : List ℕ). s ++ l) (drop_of_length-le d (omega (arith, w))) ∙ append-nil s

pub ruleset by_blocks = (copied_none, copied_more, copied_all)

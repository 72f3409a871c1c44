-- The parts that a body needs: a head, then one part and one more for each further E - 10 bytes (`parts_cut`).
use mathlib.Core.Path.{◌≡◌, sym, ap, ◌∙◌}
use mathlib.Core.Bool.{true, false, ◌&&◌, not}
use mathlib.Core.List.{List, ◌++◌}
use Prim.Native.Nat.{ℕ, zero, suc, ◌+◌, ◌-◌, ◌/◌, ◌≤◌, ◌<◌}
use native.Mathlib.Nat.{div-eq_of_lt, add-div_right}
use native.Mathlib.Decide.{dec_le}
use native.Mathlib.Omega.{arith}
use lib.Dec.{eqb, leb}
use lib.ListN.{length, drop, length-drop, length-append}
use borrow.Author.Tests.{leb-true, leb-false}
use Rattle.definition.specs.declared.Settings.{Settings}
use Rattle.definition.specs.Settings.{prefix_len, head_overhead}
use Rattle.definition.specs.Parts.{prefix, cut_rest, cut, pieces}
use Rattle.definition.specs.Calls.{key_test}
use Rattle.laws.proofs.Conditions.{Which, which, is_yes, is_no, cond_yes, cond_no}
use Rattle.laws.proofs.Tests.{refuse_no}
use Rattle.laws.proofs.Sizes.{length_prefix}

-- ---- how many parts

-- m bytes too many take as many further parts of d bytes as m asks for, the last of them begun
further : (m d : ℕ) → 0 < m → 0 < d → (m - d + (d - 1)) / d + 1 ≡ (m + (d - 1)) / d
further m d p q = go (dec_le d m)
  where
    back : (m + (d - 1)) / d ≡ (m - 1) / d + 1
    back = ap (λ (k : ℕ). k / d) (let e : m + (d - 1) ≡ m - 1 + d = omega arith in e) ∙ add-div_right (m - 1) q

    go : Dec (d ≤ m) → (m - d + (d - 1)) / d + 1 ≡ (m + (d - 1)) / d
    go (yes h) = ap (λ (k : ℕ). k / d + 1) (let e : m - d + (d - 1) ≡ m - 1 = omega arith in e) ∙ sym back
    go (no h) =
        let a : (m - d + (d - 1)) / d ≡ 0 = div-eq_of_lt (omega arith) in
        let b : (m - 1) / d ≡ 0 = div-eq_of_lt (omega arith) in
        omega (arith, back)

sub_swap : (l a b : ℕ) → l - a - b ≡ l - b - a
sub_swap l a b = omega arith

-- what is left of a body too long for a last part, less the nine bytes by which a linked part is the shorter
nine_less : (E r : ℕ) → 18 < E → E - 2 < r → r - 9 ≡ r - (E - 2) + (E - 10 - 1)
nine_less E r h g = omega arith

cut_count : (E n : ℕ) (b : List ℕ) → 10 < E → length b ≤ n → length (cut_rest E n b) ≡ (length b - (E - 2) + (E - 10 - 1)) / (E - 10) + 1
unfolding cut_rest
cut_count E zero b h l = let z : (length b - (E - 2) + (E - 10 - 1)) / (E - 10) ≡ 0 = div-eq_of_lt (omega arith) in omega arith
cut_count E (suc n) b h l = go (cut_count E n (drop (E - 10) b) h) (which (leb (length b) (E - 2)))
  where
    go : (length (drop (E - 10) b) ≤ n → length (cut_rest E n (drop (E - 10) b)) ≡ (length (drop (E - 10) b) - (E - 2) + (E - 10 - 1)) / (E - 10) + 1)
        → Which (leb (length b) (E - 2)) → length (cut_rest E (suc n) b) ≡ (length b - (E - 2) + (E - 10 - 1)) / (E - 10) + 1
    go more (is_yes y) =
        let s : length b ≤ E - 2 = leb-true (length b) (E - 2) y in
        let z : (length b - (E - 2) + (E - 10 - 1)) / (E - 10) ≡ 0 = div-eq_of_lt (omega arith) in
        ap length (cond_yes (leb (length b) (E - 2)) _ _ y) ∙ omega arith
    go more (is_no y) =
        let s : E - 2 < length b = leb-false (length b) (E - 2) y in
        let d : length (drop (E - 10) b) ≡ length b - (E - 10) = length-drop (E - 10) b in
        let i = more (omega arith) in
        let f = further (length b - (E - 2)) (E - 10) (omega arith) (omega arith) in
        let e : length (drop (E - 10) b) - (E - 2) + (E - 10 - 1) ≡ length b - (E - 2) - (E - 10) + (E - 10 - 1) =
        ap (λ (k : ℕ). k - (E - 2) + (E - 10 - 1)) d ∙ ap (λ (k : ℕ). k + (E - 10 - 1)) (sub_swap (length b) (E - 10) (E - 2)) in
        let j : length (cut_rest E n (drop (E - 10) b)) ≡ (length b - (E - 2) - (E - 10) + (E - 10 - 1)) / (E - 10) + 1 = i ∙ ap (λ (k : ℕ). k / (E - 10) + 1) e in
        ap length (cond_no (leb (length b) (E - 2)) _ _ y) ∙ ap suc (j ∙ f) ∙ omega arith

module _ (s : Settings) (body : List ℕ) (n : ℕ) (long : length body ≡ n) where
  -- one on a fixed table
  pub parts_fixed : s.multipart ≡ false → 1 ≡ length (pieces s body)
  unfolding pieces
  parts_fixed m = sym (ap length (cond_no s.multipart _ _ m))

  module _ (m : s.multipart ≡ true) (h : 18 < s.size) (o : ℕ) (e : o ≡ head_overhead s) (long' : o ≤ s.size) where
    rest : ℕ
    rest = n - (s.size - o)

    parts : length (pieces s body) ≡ (rest - (s.size - 2) + (s.size - 10 - 1)) / (s.size - 10) + 2
    unfolding pieces cut rest
    parts =
        let d : length (drop (s.size - head_overhead s) body) ≡ rest = length-drop (s.size - head_overhead s) body ∙ ap (λ (k : ℕ). k - (s.size - head_overhead s)) long ∙ ap (λ (k : ℕ). n - (s.size - k)) (sym e) in
        let c = cut_count s.size (length body) (drop (s.size - head_overhead s) body) (omega arith) (omega arith) in
        ap length (cond_yes s.multipart _ _ m) ∙ ap suc (c ∙ ap (λ (k : ℕ). (k - (s.size - 2) + (s.size - 10 - 1)) / (s.size - 10) + 1) d) ∙ omega arith

    -- a head and a last part where the rest fits the latter, else continuations too
    pub parts_cut : 9 ≤ n - (s.size - o) → (n - (s.size - o) - 9) / (s.size - 10) + 2 ≡ length (pieces s body)
    unfolding rest
    parts_cut q = go (dec_le (n - (s.size - o)) (s.size - 2))
      where
        go : Dec (n - (s.size - o) ≤ s.size - 2) → (n - (s.size - o) - 9) / (s.size - 10) + 2 ≡ length (pieces s body)
        go (yes f) =
            let a : (n - (s.size - o) - 9) / (s.size - 10) ≡ 0 = div-eq_of_lt (omega arith) in
            let z : (rest - (s.size - 2) + (s.size - 10 - 1)) / (s.size - 10) ≡ 0 = div-eq_of_lt (omega arith) in
            omega (arith, parts)
        go (no f) = ap (λ (k : ℕ). k / (s.size - 10) + 2) (nine_less s.size (n - (s.size - o)) h (omega arith)) ∙ sym parts

-- ---- the body

-- prefix and content of a key that passed
pub body_length : (s : Settings) (key content : List ℕ) (k : (s.keyed && not (eqb (length key) 32)) ≡ false) → length (prefix s key ++ content) ≡ prefix_len s + length content
unfolding key_test
body_length s key content k = length-append (prefix s key) content ∙ ap (λ (n : ℕ). n + length content) (length_prefix s key (refuse_no 4 _ k))

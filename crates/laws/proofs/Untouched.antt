-- A byte that lies in no store's place stays (`store_keeps`).
use mathlib.Core.Path.{◌≡◌, refl, sym, ap, ◌∙◌}
use Prim.Native.Nat.{ℕ, ◌+◌, ◌-◌, ◌*◌, ◌≤◌, ◌<◌}
use native.Mathlib.Omega.{arith}
use native.Mathlib.Decide.{dec_le}
use mathlib.Core.List.{List, [], ◌∷◌, ◌++◌}
use lib.ListN.{length, take, drop, get_or, length-append}
use lib.Seq.{take_at, drop_at, length-take-le, get_or-take, get_or-drop}
use Rattle.definition.specs.Numbers.{over, put}
use Rattle.definition.specs.Slots.{Store, store}
use Rattle.laws.proofs.Puts.{length_put, put_is}
use Rattle.laws.proofs.Views.{Fits}

-- place p lies before each of these stores, or past its end
abbrev pub Untouched : ℕ → List Store → ℕ → Type 0
Untouched E [] p = Unit {0}
Untouched E (w ∷ ws) p = (w.0 * E ≤ p → w.0 * E + length w.1 ≤ p) × Untouched E ws p

put_before : (t : List ℕ) (at : ℕ) (bs : List ℕ) (p : ℕ) → p < at → at ≤ length t → get_or (put t at bs) p 0 ≡ get_or t p 0
unfolding put
put_before t at bs p h l =
    sym (get_or-take at (put t at bs) p 0 h) ∙ ap (λ (x : List ℕ). get_or x p 0) (take_at (take at t) (over bs (drop at t)) at (length-take-le at t l)) ∙ get_or-take at t p 0 h

put_past : (t : List ℕ) (at : ℕ) (bs : List ℕ) (p : ℕ) → at + length bs ≤ p → at + length bs ≤ length t → get_or (put t at bs) p 0 ≡ get_or t p 0
put_past t at bs p h l =
    let k : ℕ = at + length bs in
    let q : k + (p - k) ≡ p = omega arith in
    let e : length (take at t ++ bs) ≡ k = length-append (take at t) bs ∙ ap (λ (n : ℕ). n + length bs) (length-take-le at t (omega arith)) in
    let d : drop k (put t at bs) ≡ drop k t = ap (drop k) (put_is t at bs) ∙ drop_at (take at t ++ bs) (drop k t) k e in
    ap (λ (n : ℕ). get_or (put t at bs) n 0) (sym q) ∙ sym (get_or-drop k (put t at bs) (p - k) 0) ∙ ap (λ (x : List ℕ). get_or x (p - k) 0) d
    ∙ get_or-drop k t (p - k) 0 ∙ ap (λ (n : ℕ). get_or t n 0) q

pub store_keeps : (E : ℕ) (t : List ℕ) (ws : List Store) → Fits E (length t) ws → (p : ℕ) → Untouched E ws p → get_or (store E t ws) p 0 ≡ get_or t p 0
unfolding store
store_keeps E t [] h p u = refl
store_keeps E t (w ∷ ws) h p u =
    let l : length (put t (w.0 * E) w.1) ≡ length t = length_put t (w.0 * E) w.1 (omega (arith, h.0, h.1)) in
    store_keeps E (put t (w.0 * E) w.1) ws (rw l h.2) p u.1 ∙ go (dec_le (w.0 * E) p)
  where
    go : Dec (w.0 * E ≤ p) → get_or (put t (w.0 * E) w.1) p 0 ≡ get_or t p 0
    go (yes q) = put_past t (w.0 * E) w.1 p (u.0 q) (omega (arith, h.0, h.1))
    go (no q) = put_before t (w.0 * E) w.1 p (omega arith) (omega (arith, h.1))

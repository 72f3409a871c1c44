-- Where chains start, on any table: from 1 up to FILLED where the slot says so (`starts_at_in`, `chain_at_in`), none at 0 nor from FILLED up.
use mathlib.Core.Path.{◌≡◌, refl}
use mathlib.Core.Logic.{◌≢◌}
use Prim.Native.Nat.{ℕ, ◌≤◌, ◌<◌}
use native.Mathlib.Omega.{arith}
use mathlib.Core.Bool.{false, cond}
use mathlib.Core.List.{[]}
use lib.Dec.{eqb, ltb}
use borrow.Author.Tests.{lt-ltb, le-ltb, eqb-false}
use Rattle.definition.specs.declared.Settings.{Settings}
use Rattle.definition.specs.Numbers.{num}
use Rattle.definition.specs.Settings.{link_bytes}
use Rattle.definition.specs.Slots.{View, filled, starts}
use Rattle.definition.specs.Chains.{walk}
use Rattle.definition.specs.Sound.{starts_at, chain_at}
use Rattle.laws.proofs.Conditions.{cond_yes, cond_no, which, Which, is_yes, is_no, and_left, and_right}

-- FILLED is never 0
pub filled_pos : (f : View) → 0 < filled f
unfolding filled
filled_pos f = go (which (eqb (num link_bytes link_bytes (f 0)) 0))
  where
    go : Which (eqb (num link_bytes link_bytes (f 0)) 0) → 0 < cond (eqb (num link_bytes link_bytes (f 0)) 0) 1 (num link_bytes link_bytes (f 0))
    go (is_yes e) = rw (cond_yes {X = ℕ} (eqb (num link_bytes link_bytes (f 0)) 0) 1 _ e) (omega arith)
    go (is_no e) =
        let n : num link_bytes link_bytes (f 0) ≢ 0 = eqb-false (num link_bytes link_bytes (f 0)) 0 e in
        rw (cond_no {X = ℕ} (eqb (num link_bytes link_bytes (f 0)) 0) 1 _ e) (omega arith)

module _ (s : Settings) (f : View) where
  -- from 1 up to FILLED a chain starts where the slot says so
  pub starts_at_in : (h : ℕ) → 0 < h → h < filled f → starts_at s f h ≡ starts s (f h)
  unfolding starts_at
  starts_at_in h p q = rw (lt-ltb 0 h p, lt-ltb h (filled f) q) refl

  -- none starts at 0, nor from FILLED up
  pub starts_at_zero : starts_at s f 0 ≡ false
  unfolding starts_at
  starts_at_zero = refl

  pub starts_at_above : (h : ℕ) → filled f ≤ h → starts_at s f h ≡ false
  unfolding starts_at
  starts_at_above h b = and_right (ltb 0 h) _ (and_left (ltb h (filled f)) _ (le-ltb h (filled f) b))

  pub chain_at_zero : chain_at s f 0 ≡ []
  unfolding chain_at starts_at
  chain_at_zero = refl

  pub chain_at_above : (h : ℕ) → filled f ≤ h → chain_at s f h ≡ []
  unfolding chain_at
  chain_at_above h b = cond_no (starts_at s f h) _ _ (starts_at_above h b)

  pub chain_at_in : (h : ℕ) → 0 < h → h < filled f → chain_at s f h ≡ cond (starts s (f h)) (walk s f (filled f) h).slots []
  unfolding chain_at
  chain_at_in h p q = rw (starts_at_in h p q) refl

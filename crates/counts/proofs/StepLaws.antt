-- A count after a signed step, as the definition has it: each way out of `after_step`, from the step's sign and its magnitude.
use Rattle.std.specs.Prelude.{Some, None}
use mathlib.Core.Path.{◌≡◌, refl}
use mathlib.Core.Bool.{true, false}
use Prim.Native.Nat.{ℕ, zero, suc, ◌+◌, ◌-◌, ◌≤◌, ◌<◌, min}
use native.Mathlib.Omega.{arith}
use lib.IntN.{ℤ, pos, negsuc, nat_abs}
use lib.Signed.{lt_z}
use mir.ValLaws.{to_z-of_z}
use borrow.Author.Tests.{ltb-true, ltb-false, le-leb, lt-leb}
use Rattle.definition.specs.Calls.{locked, lowered, new_count}
use Rattle.counts.specs.Counts.{stepped_to}

taken_off : (c : ℕ) (z : ℤ) → lt_z (pos 0) z ≡ false → new_count c z ≡ lowered c (nat_abs z)
unfolding new_count
taken_off c (pos zero) h = refl
taken_off c (pos (suc n)) h = absurd (let q : suc n ≤ 0 = ltb-false 0 (suc n) h in omega arith)
taken_off c (negsuc n) h = refl

pub raised : (c : ℕ) (z : ℤ) → lt_z (pos 0) z ≡ true → stepped_to (new_count c z) ≡ Some (min (c + nat_abs z) locked)
unfolding new_count
raised c (pos zero) h = absurd (let q : 0 < 0 = ltb-true 0 0 h in omega arith)
raised c (pos (suc n)) h = let q : min locked (c + suc n) ≡ min (c + suc n) locked = omega arith in rw q
raised c (negsuc n) h = absurd (let q : ◌≡◌ {A = ℕ} 0 1 = cc in omega arith)

module _ (c : ℕ) (z : ℤ) (h : lt_z (pos 0) z ≡ false) where
  -- a locked count stays
  pub stays : c ≡ locked → stepped_to (new_count c z) ≡ Some locked
  unfolding lowered
  stays e = rw (taken_off c z h, le-leb locked c (omega arith))

  -- none is left
  pub lasts : c < locked → c ≤ nat_abs z → stepped_to (new_count c z) ≡ None
  unfolding lowered
  lasts b g = rw (taken_off c z h, lt-leb locked c b, le-leb c (nat_abs z) g)

  pub takes : c < locked → nat_abs z < c → stepped_to (new_count c z) ≡ Some (c - nat_abs z)
  unfolding lowered
  takes b g = rw (taken_off c z h, lt-leb locked c b, lt-leb c (nat_abs z) g)

pub ruleset steps = (raised, stays, lasts, takes, to_z-of_z)

-- What the checks share: a refusal that is passed on, and the key of a read.
use mathlib.Core.Path.{◌≡◌, refl, ap, ◌∙◌}
use mathlib.Core.List.{List, ◌++◌}
use mathlib.Core.Option.{none}
use Prim.Native.Nat.{ℕ}
use Rattle.std.specs.Prelude.{Err, Result, IsErrAnd}
use Rattle.std.proofs.lemmas.Result.{err_from_is_err_and}
use Rattle.definition.specs.declared.Settings.{Settings}
use Rattle.definition.specs.declared.Refusal.{Refusal}
use Rattle.definition.specs.Tests.{number_of, first}
use Rattle.definition.specs.Calls.{checked_key_test}
use Rattle.laws.proofs.Tests.{number_some, first_refuse_all}

-- what `?` hands back is the refusal that it met
pub passed_on : {T : Type 0} (r : Result T Refusal) (e : Refusal) → IsErrAnd r (λ x. x ≡ e) → r ≡ Err e
passed_on r e q = let p = err_from_is_err_and r q in p.1 ∙ ap Err p.2

-- the first tests refuse, so those after them don't count
pub first_refusal : (r : Refusal) (ns ms : List ℕ) → first ns ≡ number_of r → first (ns ++ ms) ≡ number_of r
first_refusal r ns ms e = first_refuse_all (number_of r) ns ms e (number_some r)

-- no key is asked for
pub key_unasked : (s : Settings) → checked_key_test s none ≡ 0
unfolding checked_key_test
key_unasked s = refl

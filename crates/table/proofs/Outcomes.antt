-- What a call leaves: where a test refuses, its number and what was there; where all pass, what it does.
use mathlib.Core.Path.{◌≡◌, refl, ◌∙◌}
use Prim.Native.Nat.{ℕ, zero, suc, ◌<◌}
use native.Mathlib.Omega.{arith}
use Rattle.definition.specs.Answers.{Answer, refusal}
use Rattle.definition.specs.Calls.{unless, answer_unless}

pub refuses : {X : Type 0} (n m : ℕ) (old : X) (out : Answer × X) → m ≡ n → 0 < n → (refusal n, old) ≡ unless m old out
unfolding unless
refuses zero m old out e h = absurd (omega arith)
refuses (suc n) m old out e h = rw e refl

pub accepts : {X : Type 0} (m : ℕ) (old : X) (out : Answer × X) → m ≡ 0 → out ≡ unless m old out
unfolding unless
accepts m old out e = rw e refl

-- what was done is what the call does where all pass
pub accepts_to : {X : Type 0} {done out : Answer × X} (m : ℕ) (old : X) → done ≡ out → m ≡ 0 → done ≡ unless m old out
accepts_to m old d e = d ∙ accepts m old _ e

pub answer_refuses : (n m : ℕ) (a : Answer) → m ≡ n → 0 < n → refusal n ≡ answer_unless m a
unfolding answer_unless
answer_refuses zero m a e h = absurd (omega arith)
answer_refuses (suc n) m a e h = rw e refl

pub answer_accepts : (m : ℕ) (a : Answer) → m ≡ 0 → a ≡ answer_unless m a
unfolding answer_unless
answer_accepts m a e = rw e refl

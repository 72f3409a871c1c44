-- Demand 3, any sequence: from a sound table any list of calls gives a sound table, whose ledger is the one that the ledger's steps give,
-- and each call in turn answers as the ledger does, with the same output (`sequence_agrees`). All calls are made under one set of settings,
-- and the table is shorter than 2 ^ 64 bytes.
use mathlib.Core.Path.{◌≡◌, refl, ap₂, ◌∙◌}
use Prim.Native.Nat.{ℕ, ◌^◌, ◌<◌}
use mathlib.Core.List.{List, [], ◌∷◌}
use lib.ListN.{length}
use Rattle.definition.specs.declared.Settings.{Settings}
use Rattle.definition.specs.Settings.{link_bytes}
use Rattle.definition.specs.Answers.{Answer}
use Rattle.definition.specs.Calls.{capacity}
use Rattle.definition.specs.Sound.{Sound}
use Rattle.definition.specs.Ledger.{Ledger, Call, Outcome, ledger_step}
use Rattle.definition.specs.Run.{ledger_of, run}
use Rattle.laws.proofs.Sizes.{capacity_same}
use Rattle.ledger.proofs.OneCall.{call_agrees}

-- what a list of calls leaves: each call's answer and output, in order, and the table or ledger at the end
pub record Outcomes (X : Type 0) : Type 0 where
  pub told : List (Answer × List ℕ)
  pub after : X

-- any calls by their steps, one after another
unfoldable pub in_turn : {X : Type 0} → (Call → X → Outcome X) → List Call → X → Outcomes X
in_turn step [] x = record { told = []; after = x }
in_turn step (c ∷ cs) x =
    let o = step c x in
    let rest = in_turn step cs o.after in
    record { told = (o.answer, o.output) ∷ rest.told; after = rest.after }

-- on a table, and on a ledger; cap is the table's capacity
abbrev pub run_all : Settings → List Call → List ℕ → Outcomes (List ℕ)
run_all s = in_turn (run s)

abbrev pub ledger_all : Settings → ℕ → List Call → Ledger → Outcomes Ledger
ledger_all s cap = in_turn (ledger_step s cap)

-- a list of calls on the table t and on its ledger
pub record AllAgree (s : Settings) (t : List ℕ) (o : Outcomes (List ℕ)) (l : Outcomes Ledger) : Type 0 where
  pub sound : Sound s o.after
  pub long : length o.after ≡ length t
  pub tells : o.told ≡ l.told
  pub ledgers : ledger_of s o.after ≡ l.after

pub sequence_agrees : (s : Settings) (cs : List Call) (t : List ℕ) → Sound s t → length t < 256 ^ link_bytes
    → AllAgree s t (run_all s cs t) (ledger_all s (capacity s t) cs (ledger_of s t))
unfolding in_turn
sequence_agrees s [] t k bound = record { sound = k; long = refl; tells = refl; ledgers = refl }
sequence_agrees s (c ∷ cs) t k bound =
    let a = call_agrees s c t k bound in
    let u : List ℕ = (run s c t).after in
    let r : AllAgree s u (run_all s cs u) (ledger_all s (capacity s u) cs (ledger_of s u)) = sequence_agrees s cs u a.sound (rw a.long bound) in
    let e : capacity s u ≡ capacity s t = capacity_same s t u a.long in
    let q : AllAgree s u (run_all s cs u) (ledger_all s (capacity s t) cs (ledger_step s (capacity s t) c (ledger_of s t)).after) = rw (e, a.ledgers) at r in
    record {
      sound = q.sound;
      long = q.long ∙ a.long;
      tells = ap₂ (λ (x : Answer × List ℕ) (xs : List (Answer × List ℕ)). x ∷ xs) (ap₂ (λ (x : Answer) (y : List ℕ). (x, y)) a.answers a.outputs) q.tells;
      ledgers = q.ledgers;
    }

-- Tight, of the C functions: of any two calls of one with the same arguments and settings, on tables of the same bytes, what comes back, the
-- table and the output coincide (`station_tight`). One statement over all seven.
use mathlib.Core.Path.{◌≡◌, sym, ap₂, ◌∙◌}
use mathlib.Core.List.{List}
use Prim.Native.Nat.{ℕ}
use Rattle.definition.specs.Ledger.{Call, Outcome}
use Rattle.definition.specs.Run.{run}
use Rattle.station.specs.declared.answers.PyltarkaSettings.{PyltarkaSettings}
use Rattle.station.specs.Forms.{settings_of}
use Rattle.promises.proofs.Exported.{Exported, call_of, start_of, returned_of, outcome_of, form_of, exported_is, in_form}

pub station_tight : {s : PyltarkaSettings} (p q : Exported s) → call_of p ≡ call_of q → start_of p ≡ start_of q → (returned_of p ≡ returned_of q) × (outcome_of p ≡ outcome_of q)
station_tight {s} p q c t =
    let e : outcome_of p ≡ outcome_of q = exported_is p ∙ ap₂ (run (settings_of s)) c t ∙ sym (exported_is q) in
    (in_form p ∙ ap₂ (λ (d : Call) (o : Outcome (List ℕ)). form_of (settings_of s) d o.answer) c e ∙ sym (in_form q), e)

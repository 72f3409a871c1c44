-- Demand 3, said of the code: from a sound table, whatever calls the code performs one after another, refused ones among them, the table
-- stays sound and as long, the code's answers and outputs are, one by one, those of the plain ledger, and the table's ledger is the one
-- that the ledger's steps give. Of the table's calls: `code_agrees`. Of the C functions: `station_agrees`, and there what came back is, one by
-- one, the C form of the ledger's answer. Both are one proof, over anything that is a call, the table that it started from and its outcome.
-- The table is shorter than 2 ^ 64 bytes, as FILLED is stored in eight; all calls are made under one set of settings.
use Prim.{Unit}
use Prim.Native.Nat.{ℕ, ◌^◌, ◌<◌}
use mathlib.Core.Path.{◌≡◌, refl, sym, ap, ap₂, ◌∙◌, subst}
use mathlib.Core.List.{List, [], ◌∷◌, map}
use lib.ListN.{length}
use Rattle.definition.specs.declared.Settings.{Settings}
use Rattle.definition.specs.Settings.{link_bytes}
use Rattle.definition.specs.Answers.{Answer}
use Rattle.definition.specs.Calls.{capacity}
use Rattle.definition.specs.Sound.{Sound}
use Rattle.definition.specs.Ledger.{Call, Outcome}
use Rattle.definition.specs.Run.{ledger_of, run}
use Rattle.ledger.proofs.Sequences.{Outcomes, in_turn, run_all, ledger_all, AllAgree, sequence_agrees}
use Rattle.station.specs.declared.answers.PyltarkaSettings.{PyltarkaSettings}
use Rattle.station.specs.Forms.{settings_of}
use Rattle.promises.proofs.Performed.{Performed, call_of, start_of, outcome_of, performed_is}
use Rattle.promises.proofs.Exported.{Exported, Returned, form_of, returned_of, in_form, exported_is}
use Rattle.promises.proofs.Exported as exported

-- a performed call, whoever performed it: the call, the table's bytes when it was called, what was left
pub record Performance (s : Settings) : Type 0 where
  pub call : Call
  pub start : List ℕ
  pub outcome : Outcome (List ℕ)
  -- and that this is what the definition says
  pub is : outcome ≡ run s call start

-- a call of the table, and one of the C functions
abbrev pub of_table : {s : Settings} → Performed s → Performance s
of_table p = record { call = call_of p; start = start_of p; outcome = outcome_of p; is = performed_is p }

abbrev pub of_station : {s : PyltarkaSettings} → Exported s → Performance (settings_of s)
of_station p = record { call = exported.call_of p; start = exported.start_of p; outcome = exported.outcome_of p; is = exported_is p }

-- ---- any history

module _ {s : Settings} {P : Type 0} (seen : P → Performance s) where
  -- each call starts from the table that the one before left
  pub Follow : List ℕ → List P → Type 0
  Follow t [] = Unit
  Follow t (p ∷ ps) = ((seen p).start ≡ t) × Follow (seen p).outcome.after ps

  -- the calls, the table at the end, and what each told
  abbrev pub calls_of : List P → List Call
  calls_of [] = []
  calls_of (p ∷ ps) = (seen p).call ∷ calls_of ps

  abbrev pub history_of : List ℕ → List P → Outcomes (List ℕ)
  history_of t [] = record { told = []; after = t }
  history_of t (p ∷ ps) =
      let o = (seen p).outcome in
      let rest = history_of o.after ps in
      record { told = (o.answer, o.output) ∷ rest.told; after = rest.after }

  -- it is what the definition gives for these calls
  pub history_is : (t : List ℕ) (ps : List P) → Follow t ps → history_of t ps ≡ run_all s (calls_of ps) t
  unfolding in_turn Follow
  history_is t [] f = refl
  history_is t (p ∷ ps) f =
      let o : Outcome (List ℕ) = (seen p).outcome in
      let e : o ≡ run s (seen p).call t = (seen p).is ∙ ap (run s (seen p).call) f.0 in
      let more = history_is o.after ps f.1 in
      ap (λ (rest : Outcomes (List ℕ)). record { told = (o.answer, o.output) ∷ rest.told; after = rest.after }) more
      ∙ ap (λ (x : Outcome (List ℕ)). let rest = run_all s (calls_of ps) x.after in record { told = (x.answer, x.output) ∷ rest.told; after = rest.after }) e

  agrees : (t : List ℕ) (ps : List P) → Sound s t → length t < 256 ^ link_bytes → Follow t ps
      → AllAgree s t (history_of t ps) (ledger_all s (capacity s t) (calls_of ps) (ledger_of s t))
  agrees t ps k bound f =
      subst (λ (o : Outcomes (List ℕ)). AllAgree s t o (ledger_all s (capacity s t) (calls_of ps) (ledger_of s t))) (sym (history_is t ps f)) (sequence_agrees s (calls_of ps) t k bound)

-- ---- the table's calls

pub code_agrees : (s : Settings) (t : List ℕ) (ps : List (Performed s)) → Sound s t → length t < 256 ^ link_bytes → Follow of_table t ps
    → AllAgree s t (history_of of_table t ps) (ledger_all s (capacity s t) (calls_of of_table ps) (ledger_of s t))
code_agrees s t ps = agrees of_table t ps

-- ---- the C functions

-- what was told of these calls, each answer in its C form
abbrev pub forms_of : Settings → List Call → List (Answer × List ℕ) → List Returned
forms_of s [] told = []
forms_of s (c ∷ cs) [] = []
forms_of s (c ∷ cs) (a ∷ told) = form_of s c a.0 ∷ forms_of s cs told

returned_told : {s : PyltarkaSettings} (t : List ℕ) (ps : List (Exported s)) → map returned_of ps ≡ forms_of (settings_of s) (calls_of of_station ps) (history_of of_station t ps).told
returned_told t [] = refl
returned_told t (p ∷ ps) = ap₂ (λ (r : Returned) (rs : List Returned). r ∷ rs) (in_form p) (returned_told (exported.outcome_of p).after ps)

-- the first: as for the table's calls, an answer being what came back says. The second: what came back
pub station_agrees : (s : PyltarkaSettings) (t : List ℕ) (ps : List (Exported s)) → Sound (settings_of s) t → length t < 256 ^ link_bytes → Follow of_station t ps
    → AllAgree (settings_of s) t (history_of of_station t ps) (ledger_all (settings_of s) (capacity (settings_of s) t) (calls_of of_station ps) (ledger_of (settings_of s) t))
    × (map returned_of ps ≡ forms_of (settings_of s) (calls_of of_station ps) (ledger_all (settings_of s) (capacity (settings_of s) t) (calls_of of_station ps) (ledger_of (settings_of s) t)).told)
station_agrees s t ps k bound f =
    let a = agrees of_station t ps k bound f in
    (a, returned_told t ps ∙ ap (forms_of (settings_of s) (calls_of of_station ps)) a.tells)

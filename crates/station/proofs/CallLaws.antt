-- The fixed read that is accepted: its content lies in the table (`part_at`), and what it tells, member by member, is the definition's answer
-- (`part_told`).
use mathlib.Core.Path.{◌≡◌, sym, ap, ◌∙◌}
use mathlib.Core.Option.{Option}
use mathlib.Core.List.{List}
use Prim.Native.Nat.{ℕ, ◌+◌, ◌≤◌}
use lib.ListN.{length}
use Rattle.std.specs.Prelude.{Result, Ok}
use Rattle.definition.specs.declared.Settings.{Settings}
use Rattle.definition.specs.declared.Refusal.{Refusal}
use Rattle.definition.specs.declared.Record.{Record}
use Rattle.definition.specs.Answers.{found_of}
use Rattle.definition.specs.Calls.{content_start, find_fixed}
use Rattle.laws.proofs.FixedParts.{fixed_part}
use Rattle.station.specs.declared.answers.PyltarkaPart.{PyltarkaPart}
use Rattle.station.specs.Forms.{part_in}

abbrev part_from : ℕ → Record → PyltarkaPart
part_from start x = record { offset = start; length = x.len; visits = x.visits; number = 0; count = x.count; mark = x.mark }

module _ (s : Settings) (t : List ℕ) (h : ℕ) (key : Option (List ℕ)) {answer : Result Record Refusal} {x : Record} (is : answer ≡ Ok x) (e : found_of answer ≡ find_fixed s key h t) where
  told : found_of (Ok x) ≡ find_fixed s key h t
  told = ap found_of (sym is) ∙ e

  pub part_at : content_start s h + x.len ≤ length t
  unfolding content_start
  part_at = (fixed_part s t h key x.len x.mark x.count x.visits told).inside

  pub part_told : (start : ℕ) → start ≡ content_start s h → part_from start x ≡ part_in s h (find_fixed s key h t)
  part_told start p = ap (λ (k : ℕ). part_from k x) p ∙ ap (part_in s h) told

-- What is said of a count that was found, and of one after a step.
use Rattle.std.specs.Prelude.{◌≡◌, [], ◌∷◌, ℕ, Option, Some, None, Result, Ok, Err}
use Rattle.std.proofs.Math.Option.{Option as Maybe, none, some}
use Rattle.definition.specs.declared.Refusal.{Refusal}
use Rattle.definition.specs.declared.Settings.{Settings}
use Rattle.definition.specs.Tests.{number_of, first}
use Rattle.definition.specs.Slots.{View, count_of}
use Rattle.definition.specs.Chains.{head_fault}
use Rattle.definition.specs.Calls.{slot_test}

-- the slot and the head of a count change, and the count
abbrev pub CountIs : Result ℕ Refusal → Settings → View → ℕ → Type 0
CountIs (Ok n) s f h = (first (slot_test f h ∷ head_fault s none 8 (f h) ∷ []) ≡ 0) × (n ≡ count_of s (f h))
CountIs (Err r) s f h = first (slot_test f h ∷ head_fault s none 8 (f h) ∷ []) ≡ number_of r

-- a count after a step, as the code answers it
abbrev pub stepped_to : Maybe ℕ → Option ℕ
stepped_to none = None
stepped_to (some n) = Some n

-- What a read tells of a record, its tests after the table's and before its output passed.
use Rattle.std.specs.Prelude.{◌≡◌, List, ◌∷◌, ℕ, length, Result, Ok, Err}
use Rattle.std.proofs.Math.Option.{Option}
use Rattle.definition.specs.declared.Settings.{Settings}
use Rattle.definition.specs.declared.Refusal.{Refusal}
use Rattle.definition.specs.declared.Record.{Record}
use Rattle.definition.specs.Tests.{number_of, first}
use Rattle.definition.specs.Slots.{View, view, filled, mark_of, count_of}
use Rattle.definition.specs.Chains.{walk, content_of}
use Rattle.definition.specs.Calls.{checked_key_test, chain_tests}

-- of the chain at slot h, on these slots
abbrev pub told_of : Settings → View → ℕ → List ℕ → Record
told_of s f h slots = record { len = length (content_of s f slots); mark = mark_of s (f h); count = count_of s (f h); visits = length slots }

-- the tests from the key's on pass, and this is what is told; or the first that refuses gives this number
abbrev pub FoundIs : Result Record Refusal → Settings → List ℕ → ℕ → Option (List ℕ) → Type 0
FoundIs (Ok r) s t h key =
    (first (checked_key_test s key ∷ chain_tests s (view s.size t) h key) ≡ 0)
    × (r ≡ told_of s (view s.size t) h (walk s (view s.size t) (filled (view s.size t)) h).slots)
FoundIs (Err r) s t h key = first (checked_key_test s key ∷ chain_tests s (view s.size t) h key) ≡ number_of r

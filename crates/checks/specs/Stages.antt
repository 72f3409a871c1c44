-- What each stage of checks says of the definition's tests: they pass, with the values found, or the first that refuses gives this number.
use Rattle.std.specs.Prelude.{◌≡◌, false, List, ◌++◌, ℕ, eqb, length, Result, Ok, Err}
use Rattle.definition.specs.declared.Settings.{Settings}
use Rattle.definition.specs.declared.Refusal.{Refusal}
use Rattle.definition.specs.Tests.{number_of, first}
use Rattle.definition.specs.Slots.{view, filled}
use Rattle.definition.specs.Chains.{walk}
use Rattle.definition.specs.Parts.{prefix, pieces}
use Rattle.definition.specs.Calls.{value_tests, supply_of, room_tests, Insert, Replace, Remove, decision}
use Rattle.slots.specs.declared.layout.Layout.{Layout}
use Rattle.checks.specs.declared.writing.Fitted.{Fitted}

-- 4 and 6, and the parts needed
abbrev pub ValuedIs : Result ℕ Refusal → Settings → List ℕ → List ℕ → Type 0
ValuedIs (Ok n) s key content = (first (value_tests s key content) ≡ 0) × (n ≡ length (pieces s (prefix s key ++ content)))
ValuedIs (Err r) s key content = first (value_tests s key content) ≡ number_of r

-- 11 and 12
abbrev pub RoomIs : Result Unit Refusal → Settings → List ℕ → ℕ → Type 0
RoomIs (Ok u) s t need = first (room_tests (supply_of s t) need) ≡ 0
RoomIs (Err r) s t need = first (room_tests (supply_of s t) need) ≡ number_of r

-- all the tests of a call, and the settings that passed the first
abbrev pub TestedIs : Result Layout Refusal → Settings → List ℕ → Type 0
TestedIs (Ok layout) s tests = (first tests ≡ 0) × (layout.settings ≡ s)
TestedIs (Err r) s tests = first tests ≡ number_of r

-- the slots of the chain at h, and the parts of a new record
abbrev pub chain_of : Settings → List ℕ → ℕ → List ℕ
chain_of s t h = (walk s (view s.size t) (filled (view s.size t)) h).slots

abbrev pub new_parts : Settings → List ℕ → List ℕ → ℕ
new_parts s key content = length (pieces s (prefix s key ++ content))

-- the tests of each call; the mark is in none of them
abbrev pub insert_tests : Settings → List ℕ → List ℕ → List ℕ → List ℕ
insert_tests s key content t = (decision s (Insert key content false) t).tests

abbrev pub replace_tests : Settings → List ℕ → List ℕ → ℕ → List ℕ → List ℕ
replace_tests s key content h t = (decision s (Replace key content false h) t).tests

abbrev pub remove_tests : Settings → ℕ → List ℕ → List ℕ
remove_tests s h t = (decision s (Remove h) t).tests

-- all of replace's tests, the settings, and whether the new chain has as many parts as the old
abbrev pub FittedIs : Result Fitted Refusal → Settings → List ℕ → List ℕ → ℕ → List ℕ → Type 0
FittedIs (Ok x) s key content h t =
    (first (replace_tests s key content h t) ≡ 0) × (x.layout.settings ≡ s) × (x.same ≡ eqb (new_parts s key content) (length (chain_of s t h)))
FittedIs (Err r) s key content h t = first (replace_tests s key content h t) ≡ number_of r

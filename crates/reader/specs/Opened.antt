-- What tests 1, 2 and 3 leave of a table, and test 7 of a slot's number.
use Rattle.std.specs.Prelude.{◌≡◌, List, ℕ, Result, Ok, Err}
use Rattle.definition.specs.declared.Settings.{Settings}
use Rattle.definition.specs.declared.Refusal.{Refusal}
use Rattle.definition.specs.Tests.{number_of, first}
use Rattle.definition.specs.Slots.{View, view}
use Rattle.definition.specs.Calls.{capacity, table_tests, slot_test}
use Rattle.reader.specs.declared.slot.Slot.{Slot}
use Rattle.reader.specs.declared.table.Table.{Table}

-- the table as its slots
abbrev pub slots_of : Table → View
slots_of t = view t.layout.settings.size t.bytes.now

-- tests 1, 2 and 3, and the table with its header
abbrev pub OpenedIs : Result Table Refusal → Settings → List ℕ → Type 0
OpenedIs (Ok table) s t = (first (table_tests s (view s.size t) (capacity s t)) ≡ 0) × (table.layout.settings ≡ s) × (table.bytes.now ≡ t)
OpenedIs (Err r) s t = first (table_tests s (view s.size t) (capacity s t)) ≡ number_of r

-- test 7, and the slot
abbrev pub SlotIs : Result Slot Refusal → Table → ℕ → Type 0
SlotIs (Ok slot) table i = (slot_test (slots_of table) i ≡ 0) × (slot.bytes.now ≡ slots_of table i) × (slot.layout ≡ table.layout)
SlotIs (Err r) table i = slot_test (slots_of table) i ≡ number_of r

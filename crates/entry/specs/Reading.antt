-- What a reader finds at a place, and where it stands after it.
use Rattle.std.specs.Prelude.{◌≡◌, ℕ, ◌+◌, List}
use Rattle.definition.specs.Numbers.{num}
use Rattle.entry.specs.declared.EntryRef.{EntryRef}
use Rattle.entry.specs.declared.PartialKey.{PartialKey}

-- the partial key from place at on
abbrev pub key_at : ℕ → List ℕ → PartialKey
key_at at b = record { first = num at 8 b; second = num (at + 8) 8 b; third = num (at + 16) 8 b; last = num (at + 24) 2 b }

-- the same slot, n bytes further on
abbrev pub Moved : EntryRef → EntryRef → ℕ → Type 0
Moved old new n = (new.slot ≡ old.slot) × (new.at ≡ old.at + n)

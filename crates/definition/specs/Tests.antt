-- Refusals and ordered tests. Document 01, "Numbers the station sees".
-- A test is a number: 0 where it passes, else the refusal that it gives. A call lists its tests in 01's order.
use Rattle.std.specs.Prelude.{ℕ, zero, suc, Bool, true, false, List, [], ◌∷◌}
use Rattle.definition.specs.declared.Refusal.{Refusal}
use Rattle.definition.specs.declared.Refusal.TheVariants.{Settings, Buffer, Header, Key, Uncounted, Value, Slot, Absent, Size, Chain, FreeList, Room, Output}

-- 01's number of each refusal
abbrev pub number_of : Refusal → ℕ
number_of Settings = 1
number_of Buffer = 2
number_of Header = 3
number_of Key = 4
number_of Uncounted = 5
number_of Value = 6
number_of Slot = 7
number_of Absent = 8
number_of Size = 9
number_of Chain = 10
number_of FreeList = 11
number_of Room = 12
number_of Output = 13

-- refuse n where the condition holds
unfoldable pub refuse : ℕ → Bool → ℕ
refuse n true = n
refuse n false = 0

-- the first refusal of an ordered list of tests, 0 if all pass
unfoldable pub first : List ℕ → ℕ
first [] = 0
first (zero ∷ ns) = first ns
first (suc n ∷ ns) = suc n

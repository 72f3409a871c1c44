-- The one effect of insert, replace and remove. Document 01, "Steps of each call": take, write, replace, free and remove.
-- `old` are the slots of the chain that is there (none for insert), `free` the free list in order, F is FILLED, and n the number
-- of new parts (0 for remove). That this is what 01's steps come to, one slot at a time, is shown by
-- `steps` and `free_steps_store`, crates/laws/proofs/Steps.antt.
use Rattle.std.specs.Prelude.{ℕ, ◌+◌, ◌-◌, Bool, cond, length, take, drop, eqb}
use mathlib.Core.List.{List, [], ◌∷◌, ◌++◌, reverse, head_d}
use Rattle.definition.specs.declared.Settings.{Settings}
use Rattle.definition.specs.Numbers.{bytes, range}
use Rattle.definition.specs.Settings.{link_bytes}
use Rattle.definition.specs.Slots.{Store}
use Rattle.definition.specs.Parts.{chain_stores, free_stores}

-- the new chain's slots: the old chain's in order, then the free list's, then unused ones from FILLED up
unfoldable pub new_slots : List ℕ → List ℕ → ℕ → ℕ → List ℕ
new_slots old free F n = take n (old ++ (free ++ range F n))

-- the old chain's slots that are left over
unfoldable pub left_over : List ℕ → ℕ → List ℕ
left_over old n = drop n old

-- the free slots not taken
unfoldable pub free_left : List ℕ → List ℕ → ℕ → List ℕ
free_left old free n = drop (n - length old) free

-- the free list afterwards: what is left over went on top, from its first part to its last
unfoldable pub free_after : List ℕ → List ℕ → ℕ → List ℕ
free_after old free n = reverse (left_over old n) ++ free_left old free n

-- FILLED afterwards
unfoldable pub filled_after : List ℕ → List ℕ → ℕ → ℕ → ℕ
filled_after old free F n = F + (n - length old - length free)

-- the header's store: LAST_REMOVED and FILLED
unfoldable pub header_store : ℕ → ℕ → Store
header_store removed F = (0, bytes link_bytes removed ++ bytes link_bytes F)

-- the header is stored only where a slot was taken or freed
unfoldable pub header_stores : List ℕ → List ℕ → ℕ → ℕ → List Store
header_stores old free F n = cond (eqb n (length old)) [] (header_store (head_d (free_after old free n) 0) (filled_after old free F n) ∷ [])

-- all stores, in order: the new chain of these pieces, the slots left over, the header
unfoldable pub effect : Settings → Bool → ℕ → List (List ℕ) → List ℕ → List ℕ → ℕ → List Store
effect s mark total ps old free F =
    let n = length ps in
    chain_stores s mark total (new_slots old free F n) ps
    ++ (free_stores (head_d (free_left old free n) 0) (left_over old n) ++ header_stores old free F n)

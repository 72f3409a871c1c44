-- A sound table. Demand 3: each slot from 1 up to FILLED is on the free list once or in one chain once, never both. Document 01, "A chain
-- starts at every slot below FILLED ..": settings, length, header and free list meet none of 1, 2, 3 and 11, and every chain is well
-- formed. The demand's sentence is said as a count of owners; the theorems show that the count and the sentence are the same.
use Rattle.std.specs.Prelude.{◌≡◌, ℕ, ◌+◌, ◌-◌, ◌<◌, Bool, true, cond, ◌&&◌, List, [], ◌∷◌, ◌++◌, map, eqb, ltb}
use Rattle.std.proofs.Math.Option.{none}
use Rattle.definition.specs.declared.Settings.{Settings}
use Rattle.definition.specs.Numbers.{range}
use Rattle.definition.specs.Tests.{first}
use Rattle.definition.specs.Slots.{View, view, filled, starts}
use Rattle.definition.specs.FreeList.{free_list, members_of}
use Rattle.definition.specs.Chains.{head_fault, walk}
use Rattle.definition.specs.Calls.{capacity, table_tests, free_list_test}

-- how often slot i is in a list
unfoldable pub hit : ℕ → ℕ → ℕ
hit i x = cond (eqb i x) 1 0

unfoldable pub occ : ℕ → List ℕ → ℕ
occ i [] = 0
occ i (x ∷ l) = hit i x + occ i l

-- does a chain start at slot h: below FILLED, from 1 up, with a head's mark, on a fixed table not marked free
unfoldable pub starts_at : Settings → View → ℕ → Bool
starts_at s f h = ltb 0 h && (ltb h (filled f) && starts s (f h))

-- the slots of the chain that starts at h, none where no chain starts
unfoldable pub chain_at : Settings → View → ℕ → List ℕ
chain_at s f h = cond (starts_at s f h) (walk s f (filled f) h).slots []

-- where slots are: on the free list, or in the chain of some head
unfoldable pub places : Settings → View → List (List ℕ)
places s f = members_of (free_list f) ∷ map (chain_at s f) (range 1 (filled f - 1))

-- how often slot i is in any of these places
unfoldable pub occ_all : ℕ → List (List ℕ) → ℕ
occ_all i [] = 0
occ_all i (l ∷ ls) = occ i l + occ_all i ls

unfoldable pub owners : Settings → View → ℕ → ℕ
owners s f i = occ_all i (places s f)

-- the slots of a table of this capacity are sound
pub record SoundView (s : Settings) (f : View) (cap : ℕ) : Type 0 where
  -- settings, length, header and free list meet none of 1, 2, 3 and 11
  pub accepted : first (table_tests s f cap ++ (free_list_test (free_list f) ∷ [])) ≡ 0
  -- every chain is well formed: an unchecked read of its head, with room enough, meets none of 8, 9 and 10
  pub formed : (h : ℕ) → starts_at s f h ≡ true → first (head_fault s none 8 (f h) ∷ (walk s f (filled f) h).fault ∷ []) ≡ 0
  -- every slot from 1 up to FILLED has one owner
  pub once : (i : ℕ) → 0 < i → i < filled f → owners s f i ≡ 1

abbrev pub Sound : Settings → List ℕ → Type 0
Sound s t = SoundView s (view s.size t) (capacity s t)

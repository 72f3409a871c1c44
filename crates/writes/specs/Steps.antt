-- The steps inside the writing loop. Document 01, "Steps of each call": take a slot, write, free a slot.
use Rattle.std.specs.Prelude.{Bool, cond, ℕ, ◌+◌, ◌-◌, take, drop, eqb}
use mathlib.Core.List.{List, [], ◌∷◌, ◌++◌, reverse, head_d}
use Rattle.definition.specs.declared.Settings.{Settings}
use Rattle.definition.specs.declared.Header.{Header}
use Rattle.definition.specs.Settings.{head_overhead, link_overhead}
use Rattle.definition.specs.Slots.{View, is_head, is_continuation, head_link, link_of, Store}
use Rattle.definition.specs.Parts.{head_part, continuation_part, free_stores}
use Rattle.definition.specs.Effect.{header_store}
use Rattle.writes.specs.declared.Taken.{Taken}

-- ---- slots taken and freed

-- the next part of a chain after a slot with these bytes: a head's link, a continuation's, 0 for any other slot
unfoldable pub next_part : Settings → List ℕ → ℕ
next_part s b = cond s.multipart (cond (is_head b) (head_link s b) (cond (is_continuation b) (link_of b) 0)) 0

-- the slot taken from the old chain at `at`, else from the free list, else at FILLED, and what is next in each afterwards
unfoldable pub taken_from : Settings → View → ℕ → Header → Taken
taken_from s f at h =
    cond (eqb at 0)
    (cond (eqb h.removed 0)
    (record { slot = h.filled; rest = 0; header = record { removed = 0; filled = h.filled + 1 } })
    (record { slot = h.removed; rest = 0; header = record { removed = link_of (f h.removed); filled = h.filled } }))
    (record { slot = at; rest = next_part s (f at); header = h })

-- the header after slot i is freed
abbrev pub freed_onto : ℕ → Header → Header
freed_onto i h = record { removed = i; filled = h.filled }

-- what is left of the old chain is freed, and the header stored, unless no slot was taken or freed
unfoldable pub clear_stores : Bool → List ℕ → List ℕ → ℕ → List Store
clear_stores same old free F = free_stores (head_d free 0) old ++ cond same [] (header_store (head_d (reverse old ++ free) 0) F ∷ [])

-- ---- parts with a link

-- the bytes before what such a part holds of prefix and content: a head at place 0, else a continuation
unfoldable pub overhead_at : Settings → ℕ → ℕ
overhead_at s pos = cond (eqb pos 0) (head_overhead s) link_overhead

-- the place after what it holds: it fills its slot
unfoldable pub place_after : Settings → ℕ → ℕ
place_after s pos = pos + (s.size - overhead_at s pos)

-- what it holds of the body from place pos on
unfoldable pub piece_at : Settings → ℕ → List ℕ → List ℕ
piece_at s pos body = take (s.size - overhead_at s pos) (drop pos body)

-- its bytes
unfoldable pub linked_part : Settings → Bool → ℕ → ℕ → ℕ → List ℕ → List ℕ
linked_part s mark total next pos body = cond (eqb pos 0) (head_part s mark total next (piece_at s pos body)) (continuation_part next (piece_at s pos body))

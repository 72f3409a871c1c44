-- The free list. Document 01, "Numbers the station sees", refusal 11.
use Rattle.std.specs.Prelude.{ℕ, zero, suc, ◌-◌, cond, ◌&&◌, List, [], ◌∷◌, eqb, ltb}
use Rattle.std.proofs.Math.Option.{Option, none, some}
use Rattle.definition.specs.Slots.{View, is_free, link_of, filled, last_removed}

-- x before the members of a list that has no fault
unfoldable pub push : ℕ → Option (List ℕ) → Option (List ℕ)
push x none = none
push x (some l) = some (x ∷ l)

-- the members from slot at on, when n more may come: up to a link of 0, each below FILLED and marked free; `none` is fault 11
unfoldable pub free_from : View → ℕ → ℕ → ℕ → Option (List ℕ)
free_from f F zero at = cond (eqb at 0) (some []) none
free_from f F (suc n) at =
    let rest = push at (free_from f F n (link_of (f at))) in
    cond (eqb at 0) (some []) (cond (ltb at F && is_free (f at)) rest none)

-- from LAST_REMOVED on, at most FILLED - 1 members
unfoldable pub free_list : View → Option (List ℕ)
free_list f = free_from f (filled f) (filled f - 1) (last_removed f)

-- the members, none where the list is at fault
unfoldable pub members_of : Option (List ℕ) → List ℕ
members_of none = []
members_of (some l) = l

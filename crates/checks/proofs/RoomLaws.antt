-- Tests 11 and 12: room is refused exactly when the slots needed exceed the free ones and the unused ones.
use mathlib.Core.Path.{◌≡◌, sym, ap, ◌∙◌}
use mathlib.Core.Bool.{Bool, true, false}
use Prim.Native.Nat.{ℕ, ◌+◌, ◌-◌, ◌≤◌, ◌<◌}
use native.Mathlib.Nat.{le-div_iff_mul-le}
use native.Mathlib.Omega.{arith}
use lib.Dec.{ltb}
use Rattle.std.specs.Prelude.{Ok, Err}
use Rattle.definition.specs.declared.Header.{Header}
use Rattle.definition.specs.declared.Refusal.{Refusal}
use Rattle.definition.specs.Tests.{number_of, refuse, first}
use Rattle.definition.specs.Slots.{view, filled}
use Rattle.definition.specs.FreeList.{free_from, free_list}
use Rattle.definition.specs.Calls.{capacity, room_test, supply_of, room_tests}
use Rattle.laws.proofs.Tests.{number_some, refuse_yes, refuse_no, first_skip, first_one, first_refuses}
use Rattle.laws.proofs.Starts.{filled_pos}
use Rattle.reader.specs.declared.table.Table.{Table}
use Rattle.walks.specs.Met.{FreeIs}
use Rattle.checks.specs.Stages.{RoomIs}

module _ (table : Table) where
  pub filled_is : table.header.filled ≡ filled (view table.layout.settings.size table.bytes.now)
  filled_is = ap (λ (h : Header). h.filled) table.own

  pub some_filled : 0 < table.header.filled
  some_filled = omega (arith, filled_is, filled_pos (view table.layout.settings.size table.bytes.now))

  pub filled_within : table.header.filled ≤ capacity table.layout.settings table.bytes.now
  unfolding capacity
  filled_within = (le-div_iff_mul-le (omega (arith, table.layout.least))).1 table.fits

  -- the walk from its header is the free list's
  pub list_is : free_from (view table.layout.settings.size table.bytes.now) table.header.filled (table.header.filled - 1) table.header.removed
      ≡ free_list (view table.layout.settings.size table.bytes.now)
  unfolding free_list
  list_is = ap (λ (h : Header). free_from (view table.layout.settings.size table.bytes.now) h.filled (h.filled - 1) h.removed) table.own

  module _ (need : ℕ) where
    pub list_refused : (r : Refusal) → FreeIs (Err r) (free_list (view table.layout.settings.size table.bytes.now)) → RoomIs (Err r) table.layout.settings table.bytes.now need
    list_refused r e = first_refuses (number_of r) _ _ e (number_some r)

    module _ (n : ℕ) (e : FreeIs (Ok n) (free_list (view table.layout.settings.size table.bytes.now)))
        (cap : ℕ) (k : cap ≡ capacity table.layout.settings table.bytes.now) (b : Bool) (q : b ≡ ltb (n + (cap - table.header.filled)) need) where
      second : first (room_tests (supply_of table.layout.settings table.bytes.now) need) ≡ refuse 12 b
      unfolding room_test
      second = first_skip _ _ e.0 ∙ first_one _ ∙ ap (refuse 12) (sym (q ∙ cc (e.1, k, filled_is)))

      pub room_refused : b ≡ true → RoomIs (Err Refusal.Room) table.layout.settings table.bytes.now need
      room_refused y = second ∙ refuse_yes 12 b y

      pub room_good : b ≡ false → (u : Unit) → RoomIs (Ok u) table.layout.settings table.bytes.now need
      room_good y u = second ∙ refuse_no 12 b y

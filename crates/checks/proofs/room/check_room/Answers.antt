use native.Mathlib.Omega.{arith}
use Rattle.checks.proofs.CheckLaws.{passed_on}
use Rattle.checks.proofs.RoomLaws.{some_filled, filled_within, list_is, list_refused, room_refused, room_good}
use Rattle.checks.proofs.room.check_room.Goals as goal

pub check_free_refs-requires : goal.check_free_refs-requires
check_free_refs-requires c = (c.args.table.now.fits, some_filled c.args.table.now)

pub returns-in_err-members : goal.returns-in_err-members
returns-in_err-members c =
    rw (passed_on _ _ c.from_residual.ensures.1) (list_refused c.args.table.now _ _ (rw (list_is c.args.table.now) at c.in_err-members.ensures))

pub overflow_sub-capacity : goal.overflow_sub-capacity
overflow_sub-capacity c = omega (arith, filled_within c.args.table.now, c.capacity.ensures)

pub returns-then-room_bad : goal.returns-then-room_bad
returns-then-room_bad c =
    room_refused c.args.table.now _ _ (rw (list_is c.args.table.now) at c.in_ok-members.ensures) _ c.capacity.ensures _ c.room_bad.ensures c.if-room_bad.true

pub returns : goal.returns
returns c =
    room_good c.args.table.now _ _ (rw (list_is c.args.table.now) at c.in_ok-members.ensures) _ c.capacity.ensures _ c.room_bad.ensures c.if-room_bad.false tt

use Rattle.checks.proofs.CheckLaws.{passed_on}
use Rattle.checks.proofs.RoomLaws.{some_filled, list_is}
use Rattle.table.proofs.CountLaws.{free_closed, free_decides}
use Rattle.table.proofs.counting.free_count.Goals as goal

pub returns-in_err-table : goal.returns-in_err-table
returns-in_err-table c = rw (passed_on _ _ c.from_residual.ensures.1) (free_closed c.args.s _ _ c.in_err-table.ensures)

pub check_free_refs-requires : goal.check_free_refs-requires
check_free_refs-requires c = (c.in_ok-table.table.fits, some_filled c.in_ok-table.table)

pub returns : goal.returns
returns c =
    let o = c.in_ok-table.ensures in
    let frees = rw (list_is c.in_ok-table.table, o.1, o.2) at c.check_free_refs.ensures in
    free_decides c.args.s _ o.0 _ frees

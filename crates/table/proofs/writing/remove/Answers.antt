use Rattle.checks.proofs.CheckLaws.{passed_on}
use Rattle.table.proofs.WriteLaws.{remove_refused, remove_starts, remove_done}
use Rattle.table.proofs.writing.remove.Goals as goal

pub returns-in_err-layout : goal.returns-in_err-layout
returns-in_err-layout c = rw (passed_on _ _ c.from_residual.ensures.1) (remove_refused c.args.s _ _ _ c.in_err-layout.ensures)

pub free_record-requires : goal.free_record-requires
free_record-requires c =
    let e = c.in_ok-layout.ensures in
    let ready = rw (← e.1) at (remove_starts c.args.s _ _ e.0) in
    (_, _, ready)

pub returns : goal.returns
returns c =
    let e = c.in_ok-layout.ensures in
    let w = rw e.1 at c.free_record.ensures in
    remove_done c.args.s _ _ e.0 _ (w _ _ (remove_starts c.args.s _ _ e.0))

use Rattle.checks.proofs.CheckLaws.{passed_on}
use Rattle.table.proofs.WriteLaws.{insert_refused, insert_starts, insert_done}
use Rattle.table.proofs.writing.insert.Goals as goal

pub returns-in_err-layout : goal.returns-in_err-layout
returns-in_err-layout c = rw (passed_on _ _ c.from_residual.ensures.1) (insert_refused c.args.s _ _ _ _ _ c.in_err-layout.ensures)

pub write_record-requires : goal.write_record-requires
write_record-requires c =
    let e = c.in_ok-layout.ensures in
    let ready = rw (← e.1) at (insert_starts c.args.s _ _ _ e.0) in
    (_, _, ready)

pub returns : goal.returns
returns c =
    let e = c.in_ok-layout.ensures in
    let w = rw e.1 at c.write_record.ensures in
    insert_done c.args.s _ _ _ e.0 _ _ _ (w _ _ (insert_starts c.args.s _ _ _ e.0))

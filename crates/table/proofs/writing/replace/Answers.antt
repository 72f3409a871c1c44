use Rattle.checks.proofs.CheckLaws.{passed_on}
use Rattle.table.proofs.WriteLaws.{replace_refused, replace_starts, replace_done}
use Rattle.table.proofs.writing.replace.Goals as goal

pub returns-in_err-fitted : goal.returns-in_err-fitted
returns-in_err-fitted c = rw (passed_on _ _ c.from_residual.ensures.1) (replace_refused c.args.s _ _ _ _ _ _ c.in_err-fitted.ensures)

pub write_record-requires : goal.write_record-requires
write_record-requires c =
    let e = c.in_ok-fitted.ensures in
    let ready = rw (← e.1) at (replace_starts c.args.s _ _ _ _ e.0 _ e.2) in
    (_, _, ready)

pub returns : goal.returns
returns c =
    let e = c.in_ok-fitted.ensures in
    let w = rw e.1 at c.write_record.ensures in
    replace_done c.args.s _ _ _ _ e.0 _ _ (w _ _ (replace_starts c.args.s _ _ _ _ e.0 _ e.2)).0

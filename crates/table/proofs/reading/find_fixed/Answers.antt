use Rattle.checks.proofs.CheckLaws.{passed_on}
use Rattle.table.proofs.ReadLaws.{fixed_multi, fixed_closed, fixed_decides}
use Rattle.table.proofs.reading.find_fixed.Goals as goal

pub returns-then-s : goal.returns-then-s
returns-then-s c = fixed_multi c.args.s _ _ _ c.if-s.true

pub returns-in_err-open : goal.returns-in_err-open
returns-in_err-open c = rw (passed_on _ _ c.from_residual.ensures.1) (fixed_closed c.args.s _ _ _ c.if-s.false _ c.in_err-open.ensures)

pub returns : goal.returns
returns c =
    let o = c.in_ok-open.ensures in
    let found = rw (o.1, o.2) at c.find_record.ensures in
    fixed_decides c.args.s _ _ _ c.if-s.false o.0 _ found

use Rattle.checks.proofs.CheckLaws.{passed_on}
use Rattle.table.proofs.ReadLaws.{read_closed, read_refused, read_short, copyable, read_done}
use Rattle.table.proofs.reading.read.Goals as goal

pub returns-in_err-table : goal.returns-in_err-table
returns-in_err-table c = rw (passed_on _ _ c.from_residual.ensures.1) (read_closed c.args.s _ _ _ _ _ c.in_err-table.ensures)

pub returns-in_err-record : goal.returns-in_err-record
returns-in_err-record c =
    let o = c.in_ok-table.ensures in
    let found = rw (o.1, o.2) at c.in_err-record.ensures in
    rw (passed_on _ _ c.from_residual-in_err-record.ensures.1) (read_refused c.args.s _ _ _ _ o.0 _ found)

pub returns-then-record-output : goal.returns-then-record-output
returns-then-record-output c =
    let o = c.in_ok-table.ensures in
    let found = rw (o.1, o.2) at c.in_ok-record.ensures in
    read_short c.args.s _ _ _ _ o.0 _ found c.if-record-output.true

pub copy_content-requires : goal.copy_content-requires
copy_content-requires c =
    let o = c.in_ok-table.ensures in
    let found = rw (o.1, o.2) at c.in_ok-record.ensures in
    rw (o.1, o.2) (copyable c.args.s _ _ _ _ o.0 _ found c.if-record-output.false)

pub returns : goal.returns
returns c =
    let o = c.in_ok-table.ensures in
    let found = rw (o.1, o.2) at c.in_ok-record.ensures in
    read_done c.args.s _ _ _ _ o.0 _ found c.if-record-output.false _ (rw (o.1, o.2) at c.copy_content.ensures)

use mathlib.Core.Path.{◌∙◌}
use Rattle.laws.proofs.Tests.{first_past}
use Rattle.checks.proofs.CheckLaws.{passed_on, first_refusal}
use Rattle.checks.proofs.writing.check_insert.Goals as goal

pub returns-in_err-table : goal.returns-in_err-table
returns-in_err-table c =
    rw (passed_on _ _ c.from_residual.ensures.1) (first_refusal c.in_err-table.field-0.0 _ _ c.in_err-table.ensures)

pub returns-in_err-need : goal.returns-in_err-need
returns-in_err-need c =
    let o = c.in_ok-table.ensures in
    let need = rw o.1 at c.in_err-need.ensures in
    rw (passed_on _ _ c.from_residual-in_err-need.ensures.1)
    (first_past _ _ o.0 ∙ first_refusal c.in_err-need.field-0.0 _ _ need)

pub returns-in_err-check_room : goal.returns-in_err-check_room
returns-in_err-check_room c =
    let o = c.in_ok-table.ensures in
    let need = rw o.1 at c.in_ok-need.ensures in
    let room = rw (o.1, o.2, need.1) at c.in_err-check_room.ensures in
    rw (passed_on _ _ c.from_residual-in_err-check_room.ensures.1) (first_past _ _ o.0 ∙ first_past _ _ need.0 ∙ room)

pub returns : goal.returns
returns c =
    let o = c.in_ok-table.ensures in
    let need = rw o.1 at c.in_ok-need.ensures in
    let room = rw (o.1, o.2, need.1) at c.in_ok-check_room.ensures in
    (first_past _ _ o.0 ∙ first_past _ _ need.0 ∙ room, o.1)

use native.Mathlib.Omega.{arith}
use mathlib.Core.Path.{refl}
use Rattle.table.proofs.ReadLaws.{fixed_empty, empty_start, part_start_lem, part_handed}
use Rattle.table.proofs.reading.read_fixed.Goals as goal

pub returns-in-Err : goal.returns-in-Err
returns-in-Err c =
    let e = c.in-Err.ensures in
    (fixed_empty c.args.s _ _ _ c.in-Err.field-0 e, (refl, omega (arith, empty_start c.args.s _ _ _ c.in-Err.field-0 e)))

pub returns-in-Ok : goal.returns-in-Ok
returns-in-Ok c =
    let e = c.in-Ok.ensures in
    (part_handed c.args.s _ _ _ c.in-Ok.record e _ c.content_start-start.ensures, (refl, omega (arith, part_start_lem c.args.s _ _ _ c.in-Ok.record e, c.content_start-start.ensures)))

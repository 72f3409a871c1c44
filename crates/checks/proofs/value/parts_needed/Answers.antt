use borrow.Author.Tests.{not-true, not-false}
use native.Mathlib.Omega.{arith}
use Rattle.laws.proofs.Overheads.{overhead_bounds}
use Rattle.checks.proofs.ValueLaws.{parts_fixed, parts_cut}
use Rattle.checks.proofs.value.parts_needed.Goals as goal

pub returns-then-not-s : goal.returns-then-not-s
returns-then-not-s c = λ b l. parts_fixed c.args.layout.settings b _ l (not-true c.args.layout.settings.multipart c.if-not-s.true)

pub returns : goal.returns
returns c =
    let m = not-false c.args.layout.settings.multipart c.if-not-s.false in
    let o = overhead_bounds c.args.layout.settings in
    λ b l. parts_cut c.args.layout.settings b _ l m (omega arith) _ c.head_overhead.ensures (omega (arith, c.head_overhead.ensures, o)) (omega (arith, c.head_overhead.ensures, o, c.requires m))

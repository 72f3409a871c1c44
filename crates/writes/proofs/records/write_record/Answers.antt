use mathlib.Core.Path.{sym}
use native.Mathlib.Omega.{arith}
use lib.Seq.{length-take-le}
use Rattle.laws.proofs.Sizes.{prefix_most}
use Rattle.writes.proofs.records.write_record.Goals as goal

pub slice_bounds-prefix-end : goal.slice_bounds-prefix-end
slice_bounds-prefix-end c = omega (arith, prefix_most c.args.layout.settings)

pub slice_bounds-body-end : goal.slice_bounds-body-end
slice_bounds-body-end c = sym (length-take-le _ _ (omega (arith, prefix_most c.args.layout.settings)))

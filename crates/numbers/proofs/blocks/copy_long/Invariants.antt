use Prim.Native.Nat.{◌-◌}
use lib.ListN.{length}
use Rattle.numbers.proofs.BlockLaws.{Copied}
use Rattle.numbers.proofs.blocks.copy_long.Given as goal

abbrev pub invariant-loop-i : goal.invariant-loop-i
invariant-loop-i l = Copied l.from l.initial.to l.to l.i

abbrev pub decreases-loop-i : goal.decreases-loop-i
decreases-loop-i l = length l.from - l.i

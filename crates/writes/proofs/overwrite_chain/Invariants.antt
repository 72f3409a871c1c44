use Prim.Native.Nat.{◌-◌}
use lib.ListN.{length}
use Rattle.writer.specs.Bodies.{body_of}
use Rattle.writes.proofs.Going.{Laid}
use Rattle.writes.proofs.overwrite_chain.Given as goal

abbrev pub invariant-loop-pos : goal.invariant-loop-pos
invariant-loop-pos l =
    Laid l.layout.settings l.mark (length l.body.content.now) l.same (body_of l.body) l.initial.table l.at l.fn.h l.table l.pos l.to

abbrev pub decreases-loop-pos : goal.decreases-loop-pos
decreases-loop-pos l = l.len - l.pos

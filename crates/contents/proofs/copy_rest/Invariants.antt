use mathlib.Core.List.{List}
use Prim.Native.Nat.{ℕ, ◌+◌}
use Rattle.contents.specs.Pieces.{Copying}
use Rattle.contents.proofs.copy_rest.Given as goal

abbrev pub invariant-loop-left : goal.invariant-loop-left
invariant-loop-left l =
    (T : List ℕ) → Copying l.table.layout.settings l.table.bytes.now T l.start l.from l.n l.initial.out l.to → Copying l.table.layout.settings l.table.bytes.now T l.at l.skip l.left l.out l.pos

abbrev pub decreases-loop-left : goal.decreases-loop-left
decreases-loop-left l = l.skip + l.left

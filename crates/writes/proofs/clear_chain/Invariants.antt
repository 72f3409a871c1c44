use Rattle.definition.specs.Slots.{view}
use Rattle.laws.proofs.Linked.{link_count}
use Rattle.writes.proofs.Clearing.{Kept}
use Rattle.writes.specs.Steps.{next_part}
use Rattle.writes.proofs.clear_chain.Given as goal

abbrev pub invariant-loop-slot : goal.invariant-loop-slot
invariant-loop-slot l = Kept l.layout.settings l.same l.initial.table l.at l.initial.header l.table l.slot l.header

abbrev pub decreases-loop-slot : goal.decreases-loop-slot
decreases-loop-slot l = link_count (next_part l.layout.settings) (view l.layout.settings.size l.table) l.header.filled l.slot

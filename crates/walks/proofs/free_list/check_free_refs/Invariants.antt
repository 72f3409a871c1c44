use Rattle.walks.proofs.FreeLaws.{Counting}
use Rattle.definition.specs.Slots.{view}
use Rattle.walks.proofs.free_list.check_free_refs.Given as goal

abbrev pub invariant-loop-members : goal.invariant-loop-members
invariant-loop-members l = Counting (view l.layout.settings.size l.table) l.h.filled l.h.removed l.at l.members

use Rattle.definition.specs.Slots.{view}
use Rattle.walks.proofs.WalkLaws.{Tallied}
use Rattle.walks.proofs.chain.walk_rest.Given as goal

abbrev pub invariant-loop-before : goal.invariant-loop-before
invariant-loop-before l =
    let s = l.table.layout.settings in
    Tallied s (view s.size l.table.bytes.now) l.table.header.filled l.start l.at l.before l.bytes

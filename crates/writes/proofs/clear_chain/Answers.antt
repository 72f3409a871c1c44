use Rattle.writes.proofs.Clearing.{kept_start, kept_slot, kept_turn, kept_same, kept_stored}
use Rattle.writes.proofs.clear_chain.Goals as goal

pub loop-slot-init : goal.loop-slot-init
loop-slot-init c = kept_start c.args.same c.requires

pub of-requires : goal.of-requires
of-requires c = kept_slot c.loop-slot.invariant

pub clear_slot-header-requires : goal.clear_slot-header-requires
clear_slot-header-requires c = kept_slot c.loop-slot.invariant

pub loop-slot-smaller : goal.loop-slot-smaller
loop-slot-smaller c =
    (kept_turn c.loop-slot.invariant c.loop-slot-test.true (cc (c.next_part-next.ensures, c.of.ensures.0, c.of.ensures.1)) c.clear_slot-header.ensures.0 c.clear_slot-header.ensures.1).1

pub loop-slot-preserved : goal.loop-slot-preserved
loop-slot-preserved c =
    (kept_turn c.loop-slot.invariant c.loop-slot-test.true (cc (c.next_part-next.ensures, c.of.ensures.0, c.of.ensures.1)) c.clear_slot-header.ensures.0 c.clear_slot-header.ensures.1).0

pub returns-then-not-same : goal.returns-then-not-same
returns-then-not-same c = λ old free g. kept_stored c.loop-slot.invariant c.loop-slot-test.false old free g c.if-not-same.true c.write_header.ensures

pub returns-else-not-same : goal.returns-else-not-same
returns-else-not-same c = λ old free g. kept_same c.loop-slot.invariant c.loop-slot-test.false old free g c.if-not-same.false

use native.Mathlib.Omega.{arith}
use Rattle.writes.proofs.Going.{first_asks, first_slot, laid_start, laid_asks, laid_slot, laid_here, laid_place, laid_turn, laid_freeing, laid_end}
use Rattle.writes.proofs.overwrite_chain.Goals as goal

pub next_free-first-requires : goal.next_free-first-requires
next_free-first-requires c = first_asks c.requires

pub loop-pos-init : goal.loop-pos-init
loop-pos-init c = laid_start c.requires _ _ c.next_free-first.ensures

pub next_free-next-requires : goal.next_free-next-requires
next_free-next-requires c = laid_asks c.loop-pos.invariant

pub store_linked-pos-requires : goal.store_linked-pos-requires
store_linked-pos-requires c = (laid_slot c.loop-pos.invariant, omega arith)

pub loop-pos-smaller : goal.loop-pos-smaller
loop-pos-smaller c = omega (arith, laid_place c.loop-pos.invariant (omega arith))

pub loop-pos-preserved : goal.loop-pos-preserved
loop-pos-preserved c =
    laid_turn c.loop-pos.invariant (omega arith) c.next_free-next.ensures c.store_linked-pos.ensures.0 c.store_linked-pos.ensures.1

pub store_sized-requires : goal.store_sized-requires
store_sized-requires c = (laid_slot c.loop-pos.invariant, laid_here c.loop-pos.invariant, omega arith)

pub clear_chain-requires : goal.clear_chain-requires
clear_chain-requires c = laid_freeing c.loop-pos.invariant (omega arith) c.store_sized.ensures

pub returns : goal.returns
returns c = λ old free r. (
  laid_end c.loop-pos.invariant (omega arith) c.store_sized.ensures c.clear_chain.ensures old free r,
  first_slot c.requires r c.next_free-first.ensures,
)

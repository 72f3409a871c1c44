use mathlib.Core.Path.{ap, ◌∙◌}
use native.Mathlib.Omega.{arith}
use Rattle.contents.specs.Pieces.{part_piece, part_next}
use Rattle.contents.proofs.CopyLaws.{done, next_part, less, turn}
use Rattle.contents.proofs.copy_rest.Goals as goal

pub of-requires : goal.of-requires
of-requires c = (next_part _ _ _ _ _ _ _ _ c.args.table.now.layout.good (c.loop-left.invariant c.requires.0 c.requires.1) c.loop-left-test.true).slot

pub part_piece-piece-requires : goal.part_piece-piece-requires
part_piece-piece-requires c =
    rw c.of.ensures.0 (next_part _ _ _ _ _ _ _ _ c.args.table.now.layout.good (c.loop-left.invariant c.requires.0 c.requires.1) c.loop-left-test.true).fits

pub copy_piece-passed-requires : goal.copy_piece-passed-requires
copy_piece-passed-requires c = (c.loop-left.invariant c.requires.0 c.requires.1).room

pub overflow_add-pos : goal.overflow_add-pos
overflow_add-pos c =
    let h = (c.loop-left.invariant c.requires.0 c.requires.1).room in omega (arith, c.copy_piece-passed.ensures.copied)

pub loop-left-smaller : goal.loop-left-smaller
loop-left-smaller c =
    let e = c.part_piece-piece.ensures.0 ∙ ap part_piece c.of.ensures.0 in
    let r = c.copy_piece-passed.ensures in
    less _ _ _ _ _ _ _ _ c.args.table.now.layout.good (c.loop-left.invariant c.requires.0 c.requires.1) c.loop-left-test.true _ e _ _ r.passed r.copied

pub loop-left-preserved : goal.loop-left-preserved
loop-left-preserved c T g =
    let e = c.part_piece-piece.ensures.0 ∙ ap part_piece c.of.ensures.0 in
    let f = c.part_piece-piece.ensures.1 ∙ ap part_next c.of.ensures.0 in
    let r = c.copy_piece-passed.ensures in
    turn _ _ T _ _ _ _ _ c.args.table.now.layout.good (c.loop-left.invariant T g) c.loop-left-test.true _ e _ _ r.passed r.copied _ f _ r.laid

pub returns : goal.returns
returns c T g = done _ _ T _ _ _ _ _ c.args.table.now.layout.good (c.loop-left.invariant T g) (omega (arith, c.loop-left-test.false))

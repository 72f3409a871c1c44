use mathlib.Core.Path.{ap, ap₂, ◌∙◌}
use Prim.Native.Nat.{ℕ, ◌+◌, ◌-◌}
use native.Mathlib.Omega.{arith}
use lib.ListN.{take, drop}
use Rattle.definition.specs.Numbers.{put}
use Rattle.contents.specs.Pieces.{start_piece, start_next, content_at, Copying}
use Rattle.contents.proofs.StartCopies.{start, starts_within, rest_left}
use Rattle.contents.proofs.copy_content.Goals as goal
use Rattle.contents.proofs.copy_content.Goals.{After-copy_piece-passed}

-- after the first piece
left : (c : After-copy_piece-passed)
    → Copying c.args.table.now.layout.settings c.args.table.now.bytes.now (put c.args.out.now 0 (take c.args.n (drop c.args.from (content_at c.args.table.now.layout.settings c.args.table.now.bytes.now c.args.at)))) c.start_piece-piece.result.next (c.prefix_len.result + c.args.from - c.copy_piece-passed.result.0) (c.args.n - c.copy_piece-passed.result.1) c.copy_piece-passed.new.out c.copy_piece-passed.result.1
left c =
    let e = ap₂ start_piece (ap (λ l. l.settings) c.of.ensures.1) c.of.ensures.0 in
    let f = ap₂ start_next (ap (λ l. l.settings) c.of.ensures.1) c.of.ensures.0 in
    let r = c.copy_piece-passed.ensures in
    rest_left _ _ _ _ _ _ c.requires _ (c.start_piece-piece.ensures.0 ∙ e) _ (c.start_piece-piece.ensures.1 ∙ f) _ _ _ (ap (λ (k : ℕ). k + c.args.from) c.prefix_len.ensures) r.passed r.copied _ r.laid

pub of-requires : goal.of-requires
of-requires c = (start _ _ _ _ _ _ c.requires).slot

pub start_piece-piece-requires : goal.start_piece-piece-requires
start_piece-piece-requires c = rw (c.of.ensures.0, c.of.ensures.1) (start _ _ _ _ _ _ c.requires).fits

pub overflow_add-skip : goal.overflow_add-skip
overflow_add-skip c = omega (arith, c.prefix_len.ensures, starts_within _ _ _ _ _ _ c.requires)

pub copy_rest-requires : goal.copy_rest-requires
copy_rest-requires c = (_, left (goal.at.copy_rest-requires c).After-copy_piece-passed)

pub returns : goal.returns
returns c = c.copy_rest.ensures _ (left (goal.at.returns c).After-copy_piece-passed)

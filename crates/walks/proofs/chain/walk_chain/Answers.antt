use native.Mathlib.Omega.{arith}
use Rattle.definition.specs.Slots.{view}
use Rattle.laws.proofs.Views.{within, length_view}
use Rattle.walks.proofs.ChainWalks.{head_at, plain_chain}
use Rattle.walks.proofs.chain.walk_chain.Goals as goal

pub walk_parts-requires : goal.walk_parts-requires
walk_parts-requires c =
    let t = c.args.table.now in
    head_at t.layout.settings (view t.layout.settings.size t.bytes.now) t.header.filled c.args.at _ _ _ c.requires.0 c.requires.1 c.requires.2 c.in-Head.is

pub returns-in_default : goal.returns-in_default
returns-in_default c =
    let t = c.args.table.now in
    plain_chain t.layout.settings (view t.layout.settings.size t.bytes.now) t.header.filled c.args.at _ _ (omega (arith, t.layout.least)) (length_view t.layout.settings.size c.args.at t.bytes.now (within _ _ t.header.filled _ c.requires.1 t.fits))
    c.requires.2 c.requires.3 c.in_default.not-Head

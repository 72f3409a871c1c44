use mathlib.Core.Path.{◌≡◌, ap, ◌∙◌}
use Prim.Native.Nat.{◌+◌, ◌-◌, ◌≤◌}
use native.Mathlib.Nat.{mul-le-mul_left}
use native.Mathlib.Omega.{arith}
use lib.ListN.{length}
use Rattle.std.proofs.lemmas.Result.{err_from_is_err_and}
use Rattle.definition.specs.Slots.{view, total_of}
use Rattle.laws.proofs.Sizes.{sizes}
use Rattle.laws.proofs.Views.{within, length_view}
use Rattle.walks.proofs.ChainWalks.{rest_fits, later_refused, wrong_total, whole_chain}
use Rattle.walks.proofs.chain.walk_parts.Goals as goal
use Rattle.walks.proofs.chain.walk_parts.Goals.{In_ok-rest}

fits : (c : In_ok-rest) → (c.in_ok-rest.rest.parts ≤ c.args.table.now.header.filled - 2) × (c.args.n + c.in_ok-rest.rest.bytes ≤ length c.args.table.now.bytes.now)
fits c =
    let t = c.args.table.now in
    let r = rest_fits t.layout.settings t.bytes.now t.header.filled c.args.next c.in_ok-rest.rest c.requires.1 t.fits c.in_ok-rest.ensures in
    (r.0, omega (arith, r.1, c.requires.4))

whole : (c : In_ok-rest) → let s = c.args.table.now.layout.settings in length (view s.size c.args.table.now.bytes.now c.args.at) ≡ s.size
whole c = let t = c.args.table.now in length_view t.layout.settings.size c.args.at t.bytes.now (within _ _ t.header.filled _ c.requires.0 t.fits)

pub returns-in_err-rest : goal.returns-in_err-rest
returns-in_err-rest c =
    let p = err_from_is_err_and c.from_residual.result c.from_residual.ensures.1 in
    rw (p.1, p.2) (later_refused _ _ _ _ _ _ c.requires c.in_err-rest.field-0.0 c.in_err-rest.ensures)

pub overflow_add-bytes : goal.overflow_add-bytes
overflow_add-bytes c = omega (arith, (fits (goal.at.overflow_add-bytes c).In_ok-rest).1)

pub overflow_sub-bytes : goal.overflow_sub-bytes
overflow_sub-bytes c =
    let z = sizes c.args.table.now.layout.settings c.args.table.now.layout.good in
    omega (arith, c.prefix_len.ensures, z.roomy c.requires.2, c.requires.4)

pub overflow_add-result : goal.overflow_add-result
overflow_add-result c =
    let t = c.args.table.now in
    let h : 1 ≤ t.layout.settings.size = omega (arith, t.layout.least) in
    omega (arith, (fits (goal.at.overflow_add-result c).In_ok-rest).0, c.requires.1, t.fits, mul-le-mul_left t.header.filled h)

pub returns-then-bytes-prefix_len : goal.returns-then-bytes-prefix_len
returns-then-bytes-prefix_len c =
    let t = c.read_total.ensures ∙ ap total_of c.slot.ensures.0 in
    wrong_total _ _ _ _ _ _ c.requires (whole (goal.at.returns-then-bytes-prefix_len c).In_ok-rest) c.in_ok-rest.rest c.in_ok-rest.ensures
    (omega (arith, t, c.prefix_len.ensures))

pub returns : goal.returns
returns c =
    let t = c.read_total.ensures ∙ ap total_of c.slot.ensures.0 in
    whole_chain _ _ _ _ _ _ c.requires (whole (goal.at.returns c).In_ok-rest) c.in_ok-rest.rest c.in_ok-rest.ensures
    (omega (arith, t, c.prefix_len.ensures))

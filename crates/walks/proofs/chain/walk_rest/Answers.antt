use mathlib.Core.Bool.{Bool}
use mathlib.Core.List.{List}
use mathlib.Core.Path.{◌≡◌, ap₂, ◌∙◌, sym, ap}
use Prim.Native.Nat.{ℕ, ◌+◌, ◌≤◌}
use native.Mathlib.Omega.{arith}
use lib.ListN.{length}
use Rattle.std.proofs.lemmas.Result.{err_from_is_err_and}
use Rattle.definition.specs.Chains.{Parse, later_parse}
use Rattle.definition.specs.Slots.{view}
use Rattle.laws.proofs.Views.{within}
use Rattle.slots.specs.declared.layout.Layout.{Layout}
use Rattle.walks.proofs.WalkLaws.{held_most, limit, unlinked, above, bad_part, no_head, last, turn}
use Rattle.walks.proofs.chain.walk_rest.Goals as goal
use Rattle.walks.proofs.chain.walk_rest.Goals.{After-slot, In_ok-part, then-at-eq0-via-then-at-eq0, then-at-eq0-via-else-at-eq0+then-at-table}

-- the slot that was found is the table's
found : (c : After-slot) (p : Parse) → ((mark after : Bool) → p ≡ later_parse c.slot.result.layout.settings mark after c.slot.result.bytes.now)
    → let s = c.args.table.now.layout.settings in (mark after : Bool) → p ≡ later_parse s mark after (view s.size c.args.table.now.bytes.now c.loop-before.at)
found c p e mark after = e mark after ∙ ap₂ (λ (l : Layout) (b : List ℕ). later_parse l.settings mark after b) c.slot.ensures.1 c.slot.ensures.0

whole : (c : After-slot) → let s = c.args.table.now.layout.settings in length (view s.size c.args.table.now.bytes.now c.loop-before.at) ≡ s.size
whole c = sym (ap length c.slot.ensures.0) ∙ c.slot.result.whole ∙ ap (λ (l : Layout). l.settings.size) c.slot.ensures.1

fits : (c : In_ok-part) → c.loop-before.bytes + c.in_ok-part.part.bytes ≤ length c.args.table.now.bytes.now
fits c =
    let t = c.args.table.now in
    let m = held_most _ _ c.in_ok-part.part.kind c.in_ok-part.part.bytes (found (goal.at.In_ok-part c).After-slot _ c.in_ok-part.ensures) in
    omega (arith, m, c.loop-before.invariant.few, within t.layout.settings.size c.loop-before.before t.header.filled _ (omega (arith, c.loop-before-test.true)) t.fits)

pub returns-then-at-eq0 : goal.returns-then-at-eq0
returns-then-at-eq0 c =
    elim c.then-at-eq0.branch [
      | then-at-eq0-via-then-at-eq0 w ↦ unlinked c.loop-before.invariant c.loop-before-test.true w.if-at-eq0.true
      | then-at-eq0-via-else-at-eq0+then-at-table w ↦ above c.loop-before.invariant c.loop-before-test.true w.if-at-table.true
    ]

pub returns-in_err-part : goal.returns-in_err-part
returns-in_err-part c =
    let p = err_from_is_err_and c.from_residual.result c.from_residual.ensures.1 in
    rw (p.1, p.2)
    (bad_part c.loop-before.invariant c.loop-before-test.true c.if-at-eq0.false c.if-at-table.false c.in_err-part.field-0.0
    (found (goal.at.returns-in_err-part c).After-slot _ c.in_err-part.ensures))

pub overflow_add-bytes : goal.overflow_add-bytes
overflow_add-bytes c = omega (arith, fits (goal.at.overflow_add-bytes c).In_ok-part)

pub overflow_add-result-in-Last : goal.overflow_add-result-in-Last
overflow_add-result-in-Last c = omega (arith, fits (goal.at.overflow_add-result-in-Last c).In_ok-part)

pub returns-in-Last : goal.returns-in-Last
returns-in-Last c =
    let d = (goal.at.returns-in-Last c).After-slot in
    last c.loop-before.invariant c.loop-before-test.true c.if-at-eq0.false c.if-at-table.false _ _ (found d _ c.in_ok-part.ensures) _ c.in-Last.is (omega arith) (whole d)

pub returns-in-Head : goal.returns-in-Head
returns-in-Head c =
    no_head c.loop-before.invariant c.loop-before-test.true c.if-at-eq0.false c.if-at-table.false _ _ (found (goal.at.returns-in-Head c).After-slot _ c.in_ok-part.ensures) _
    c.in-Head.is

pub loop-before-preserved : goal.loop-before-preserved
loop-before-preserved c =
    let d = (goal.at.loop-before-preserved c).After-slot in
    turn c.loop-before.invariant c.loop-before-test.true c.if-at-eq0.false c.if-at-table.false _ _ (found d _ c.in_ok-part.ensures) _ c.in-Continuation.is (whole d)

pub returns : goal.returns
returns c = limit c.loop-before.invariant c.loop-before-test.false

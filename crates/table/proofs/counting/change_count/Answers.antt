use mathlib.Core.Path.{sym, ◌∙◌}
use borrow.Author.Tests.{not-true, not-false}
use mir.Syntax.{w32}
use mir.ValLaws.{to_z-of_z}
use Rattle.checks.proofs.CheckLaws.{passed_on}
use Rattle.table.proofs.CountLaws.{change_closed, change_uncounted, change_refused, change_inside, change_last, change_stored}
use Rattle.table.proofs.counting.change_count.Goals as goal

pub returns-in_err-opened : goal.returns-in_err-opened
returns-in_err-opened c = rw (passed_on _ _ c.from_residual.ensures.1) (change_closed c.args.s _ _ _ _ c.in_err-opened.ensures)

pub returns-then-not-s : goal.returns-then-not-s
returns-then-not-s c = change_uncounted c.args.s _ _ _ c.in_ok-opened.ensures.0 (not-true c.args.s.counted c.if-not-s.true)

pub returns-in_err-count : goal.returns-in_err-count
returns-in_err-count c =
    let o = c.in_ok-opened.ensures in
    let counted = rw (o.1, o.2) at c.in_err-count.ensures in
    rw (passed_on _ _ c.from_residual-in_err-count.ensures.1) (change_refused c.args.s _ _ _ o.0 (not-false c.args.s.counted c.if-not-s.false) _ counted)

pub store_count-requires : goal.store_count-requires
store_count-requires c =
    let o = c.in_ok-opened.ensures in
    let counted = rw (o.1, o.2) at c.in_ok-count.ensures in
    rw o.1 (change_inside c.args.s c.args.step _ _ o.0 (not-false c.args.s.counted c.if-not-s.false) _ counted)

pub returns-in-Some : goal.returns-in-Some
returns-in-Some c =
    let o = c.in_ok-opened.ensures in
    let counted = rw (o.1, o.2) at c.in_ok-count.ensures in
    let stepped = rw (to_z-of_z w32 c.args.step c.ranges.step) at c.after_step-left.ensures in
    change_stored c.args.s c.args.step _ _ o.0 (not-false c.args.s.counted c.if-not-s.false) _ counted _ (sym c.in-Some.is ∙ stepped) _ (rw o.1 at c.store_count.ensures)

pub returns-in_default : goal.returns-in_default
returns-in_default c =
    let o = c.in_ok-opened.ensures in
    let counted = rw (o.1, o.2) at c.in_ok-count.ensures in
    let stepped = rw (to_z-of_z w32 c.args.step c.ranges.step) at c.after_step-left.ensures in
    change_last c.args.s c.args.step _ _ o.0 (not-false c.args.s.counted c.if-not-s.false) _ counted _ stepped c.in_default.not-Some

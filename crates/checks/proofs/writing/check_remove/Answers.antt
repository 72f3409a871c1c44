use mathlib.Core.Option.{none}
use mathlib.Core.Path.{◌∙◌}
use Rattle.definition.specs.Tests.{number_of}
use Rattle.definition.specs.Slots.{view}
use Rattle.definition.specs.Calls.{chain_tests}
use Rattle.laws.proofs.Tests.{number_some, first_past, first_one, first_refuses}
use Rattle.checks.proofs.CheckLaws.{passed_on, first_refusal, key_unasked}
use Rattle.checks.proofs.RoomLaws.{some_filled, list_is}
use Rattle.checks.proofs.writing.check_remove.Goals as goal

pub check_chain-requires : goal.check_chain-requires
check_chain-requires c = key_unasked c.in_ok-table.table.layout.settings

pub check_free_refs-requires : goal.check_free_refs-requires
check_free_refs-requires c = (c.in_ok-table.table.fits, some_filled c.in_ok-table.table)

pub returns-in_err-table : goal.returns-in_err-table
returns-in_err-table c =
    rw (passed_on _ _ c.from_residual.ensures.1) (first_refusal c.in_err-table.field-0.0 _ _ c.in_err-table.ensures)

pub returns-in_err-check_chain : goal.returns-in_err-check_chain
returns-in_err-check_chain c =
    let o = c.in_ok-table.ensures in
    let chain = rw (o.1, o.2) at c.in_err-check_chain.ensures in
    rw (passed_on _ _ c.from_residual-in_err-check_chain.ensures.1)
    (first_past _ _ o.0 ∙ first_refusal c.in_err-check_chain.field-0.0 (chain_tests c.args.s (view c.args.s.size c.args.table.now) c.args.slot none) _ chain)

pub returns-in_err-check_free_refs : goal.returns-in_err-check_free_refs
returns-in_err-check_free_refs c =
    let o = c.in_ok-table.ensures in
    let chain = rw (o.1, o.2) at c.in_ok-check_chain.ensures in
    let frees = rw (list_is c.in_ok-table.table, o.1, o.2) at c.in_err-check_free_refs.ensures in
    rw (passed_on _ _ c.from_residual-in_err-check_free_refs.ensures.1)
    (first_past _ _ o.0 ∙ first_past _ _ chain.0 ∙ first_refuses (number_of c.in_err-check_free_refs.field-0.0) _ _ frees (number_some _))

pub returns : goal.returns
returns c =
    let o = c.in_ok-table.ensures in
    let chain = rw (o.1, o.2) at c.in_ok-check_chain.ensures in
    let frees = rw (list_is c.in_ok-table.table, o.1, o.2) at c.in_ok-check_free_refs.ensures in
    (first_past _ _ o.0 ∙ first_past (chain_tests c.args.s (view c.args.s.size c.args.table.now) c.args.slot none) _ chain.0 ∙ first_one _ ∙ frees.0, o.1)

use mathlib.Core.Path.{sym, ap, ◌∙◌}
use native.Mathlib.Omega.{arith}
use Rattle.definition.specs.Slots.{mark_of, count_of}
use Rattle.laws.proofs.Tests.{refuse_no}
use Rattle.table.proofs.ReadLaws.{head_filled, prefixed, told}
use Rattle.table.proofs.reading.find_record.Goals as goal

pub slot-requires : goal.slot-requires
slot-requires c = head_filled c.args.table.now _ _ _ c.in_ok-chain.ensures

pub overflow_sub-result : goal.overflow_sub-result
overflow_sub-result c = omega (arith, c.prefix_len.ensures, prefixed c.args.table.now _ _ _ c.in_ok-chain.ensures)

pub returns : goal.returns
returns c =
    told c.args.table.now _ _ _ c.in_ok-chain.ensures (sym c.checked_key_bad.ensures ∙ refuse_no 4 _ c.if-checked_key_bad.false)
    _ c.prefix_len.ensures _ (c.read_compressed.ensures ∙ ap (mark_of c.args.table.now.layout.settings) c.slot.ensures.0)
    _ (c.read_count.ensures ∙ ap (count_of c.args.table.now.layout.settings) c.slot.ensures.0)

use mathlib.Core.List.{List}
use mathlib.Core.Option.{none}
use mathlib.Core.Path.{◌≡◌, ap₂, ◌∙◌}
use Prim.Native.Nat.{ℕ}
use Rattle.std.proofs.lemmas.Result.{err_from_is_err_and}
use Rattle.definition.specs.Chains.{Parse, head_parse}
use Rattle.definition.specs.Slots.{view, count_of}
use Rattle.slots.specs.declared.layout.Layout.{Layout}
use Rattle.counts.proofs.HeadLaws.{slot_refused, head_refused, head_counted}
use Rattle.counts.proofs.check_count.Goals as goal
use Rattle.counts.proofs.check_count.Goals.{In_ok-slot}

-- the slot that was found is the table's
found : (c : In_ok-slot) (p : Parse) → p ≡ head_parse c.in_ok-slot.slot.layout.settings none 8 c.in_ok-slot.slot.bytes.now
    → let s = c.args.table.now.layout.settings in p ≡ head_parse s none 8 (view s.size c.args.table.now.bytes.now c.args.at)
found c p e = e ∙ ap₂ (λ (l : Layout) (b : List ℕ). head_parse l.settings none 8 b) c.in_ok-slot.ensures.2 c.in_ok-slot.ensures.1

pub returns-in_err-slot : goal.returns-in_err-slot
returns-in_err-slot c =
    let p = err_from_is_err_and c.from_residual.result c.from_residual.ensures.1 in
    rw (p.1, p.2) (slot_refused _ _ _ c.in_err-slot.field-0.0 c.in_err-slot.ensures)

pub returns-in_err-parse_head : goal.returns-in_err-parse_head
returns-in_err-parse_head c =
    let p = err_from_is_err_and c.from_residual-in_err-parse_head.result c.from_residual-in_err-parse_head.ensures.1 in
    rw (p.1, p.2)
    (head_refused _ _ _ c.in_ok-slot.ensures.0 c.in_err-parse_head.field-0.0
    (found (goal.at.returns-in_err-parse_head c).In_ok-slot _ c.in_err-parse_head.ensures))

pub returns : goal.returns
returns c =
    head_counted _ _ _ c.in_ok-slot.ensures.0 _ _ c.read_count.result (found (goal.at.returns c).In_ok-slot _ c.in_ok-parse_head.ensures)
    (c.read_count.ensures ∙ ap₂ (λ (l : Layout) (b : List ℕ). count_of l.settings b) c.in_ok-slot.ensures.2 c.in_ok-slot.ensures.1)

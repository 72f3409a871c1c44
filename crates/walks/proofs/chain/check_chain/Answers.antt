use mathlib.Core.List.{List}
use mathlib.Core.Path.{◌≡◌, sym, ap, ap₂, ◌∙◌, subst}
use Prim.Native.Nat.{ℕ, ◌<◌}
use Rattle.std.proofs.lemmas.Result.{err_from_is_err_and}
use Rattle.definition.specs.declared.Header.{Header}
use Rattle.definition.specs.Chains.{Parse, head_parse}
use Rattle.definition.specs.Slots.{view}
use Rattle.laws.proofs.Passed.{slot_passed}
use Rattle.slots.specs.Keys.{lent_key}
use Rattle.slots.specs.declared.layout.Layout.{Layout}
use Rattle.walks.proofs.ChainWalks.{slot_refused, head_refused, head_accepted, walk_decides}
use Rattle.walks.proofs.chain.check_chain.Goals as goal
use Rattle.walks.proofs.chain.check_chain.Goals.{In_ok-record_slot}

-- the slot that was found is the table's
found : (c : In_ok-record_slot) (p : Parse) → p ≡ head_parse c.in_ok-record_slot.field-0.layout.settings (lent_key c.args.key) 8 c.in_ok-record_slot.field-0.bytes.now
    → let s = c.args.table.now.layout.settings in p ≡ head_parse s (lent_key c.args.key) 8 (view s.size c.args.table.now.bytes.now c.args.at)
found c p e =
    e ∙ ap₂ (λ (l : Layout) (b : List ℕ). head_parse l.settings (lent_key c.args.key) 8 b) c.in_ok-record_slot.ensures.2 c.in_ok-record_slot.ensures.1

pub returns-in_err-record_slot : goal.returns-in_err-record_slot
returns-in_err-record_slot c =
    let p = err_from_is_err_and c.from_residual.result c.from_residual.ensures.1 in
    rw (p.1, p.2) (slot_refused _ _ _ _ c.in_err-record_slot.field-0.0 c.in_err-record_slot.ensures)

pub returns-in_err-start : goal.returns-in_err-start
returns-in_err-start c =
    let p = err_from_is_err_and c.from_residual-in_err-start.result c.from_residual-in_err-start.ensures.1 in
    rw (p.1, p.2)
    (head_refused _ _ _ _ c.in_ok-record_slot.ensures.0 c.in_err-start.field-0.0
    (found (goal.at.returns-in_err-start c).In_ok-record_slot _ c.in_err-start.ensures))

pub walk_chain-requires : goal.walk_chain-requires
walk_chain-requires c =
    let z = slot_passed _ _ c.in_ok-record_slot.ensures.0 in
    let a = head_accepted _ _ _ _ c.in_ok-record_slot.ensures.0 _ _ (found (goal.at.walk_chain-requires c).In_ok-record_slot _ c.in_ok-start.ensures) in
    (z.0, subst (λ (h : Header). c.args.at < h.filled) (sym c.args.table.now.own) z.1, a.0, a.1)

pub returns : goal.returns
returns c =
    walk_decides _ _ _ _ c.in_ok-record_slot.ensures.0 _ _ (found (goal.at.returns c).In_ok-record_slot _ c.in_ok-start.ensures) _ (ap (λ (h : Header). h.filled) c.args.table.now.own) c.walk_chain.result
    c.walk_chain.ensures

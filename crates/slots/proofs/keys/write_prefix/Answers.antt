use mathlib.Core.Path.{◌≡◌, ◌∙◌}
use Rattle.definition.specs.Numbers.{put}
use Rattle.definition.specs.Parts.{prefix}
use Rattle.slots.proofs.KeyLaws.{new_count, count_laid, no_count, key_laid, no_key, prefix_laid}
use Rattle.slots.proofs.keys.write_prefix.Goals.{then-s, else-s, then-s-2, else-s-2}
use Rattle.slots.proofs.keys.write_prefix.Goals as goal

pub returns : goal.returns
returns c =
    let a = c.args in
    let count : c.if-s.buf ≡ put a.buf.now 0 (new_count a.s) =
    elim c.if-s.branch [
      | then-s w ↦ count_laid a.s a.buf.now _ w.if-s.true (w.buf-is ∙ w.write.ensures)
      | else-s w ↦ no_count a.s a.buf.now _ w.if-s.false w.buf-is
    ] in
    let whole : c.if-s-2.buf ≡ put a.buf.now 0 (prefix a.s a.key.now) =
    elim c.if-s-2.branch [
      | then-s-2 w ↦ key_laid a.s a.buf.now _ a.key.now _ c.requires c.told-buf count _ _ w.if-s-2.true c.count_len-at.ensures w.buf-is w.copy_from_slice.ensures.after
      | else-s-2 w ↦ no_key a.s a.buf.now _ a.key.now _ c.requires c.told-buf count w.if-s-2.false w.buf-is
    ] in
    prefix_laid a.s a.buf.now a.key.now _ _ c.requires c.prefix_len.ensures whole

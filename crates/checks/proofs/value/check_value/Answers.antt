use mathlib.Core.Path.{sym, ◌∙◌}
use Rattle.std.proofs.Common.{arith}
use Rattle.std.proofs.lemmas.Grind.{common_steps}
use Rattle.definition.specs.Tests.{refuse, first}
use Rattle.definition.specs.Calls.{key_test, value_test}
use Rattle.checks.proofs.ValueLaws.{body_length}
use Rattle.checks.proofs.value.check_value.Goals as goal

pub returns : goal.returns
unfolding key_test value_test refuse first
returns c =
    (grind (arith, common_steps), c.parts_needed.ensures _ (body_length c.args.layout.settings _ _ (sym c.key_bad.ensures ∙ c.if-key_bad.false) ∙ cc))

use native.Mathlib.Omega.{arith}
use Prim.Native.Nat.{ℕ}
use mathlib.Core.Path.{ap₂, ◌∙◌}
use mathlib.Core.List.{List}
use mathlib.Core.Option.{Option}
use Rattle.definition.specs.declared.Settings.{Settings}
use Rattle.definition.specs.Calls.{find_fixed}
use Rattle.station.specs.Forms.{part_in}
use Rattle.station.proofs.CallLaws.{part_at, part_told}
use Rattle.station.proofs.pyltarka_read_fixed.Goals as goal

pub content_start-requires : goal.content_start-requires
content_start-requires c =
    omega (arith, part_at _ _ _ _ c.in-Ok.is c.find_fixed.ensures)

pub returns-in-Ok : goal.returns-in-Ok
returns-in-Ok c =
    let a = c.args in
    part_told _ _ _ _ c.in-Ok.is c.find_fixed.ensures _ c.content_start.ensures
    ∙ ap₂ (λ (s : Settings) (key : Option (List ℕ)). part_in s a.slot (find_fixed s key a.slot a.table.now)) c.from-own.ensures c.key_if.ensures

-- The key that a call checks, if it checks one.
use Rattle.std.specs.Prelude.{List, ℕ, Option, Some, None}
use Rattle.std.specs.Borrow.{Bor}
use Rattle.std.proofs.Math.Option.{Option as Maybe, none, some}

-- as the definition has it: its bytes, or none
abbrev pub lent_key : Option (Bor (List ℕ)) → Maybe (List ℕ)
lent_key None = none
lent_key (Some key) = some key.now

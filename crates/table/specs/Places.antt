-- A part of lent bytes that is lent on: in the same memory, so many bytes after the start.
use Rattle.std.specs.Prelude.{◌≡◌, List, ℕ, ◌+◌}
use Rattle.std.specs.Borrow.{Bor}

-- `part` lies in `whole`, from place n on
abbrev pub LiesAt : Bor (List ℕ) → Bor (List ℕ) → ℕ → Type 0
LiesAt part whole n = (part.ref_ptr.0 ≡ whole.ref_ptr.0) × (part.ref_ptr.1 ≡ whole.ref_ptr.1 + n)

-- What a chain holds, prefix and content joined.
use Rattle.std.specs.Prelude.{List, ℕ, ◌++◌}
use Rattle.writer.specs.declared.body.Body.{Body}

-- the bytes of both, one after the other
abbrev pub body_of : Body → List ℕ
body_of b = b.prefix.now ++ b.content.now

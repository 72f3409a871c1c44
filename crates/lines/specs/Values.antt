-- What stands for bytes that are too many to write.
use Rattle.std.specs.Prelude.{ℕ, ◌+◌, ◌*◌, ◌%◌, List, fold}

-- the sum with one more byte in it
abbrev pub sum_with : ℕ → ℕ → ℕ
sum_with sum byte = (sum % 4294967291 * 257 + byte + 1) % 4294967291

-- each byte in turn, from 0 on
abbrev pub sum_of : List ℕ → ℕ
sum_of bytes = fold sum_with 0 bytes

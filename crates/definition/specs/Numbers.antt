-- Numbers as bytes, and bytes laid over others. Document 01, "Slots": all numbers little endian.
-- A byte is a number below 256; a table, a slot and a content are lists of them.
use Rattle.std.specs.Prelude.{ℕ, zero, suc, ◌+◌, ◌*◌, ◌/◌, ◌%◌, Bool, true, false, ◌&&◌, List, [], ◌∷◌, ◌++◌, length, take, drop, eqb}

-- the number that these bytes spell, the lowest first
unfoldable pub le : List ℕ → ℕ
le [] = 0
le (b ∷ bs) = b + 256 * le bs

-- the k lowest bytes of n, the lowest first
unfoldable pub bytes : ℕ → ℕ → List ℕ
bytes zero n = []
bytes (suc k) n = n % 256 ∷ bytes k (n / 256)

-- the number that the k bytes from place at on spell
unfoldable pub num : ℕ → ℕ → List ℕ → ℕ
num at k b = le (take k (drop at b))

-- bs laid over the front of old; what old has past them stays
unfoldable pub over : List ℕ → List ℕ → List ℕ
over bs old = bs ++ drop (length bs) old

-- t with bs stored from place at on
unfoldable pub put : List ℕ → ℕ → List ℕ → List ℕ
put t at bs = take at t ++ over bs (drop at t)

-- are these the same bytes
unfoldable pub same_bytes : List ℕ → List ℕ → Bool
same_bytes [] [] = true
same_bytes [] (y ∷ ys) = false
same_bytes (x ∷ xs) [] = false
same_bytes (x ∷ xs) (y ∷ ys) = eqb x y && same_bytes xs ys

-- k slot numbers from n up: n, n + 1, ..
unfoldable pub range : ℕ → ℕ → List ℕ
range n zero = []
range n (suc k) = n ∷ range (suc n) k

-- Slots. Document 01, "Slots": the header, the marks, and what each kind of slot holds and where.
-- Beside each definition stands what the layout comment of table.rs (lines 4 to 45) says of it, in our words or, in quotation marks, its own,
-- and who overrules it.
-- A table is seen through its slots: from here on nothing reads a table but by `view`.
use Rattle.std.specs.Prelude.{ℕ, ◌+◌, ◌-◌, ◌*◌, ◌%◌, Bool, cond, ◌||◌, not, List, [], ◌∷◌, take, drop, eqb, leb}
use Rattle.definition.specs.declared.Settings.{Settings}
use Rattle.definition.specs.declared.Header.{Header}
use Rattle.definition.specs.Numbers.{num, put, same_bytes}
use Rattle.definition.specs.Settings.{word_bytes, link_bytes, total_bytes, count_bytes, key_bytes, hash_skip, count_len, key_len, head_overhead, start_overhead}

-- a table as its slots: the bytes of each
abbrev pub View : Type 0
View = ℕ → List ℕ

-- slot i of a table with entries of E bytes
unfoldable pub view : ℕ → List ℕ → View
view E t = λ i. take E (drop (i * E) t)

-- ---- entry 0: [LAST_REMOVED: 8][FILLED: 8]

-- "index of removed entries linked list head": the first free slot, 0 if there is none
unfoldable pub last_removed : View → ℕ
last_removed f = num 0 link_bytes (f 0)

-- the comment says "highest index filled"; the code makes it the next unused one, and 01 lets the code decide. A stored 0 reads as 1
unfoldable pub filled : View → ℕ
filled f = let n = num link_bytes link_bytes (f 0) in cond (eqb n 0) 1 n

-- both
abbrev pub header_of : View → Header
header_of f = record { removed = last_removed f; filled = filled f }

-- ---- marks: pairs of bytes at the start of a slot

-- TOMBSTONE, 0xffff: a deleted entry
abbrev pub free_mark : List ℕ
free_mark = 0xff ∷ 0xff ∷ []

-- MULTIPART, 0xfffe: a continuation
abbrev pub continuation_mark : List ℕ
continuation_mark = 0xfe ∷ 0xff ∷ []

-- MULTIHEAD, 0xfffd: a head
abbrev pub head_mark : List ℕ
head_mark = 0xfd ∷ 0xff ∷ []

-- a compressed head, 0x7ffd: the comment leaves it out, the code has it, and so has 01
abbrev pub compressed_mark : List ℕ
compressed_mark = 0xfd ∷ 0x7f ∷ []

-- does a slot with these bytes start with this mark
unfoldable pub marked : List ℕ → List ℕ → Bool
marked mark b = same_bytes (take word_bytes b) mark

unfoldable pub is_free : List ℕ → Bool
is_free b = marked free_mark b

unfoldable pub is_continuation : List ℕ → Bool
is_continuation b = marked continuation_mark b

unfoldable pub is_head : List ℕ → Bool
is_head b = marked head_mark b || marked compressed_mark b

-- ---- complete entry, 01's plain slot: [SIZE: 2][REFS: 4][KEY: 26][VALUE], and the last part: [SIZE: 2][VALUE: SIZE]

unfoldable pub size_word : List ℕ → ℕ
size_word b = num 0 word_bytes b

-- "15-bit value size", REFS and KEY included: the low 15 bits
unfoldable pub size_of : List ℕ → ℕ
size_of b = size_word b % 0x8000

-- "the highest bit": the compressed mark
unfoldable pub top_bit : List ℕ → Bool
top_bit b = leb 0x8000 (size_word b)

-- ---- partial entry, first part, 01's head: [MULTIHEAD: 2][SIZE: 8][NEXT: 8][REFS: 4][KEY: 26][VALUE]

-- "64-bit total size of the value": it counts content only, no prefix
unfoldable pub total_of : List ℕ → ℕ
total_of b = num word_bytes total_bytes b

-- NEXT of a head: the link that ends where the prefix begins
unfoldable pub head_link : Settings → List ℕ → ℕ
head_link s b = num (head_overhead s - link_bytes) link_bytes b

-- ---- partial entry, continuation: [MULTIPART: 2][NEXT: 8][VALUE], and deleted entry, 01's free slot: [TOMBSTONE: 2][NEXT: 8]

-- NEXT of either
unfoldable pub link_of : List ℕ → ℕ
link_of b = num word_bytes link_bytes b

-- ---- what stands at the start of a chain

-- does a chain start here: at a head's mark, on a fixed table at every slot not marked free
unfoldable pub starts : Settings → List ℕ → Bool
starts s b = cond s.multipart (is_head b) (not (is_free b))

-- REFS, "optional": the count, 1 if the table is uncounted
unfoldable pub count_of : Settings → List ℕ → ℕ
count_of s b = cond s.counted (num (start_overhead s) count_bytes b) 1

-- KEY, "lower 26 bytes": the partial key, no bytes if the table is unkeyed
unfoldable pub key_of : Settings → List ℕ → List ℕ
key_of s b = take (key_len s) (drop (start_overhead s + count_len s) b)

-- the compressed mark: in a head's mark, or in the size word's top bit
unfoldable pub mark_of : Settings → List ℕ → Bool
mark_of s b = cond s.multipart (marked compressed_mark b) (top_bit b)

-- the body of such a slot: all of a head, of a plain slot the size word and as many bytes as it counts
unfoldable pub start_body : Settings → List ℕ → List ℕ
start_body s b = cond s.multipart b (take (word_bytes + size_of b) b)

-- the partial key of a 32-byte hash: its bytes 6 to 31
unfoldable pub partial_key : List ℕ → List ℕ
partial_key key = take key_bytes (drop hash_skip key)

-- ---- stores

-- a store: a slot's number, and the bytes laid over the slot's front. Nothing is ever stored in another way
abbrev pub Store : Type 0
Store = ℕ × List ℕ

-- a table of entries of E bytes after these stores, one after another
unfoldable pub store : ℕ → List ℕ → List Store → List ℕ
store E t [] = t
store E t (w ∷ ws) = store E (put t (w.0 * E) w.1) ws

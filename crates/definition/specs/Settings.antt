-- A table's settings and the sizes that follow from them. Document 01, "Slots", the paragraph on settings, and refusal 1.
-- No offset below is a literal: all go through these lengths, the entry size and the head's overhead.
use Rattle.std.specs.Prelude.{ℕ, ◌+◌, Bool, cond, ◌&&◌, ◌||◌, not, eqb, ltb}
use Rattle.definition.specs.declared.Settings.{Settings}

-- the bytes of a size word or mark, of a link or a slot number, of a content length, of a count, of a partial key, of a whole key
abbrev pub word_bytes : ℕ
word_bytes = 2

abbrev pub link_bytes : ℕ
link_bytes = 8

abbrev pub total_bytes : ℕ
total_bytes = 8

abbrev pub count_bytes : ℕ
count_bytes = 4

abbrev pub key_bytes : ℕ
key_bytes = 26

abbrev pub hash_bytes : ℕ
hash_bytes = 32

-- what is left out of the hash: its bytes 0 to 5
abbrev pub hash_skip : ℕ
hash_skip = 6

-- the bytes of the count, of the key, and of the prefix that they make
unfoldable pub count_len : Settings → ℕ
count_len s = cond s.counted count_bytes 0

unfoldable pub key_len : Settings → ℕ
key_len s = cond s.keyed key_bytes 0

unfoldable pub prefix_len : Settings → ℕ
prefix_len s = count_len s + key_len s

-- a head's bytes before its prefix: mark, content length, link
unfoldable pub head_overhead : Settings → ℕ
head_overhead s = word_bytes + total_bytes + link_bytes

-- a continuation's bytes before its content: mark, link. A free slot is these alone
abbrev pub link_overhead : ℕ
link_overhead = word_bytes + link_bytes

-- the bytes before the prefix in the slot where a chain starts: a head's, or a plain slot's size word
unfoldable pub start_overhead : Settings → ℕ
start_overhead s = cond s.multipart (head_overhead s) word_bytes

-- the entry sizes, and the one of a multipart table
abbrev pub least_size : ℕ
least_size = 32

abbrev pub largest_size : ℕ
largest_size = 32760

abbrev pub multipart_size : ℕ
multipart_size = 4096

-- refusal 1: E below 32 or above 32,760; multipart with E not 4,096
unfoldable pub bad_settings : Settings → Bool
bad_settings s = ltb s.size least_size || (ltb largest_size s.size || (s.multipart && not (eqb s.size multipart_size)))

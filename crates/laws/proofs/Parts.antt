-- What is written is read back, once over E and over the head's overhead: pieces are cut so that joined they are the body
-- (`cut_rest_joins`), and each kind of part, laid over a slot, has its mark, link, total, size and piece, and its length.
use mathlib.Core.Path.{◌≡◌, refl, sym, ap, ◌∙◌}
use Prim.Native.Nat.{ℕ, zero, suc, ◌+◌, ◌-◌, ◌%◌, ◌^◌, ◌≤◌, ◌<◌}
use native.Mathlib.Omega.{arith}
use mathlib.Core.Bool.{Bool, true, false, cond}
use mathlib.Core.List.{List, [], ◌∷◌, ◌++◌, append-nil}
use lib.ListN.{length, take, drop, length-drop, take-append-drop}
use lib.Seq.{take-append_seam, length-take-le, take-take, drop-drop}
use lib.Dec.{leb}
use borrow.Author.Tests.{le-leb, lt-leb, leb-true, leb-false}
use Rattle.definition.specs.declared.Settings.{Settings}
use Rattle.definition.specs.Numbers.{le, bytes, num, over, same_bytes}
use Rattle.definition.specs.Settings.{word_bytes, link_bytes, total_bytes, count_bytes, key_bytes, link_overhead, count_len, key_len, prefix_len, head_overhead, start_overhead}
use Rattle.definition.specs.Slots.{compressed_mark, marked, is_continuation, is_head, size_word, size_of, top_bit, total_of, head_link, link_of, count_of, key_of, partial_key}
use Rattle.definition.specs.Chains.{sized_body}
use Rattle.definition.specs.Parts.{prefix, cut_rest, cut, pieces, sized_part, continuation_part, stored_total, head_part, free_slot}
use Rattle.definition.specs.Effect.{header_store}
use Rattle.laws.proofs.Conditions.{cond_yes, cond_no, which, Which, is_yes, is_no}
use Rattle.laws.proofs.Lists.{drop_take, drop_past}
use Rattle.laws.proofs.Bytes.{le_bytes}

-- ---- cutting

-- pieces one after another
unfoldable pub join : List (List ℕ) → List ℕ
join [] = []
join (p ∷ ps) = p ++ join ps

-- pieces of later parts: all but the last fill their slots
abbrev pub Shaped : ℕ → List (List ℕ) → Type 0
Shaped E [] = ⊥
Shaped E (p ∷ []) = length p ≤ E - word_bytes
Shaped E (p ∷ q ∷ ps) = (length p ≡ E - link_overhead) × Shaped E (q ∷ ps)

shaped_cons : (E : ℕ) (p : List ℕ) (ps : List (List ℕ)) → length p ≡ E - link_overhead → Shaped E ps → Shaped E (p ∷ ps)
shaped_cons E p [] e h = absurd h
shaped_cons E p (q ∷ ps) e h = (e, h)

-- a rest that fits a last part is one, a longer one gives a continuation first
pub cut_rest_last : (E n : ℕ) (b : List ℕ) → length b ≤ E - word_bytes → cut_rest E n b ≡ b ∷ []
unfolding cut_rest
cut_rest_last E zero b h = refl
cut_rest_last E (suc n) b h = cond_yes (leb (length b) (E - word_bytes)) _ _ (le-leb (length b) (E - word_bytes) h)

pub cut_rest_more : (E n : ℕ) (b : List ℕ) → E - word_bytes < length b → cut_rest E (suc n) b ≡ take (E - link_overhead) b ∷ cut_rest E n (drop (E - link_overhead) b)
unfolding cut_rest
cut_rest_more E n b h = cond_no (leb (length b) (E - word_bytes)) _ _ (lt-leb (length b) (E - word_bytes) h)

-- the pieces have their shape, and joined they are the body
pub cut_rest_joins : (E n : ℕ) (b : List ℕ) → link_overhead < E → length b ≤ n → Shaped E (cut_rest E n b) × (join (cut_rest E n b) ≡ b)
unfolding join
cut_rest_joins E zero b hE h = rw (cut_rest_last E 0 b (omega arith)) (omega arith, append-nil b)
cut_rest_joins E (suc n) b hE h = go (cut_rest_joins E n (drop (E - link_overhead) b) hE) (which (leb (length b) (E - word_bytes)))
  where
    go : (length (drop (E - link_overhead) b) ≤ n → Shaped E (cut_rest E n (drop (E - link_overhead) b)) × (join (cut_rest E n (drop (E - link_overhead) b)) ≡ drop (E - link_overhead) b))
        → Which (leb (length b) (E - word_bytes)) → Shaped E (cut_rest E (suc n) b) × (join (cut_rest E (suc n) b) ≡ b)
    go more (is_yes y) = let k = leb-true (length b) (E - word_bytes) y in rw (cut_rest_last E (suc n) b k) (k, append-nil b)
    go more (is_no y) =
        let big : E - word_bytes < length b = leb-false (length b) (E - word_bytes) y in
        let r = more (rw length-drop (omega arith)) in
        rw (cut_rest_more E n b big) (
          shaped_cons E (take (E - link_overhead) b) (cut_rest E n (drop (E - link_overhead) b)) (length-take-le (E - link_overhead) b (omega arith)) r.0,
          ap (λ (l : List ℕ). take (E - link_overhead) b ++ l) r.1 ∙ take-append-drop (E - link_overhead) b,
        )

pub pieces_fixed : (s : Settings) (b : List ℕ) → s.multipart ≡ false → pieces s b ≡ b ∷ []
unfolding pieces
pieces_fixed s b m = cond_no s.multipart _ _ m

pub pieces_multi : (s : Settings) (b : List ℕ) → s.multipart ≡ true
    → pieces s b ≡ take (s.size - head_overhead s) b ∷ cut_rest s.size (length b) (drop (s.size - head_overhead s) b)
unfolding pieces cut
pieces_multi s b m = cond_yes s.multipart _ _ m

-- there is always a piece
pub pieces_some : (s : Settings) (b : List ℕ) → 0 < length (pieces s b)
pieces_some s b = go (which s.multipart)
  where
    go : Which s.multipart → 0 < length (pieces s b)
    go (is_yes m) = rw (pieces_multi s b m) (omega arith)
    go (is_no m) = rw (pieces_fixed s b m) (omega arith)

-- ---- continuations

pub length_continuation : (n : ℕ) (p : List ℕ) → length (continuation_part n p) ≡ link_overhead + length p
unfolding continuation_part bytes
length_continuation n p = omega arith

pub continuation_mark_lem : (n : ℕ) (p old : List ℕ) → is_continuation (over (continuation_part n p) old) ≡ true
unfolding is_continuation marked same_bytes over continuation_part bytes
continuation_mark_lem n p old = refl

pub continuation_link : (n : ℕ) (p old : List ℕ) → n < 256 ^ link_bytes → link_of (over (continuation_part n p) old) ≡ n
unfolding link_of num over continuation_part bytes
continuation_link n p old h = le_bytes link_bytes n h

-- a full continuation's bytes after the link are its piece
pub continuation_body : (E n : ℕ) (p old : List ℕ) → link_overhead < E → length p ≡ E - link_overhead → length old ≡ E
    → drop link_overhead (over (continuation_part n p) old) ≡ p
unfolding over continuation_part bytes
continuation_body E n p old hE hp ho = drop_past p old (length (continuation_part n p)) (omega arith)

-- ---- plain slots and last parts

pub length_sized : (m : Bool) (p : List ℕ) → length (sized_part m p) ≡ word_bytes + length p
unfolding sized_part bytes
length_sized m p = omega arith

top_bit_lem : (m : Bool) (n : ℕ) → n < 0x8000 → (n + cond m 0x8000 0 < 65536) × ((n + cond m 0x8000 0) % 0x8000 ≡ n) × (leb 0x8000 (n + cond m 0x8000 0) ≡ m)
top_bit_lem true n h = (omega arith, omega arith, le-leb 0x8000 (n + 0x8000) (omega arith))
top_bit_lem false n h = (omega arith, omega arith, lt-leb 0x8000 (n + 0) (omega arith))

module _ (m : Bool) (p old : List ℕ) (h : length p < 0x8000) where
  pub sized_word : size_word (over (sized_part m p) old) ≡ length p + cond m 0x8000 0
  unfolding size_word num over sized_part bytes
  sized_word = le_bytes word_bytes (length p + cond m 0x8000 0) (top_bit_lem m (length p) h).0

  pub sized_size : size_of (over (sized_part m p) old) ≡ length p
  unfolding size_of
  sized_size = rw sized_word (top_bit_lem m (length p) h).1

  pub sized_top : top_bit (over (sized_part m p) old) ≡ m
  unfolding top_bit
  sized_top = rw sized_word (top_bit_lem m (length p) h).2

  pub sized_body_lem : sized_body (over (sized_part m p) old) ≡ p
  unfolding sized_body over sized_part bytes
  sized_body_lem = ap (λ (k : ℕ). take k (drop word_bytes (over (sized_part m p) old))) sized_size ∙ take-append_seam p _

pub sized_front : (m : Bool) (p old : List ℕ) → drop word_bytes (over (sized_part m p) old) ≡ p ++ drop (length (sized_part m p)) old
unfolding over sized_part bytes
sized_front m p old = refl

-- ---- heads

pub length_head : (s : Settings) (m : Bool) (total n : ℕ) (p : List ℕ) → length (head_part s m total n p) ≡ head_overhead s + length p
unfolding head_overhead head_part stored_total bytes
length_head s true total n p = omega arith
length_head s false total n p = omega arith

pub head_mark_lem : (s : Settings) (m : Bool) (total n : ℕ) (p old : List ℕ) → is_head (over (head_part s m total n p) old) ≡ true
unfolding is_head marked same_bytes over head_part stored_total bytes
head_mark_lem s true total n p old = refl
head_mark_lem s false total n p old = refl

pub head_compressed : (s : Settings) (m : Bool) (total n : ℕ) (p old : List ℕ) → marked compressed_mark (over (head_part s m total n p) old) ≡ m
unfolding marked same_bytes over head_part stored_total bytes
head_compressed s true total n p old = refl
head_compressed s false total n p old = refl

pub head_total : (s : Settings) (m : Bool) (total n : ℕ) (p old : List ℕ) → total < 256 ^ total_bytes → total_of (over (head_part s m total n p) old) ≡ total
unfolding total_of num over head_part stored_total bytes
head_total s true total n p old h = le_bytes total_bytes total h
head_total s false total n p old h = le_bytes total_bytes total h

pub head_link_lem : (s : Settings) (m : Bool) (total n : ℕ) (p old : List ℕ) → n < 256 ^ link_bytes → head_link s (over (head_part s m total n p) old) ≡ n
unfolding head_link head_overhead num over head_part stored_total bytes
head_link_lem s true total n p old h = le_bytes link_bytes n h
head_link_lem s false total n p old h = le_bytes link_bytes n h

-- a full head's bytes after its overhead are its piece
pub head_body : (s : Settings) (m : Bool) (E total n : ℕ) (p old : List ℕ) → head_overhead s < E → length p ≡ E - head_overhead s → length old ≡ E
    → drop (head_overhead s) (over (head_part s m total n p) old) ≡ p
unfolding head_overhead over head_part stored_total bytes
head_body s true E total n p old hE hp ho = drop_past p old (length (head_part s true total n p)) (omega arith)
head_body s false E total n p old hE hp ho = drop_past p old (length (head_part s false total n p)) (omega arith)

-- ---- free slots and the header

pub length_free : (n : ℕ) → length (free_slot n) ≡ link_overhead
unfolding free_slot bytes
length_free n = refl

pub length_header : (removed F : ℕ) → length (header_store removed F).1 ≡ link_bytes + link_bytes
unfolding header_store bytes
length_header removed F = refl

-- ---- the prefix read back

-- bytes that begin with a prefix hold a count of 1, if any, and the key, if any
count_read : (c k : Bool) (key b : List ℕ) → take (cond c count_bytes 0 + cond k key_bytes 0) b ≡ cond c (bytes count_bytes 1) [] ++ cond k key []
    → cond c (le (take count_bytes b)) 1 ≡ 1
unfolding bytes le
count_read true true key b e = ap le (sym (take-take count_bytes (count_bytes + key_bytes) b (omega arith)) ∙ ap (take count_bytes) e)
count_read true false key b e = ap le e
count_read false k key b e = refl

key_read : (c k : Bool) (key b : List ℕ) → take (cond c count_bytes 0 + cond k key_bytes 0) b ≡ cond c (bytes count_bytes 1) [] ++ cond k key []
    → take (cond k key_bytes 0) (drop (cond c count_bytes 0) b) ≡ cond k key []
unfolding bytes
key_read true true key b e = sym (drop_take count_bytes (count_bytes + key_bytes) b) ∙ ap (drop count_bytes) e
key_read true false key b e = refl
key_read false true key b e = e
key_read false false key b e = refl

module _ (s : Settings) (b key : List ℕ) (e : take (prefix_len s) (drop (start_overhead s) b) ≡ prefix s key) where
  pub prefix_count : count_of s b ≡ 1
  unfolding prefix_len count_len key_len prefix count_of num
  prefix_count = count_read s.counted s.keyed (partial_key key) (drop (start_overhead s) b) e

  pub prefix_key : key_of s b ≡ cond s.keyed (partial_key key) []
  unfolding prefix_len count_len key_len prefix key_of
  prefix_key =
      ap (take (cond s.keyed key_bytes 0)) (sym (drop-drop (cond s.counted count_bytes 0) (start_overhead s) b))
      ∙ key_read s.counted s.keyed (partial_key key) (drop (start_overhead s) b) e

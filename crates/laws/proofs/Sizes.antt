-- What passed tests say of lengths: of good settings (`sizes`), of a key (`length_prefix`), of a value (`fixed_fits`, `multi_fits`),
-- of the room (`room_fits`), and that a slot below the capacity lies whole in the table (`slot_inside`, `slot_whole`).
use mathlib.Core.Path.{◌≡◌, refl, sym, ap₂, ◌∙◌}
use Prim.Native.Nat.{ℕ, ◌+◌, ◌-◌, ◌*◌, ◌/◌, ◌≤◌, ◌<◌}
use native.Mathlib.Nat.{le_trans, mul-le-mul_right, div-mul-le_self, div-le_self}
use native.Mathlib.Omega.{arith}
use mathlib.Core.Bool.{Bool, true, false, cond, ◌&&◌, not}
use mathlib.Core.List.{List, []}
use lib.ListN.{length, length-append}
use lib.Dec.{eqb, leb, ltb}
use borrow.Author.Tests.{eqb-true, leb-false, ltb-false, not-false}
use Rattle.definition.specs.declared.Settings.{Settings}
use Rattle.definition.specs.Numbers.{bytes}
use Rattle.definition.specs.Settings.{word_bytes, count_bytes, key_bytes, hash_bytes, hash_skip, count_len, key_len, prefix_len, head_overhead, least_size, largest_size, multipart_size, bad_settings}
use Rattle.definition.specs.Slots.{view, partial_key}
use Rattle.definition.specs.Parts.{prefix}
use Rattle.definition.specs.Effect.{filled_after}
use Rattle.definition.specs.Calls.{capacity, key_test, value_test, room_test}
use Rattle.laws.proofs.Conditions.{cond_yes, cond_no, no_or}
use Rattle.laws.proofs.Tests.{passed}
use Rattle.laws.proofs.Lists.{length_part}
use Rattle.laws.proofs.Bytes.{length_bytes}
use Rattle.laws.proofs.Views.{within, length_view}

-- ---- settings

-- the sizes of good settings: a head has room for its prefix and more
pub record Sizes (s : Settings) : Type 0 where
  pub least : least_size ≤ s.size
  pub largest : s.size ≤ largest_size
  pub roomy : s.multipart ≡ true → head_overhead s + prefix_len s < s.size

-- the prefix has at most the bytes of a count and of a key
pub prefix_most : (s : Settings) → prefix_len s ≤ count_bytes + key_bytes
unfolding prefix_len count_len key_len
prefix_most s = go s.counted s.keyed
  where
    go : (c k : Bool) → cond c count_bytes 0 + cond k key_bytes 0 ≤ count_bytes + key_bytes
    go true true = omega arith
    go true false = omega arith
    go false true = omega arith
    go false false = omega arith

pub sizes : (s : Settings) → bad_settings s ≡ false → Sizes s
unfolding bad_settings head_overhead
sizes s e =
    let a = no_or (ltb s.size least_size) _ e in
    let b = no_or (ltb largest_size s.size) _ a.1 in
    record {
      least = ltb-false s.size least_size a.0;
      largest = ltb-false largest_size s.size b.0;
      roomy = λ m. omega (arith, prefix_most s, size_is s.multipart s.size m b.1);
    }
  where
    size_is : (m : Bool) (E : ℕ) → m ≡ true → (m && not (eqb E multipart_size)) ≡ false → E ≡ multipart_size
    size_is true E p q = eqb-true E multipart_size (not-false (eqb E multipart_size) q)
    size_is false E p q = absurd (let z : ◌≡◌ {A = ℕ} 0 1 = cc in omega arith)

-- ---- key and value

-- a key that passed is 32 bytes long where it is used, so the prefix has its length
pub length_prefix : (s : Settings) (key : List ℕ) → key_test s key ≡ 0 → length (prefix s key) ≡ prefix_len s
unfolding key_test prefix prefix_len count_len key_len partial_key
length_prefix s key e =
    length-append (cond s.counted (bytes count_bytes 1) []) (cond s.keyed (partial_key key) [])
    ∙ ap₂ (λ (m n : ℕ). m + n) (count s.counted) (keys s.keyed (passed 4 (s.keyed && not (eqb (length key) hash_bytes)) (omega arith) e))
  where
    count : (c : Bool) → length (cond c (bytes count_bytes 1) []) ≡ cond c count_bytes 0
    count true = length_bytes count_bytes 1
    count false = refl

    whole : length key ≡ hash_bytes → length (partial_key key) ≡ key_bytes
    whole h = length_part key hash_skip key_bytes (omega arith)

    keys : (k : Bool) → (k && not (eqb (length key) hash_bytes)) ≡ false → length (cond k (partial_key key) []) ≡ cond k key_bytes 0
    keys true h = whole (eqb-true (length key) hash_bytes (not-false (eqb (length key) hash_bytes) h))
    keys false h = refl

module _ (s : Settings) (content : List ℕ) (e : value_test s content ≡ 0) where
  tested : cond s.multipart (leb (prefix_len s + length content) (s.size - word_bytes)) (ltb (s.size - word_bytes) (prefix_len s + length content)) ≡ false
  unfolding value_test
  tested = passed 6 _ (omega arith) e

  -- a value that passed fits a plain slot of a fixed table
  pub fixed_fits : s.multipart ≡ false → prefix_len s + length content ≤ s.size - word_bytes
  fixed_fits m = ltb-false (s.size - word_bytes) (prefix_len s + length content) (sym (cond_no s.multipart _ _ m) ∙ tested)

  -- and fits none of a multipart one
  pub multi_fits : s.multipart ≡ true → s.size - word_bytes < prefix_len s + length content
  multi_fits m = leb-false (prefix_len s + length content) (s.size - word_bytes) (sym (cond_yes s.multipart _ _ m) ∙ tested)

-- ---- room

-- room for the new slots: FILLED afterwards is within the capacity
pub room_fits : (cap F : ℕ) (old free : List ℕ) (n : ℕ) → F ≤ cap → room_test cap F free (n - length old) ≡ 0 → filled_after old free F n ≤ cap
unfolding room_test filled_after
room_fits cap F old free n h e =
    omega (arith, ltb-false (length free + (cap - F)) (n - length old) (passed 12 (ltb (length free + (cap - F)) (n - length old)) (omega arith) e))

-- ---- slots below the capacity

module _ (s : Settings) (t : List ℕ) where
  pub slot_inside : (i : ℕ) → i < capacity s t → i * s.size + s.size ≤ length t
  unfolding capacity
  slot_inside i h = within s.size i (length t / s.size) (length t) h (div-mul-le_self (length t) s.size)

  -- and so do as many slots as it has
  pub slots_inside : (F : ℕ) → F ≤ capacity s t → F * s.size ≤ length t
  unfolding capacity
  slots_inside F h = le_trans (mul-le-mul_right s.size h) (div-mul-le_self (length t) s.size)

  pub slot_whole : (i : ℕ) → i < capacity s t → length (view s.size t i) ≡ s.size
  slot_whole i h = length_view s.size i t (slot_inside i h)

  pub capacity_small : (n : ℕ) → length t < n → capacity s t < n
  unfolding capacity
  capacity_small n h = omega (arith, div-le_self (length t) s.size)

  pub capacity_same : (u : List ℕ) → length u ≡ length t → capacity s u ≡ capacity s t
  unfolding capacity
  capacity_same u e = rw e refl

-- The partial key: compared by words it is the same exactly where its 26 bytes are, and the prefix of a new record is what the
-- writer lays down of it.
use mathlib.Core.Path.{◌≡◌, refl, sym, ap, ◌∙◌}
use mathlib.Core.Bool.{Bool, true, false, ◌&&◌, not, cond}
use mathlib.Core.List.{List, [], ◌++◌, append-nil}
use Prim.Native.Nat.{ℕ, ◌+◌, ◌-◌, ◌≤◌}
use native.Mathlib.Nat.{add-zero}
use native.Mathlib.Omega.{arith}
use borrow.Rule.Slice.PartMut.{put_mid}
use lib.Dec.{eqb}
use lib.ListN.{length, take, drop}
use lib.Seq.{take-add, take-take, drop-drop, take-append_seam}
use borrow.Author.Tests.{eqb-true, eq-eqb, not-false}
use Rattle.std.specs.Prelude.{Option, Some, None}
use Rattle.std.specs.Borrow.{Bor}
use Rattle.definition.specs.declared.Settings.{Settings}
use Rattle.definition.specs.Numbers.{le, bytes, num, over, put, same_bytes}
use Rattle.definition.specs.Settings.{count_len, key_len, prefix_len, start_overhead, bad_settings}
use Rattle.definition.specs.Slots.{key_of, partial_key}
use Rattle.definition.specs.Chains.{key_differs}
use Rattle.definition.specs.Parts.{prefix}
use Rattle.definition.specs.Calls.{key_test, checked_key_test}
use Rattle.entry.specs.declared.PartialKey.{PartialKey}
use Rattle.entry.specs.Reading.{key_at}
use Rattle.slots.specs.Keys.{lent_key}
use Rattle.laws.proofs.Conditions.{and_left, and_skip, yes-no, and_split, cond_yes, cond_no, cond_of}
use Rattle.laws.proofs.Tests.{passed}
use Rattle.laws.proofs.Lists.{drop_take, length_part}
use Rattle.laws.proofs.Bytes.{AllBytes, num_same, length_bytes}
use Rattle.laws.proofs.Sizes.{length_prefix}
use Rattle.laws.proofs.Puts.{lent, put_next, put_none}
use Rattle.laws.proofs.Marks.{same_bytes_refl, same_bytes_eq}
use Rattle.laws.proofs.Overheads.{count_most, start_fits, start_most}

-- two tests that say the same
same_truth : (a b : Bool) → (a ≡ true → b ≡ true) → (b ≡ true → a ≡ true) → a ≡ b
same_truth true b f g = sym (f refl)
same_truth false true f g = g refl
same_truth false false f g = refl

-- ---- 26 bytes compared by words

-- a part of a part
inner : (l : List ℕ) (at n o k : ℕ) → o + k ≤ n → take k (drop o (take n (drop at l))) ≡ take k (drop (at + o) l)
inner l at n o k h = ap (take k) (drop_take o n (drop at l)) ∙ take-take k (n - o) (drop o (drop at l)) (omega arith) ∙ ap (take k) (drop-drop o at l)

-- 26 bytes are three words and two bytes
front_words : (l : List ℕ) → take 26 l ≡ take 8 l ++ (take 8 (drop 8 l) ++ (take 8 (drop 16 l) ++ take 2 (drop 24 l)))
front_words l =
    take-add 8 18 l
    ∙ ap (λ (r : List ℕ). take 8 l ++ r)
    (take-add 8 10 (drop 8 l)
    ∙ ap (λ (r : List ℕ). take 8 (drop 8 l) ++ r)
    (ap (take 10) (drop-drop 8 8 l) ∙ take-add 8 2 (drop 16 l) ∙ ap (λ (r : List ℕ). take 8 (drop 16 l) ++ take 2 r) (drop-drop 8 16 l)))

words : (l : List ℕ) (at : ℕ)
    → take 26 (drop at l) ≡ take 8 (drop at l) ++ (take 8 (drop (at + 8) l) ++ (take 8 (drop (at + 16) l) ++ take 2 (drop (at + 24) l)))
words l at = front_words (drop at l) ∙ rw (drop-drop 8 at l, drop-drop 16 at l, drop-drop 24 at l)

part_num : (l : List ℕ) (at o k : ℕ) → o + k ≤ 26 → num (at + o) k l ≡ num o k (take 26 (drop at l))
unfolding num
part_num l at o k h = ap le (sym (inner l at 26 o k h))

-- the words read at a place are those of the 26 bytes there
words_of : (at : ℕ) (l : List ℕ) → key_at at l ≡ key_at 0 (take 26 (drop at l))
words_of at l =
    let first : num at 8 l ≡ num 0 8 (take 26 (drop at l)) = rw add-zero at (part_num l at 0 8 (omega arith)) in
    let second = part_num l at 8 8 (omega arith) in
    let third = part_num l at 16 8 (omega arith) in
    let last = part_num l at 24 2 (omega arith) in
    λ i. record { first = first i; second = second i; third = third i; last = last i }

-- the comparison of two keys, word by word
abbrev pub same : PartialKey → PartialKey → Bool
same k l = eqb k.first l.first && (eqb k.second l.second && (eqb k.third l.third && eqb k.last l.last))

same_refl : (k : PartialKey) → same k k ≡ true
same_refl k = rw (eq-eqb k.first k.first refl, eq-eqb k.second k.second refl, eq-eqb k.third k.third refl, eq-eqb k.last k.last refl) refl

all_words : (k l : PartialKey) → same k l ≡ true → (k.first ≡ l.first) × ((k.second ≡ l.second) × ((k.third ≡ l.third) × (k.last ≡ l.last)))
all_words k l e =
    let s₀ = and_split (eqb k.first l.first) _ e in
    let s₁ = and_split (eqb k.second l.second) _ s₀.1 in
    let s₂ = and_split (eqb k.third l.third) _ s₁.1 in
    (eqb-true k.first l.first s₀.0, (eqb-true k.second l.second s₁.0, (eqb-true k.third l.third s₂.0, eqb-true k.last l.last s₂.1)))

module _ (b key : List ℕ) (at : ℕ) (fit : (at + 26 ≤ length b) × (length key ≡ 32)) (hb : AllBytes b) (hk : AllBytes key) where
  -- where all words agree, the bytes do
  agree : same (key_at at b) (key_at 6 key) ≡ true → same_bytes (take 26 (drop at b)) (partial_key key) ≡ true
  unfolding partial_key
  agree e =
      let w = all_words (key_at at b) (key_at 6 key) e in
      let w₀ = num_same 8 at 6 b key hb hk (omega (arith, fit.0)) (omega (arith, fit.1)) w.0 in
      let w₁ = num_same 8 (at + 8) 14 b key hb hk (omega (arith, fit.0)) (omega (arith, fit.1)) w.1.0 in
      let w₂ = num_same 8 (at + 16) 22 b key hb hk (omega (arith, fit.0)) (omega (arith, fit.1)) w.1.1.0 in
      let w₃ = num_same 2 (at + 24) 30 b key hb hk (omega (arith, fit.0)) (omega (arith, fit.1)) w.1.1.1 in
      let bytes_same : take 26 (drop at b) ≡ take 26 (drop 6 key) = words b at ∙ rw (w₀, w₁, w₂, w₃) (sym (words key 6)) in
      rw bytes_same (same_bytes_refl (take 26 (drop 6 key)))

  -- where the bytes do, all words agree
  agreed : same_bytes (take 26 (drop at b)) (partial_key key) ≡ true → same (key_at at b) (key_at 6 key) ≡ true
  unfolding partial_key
  agreed e =
      let bytes_same = same_bytes_eq (take 26 (drop at b)) (take 26 (drop 6 key)) e in
      let words_same : key_at at b ≡ key_at 6 key = words_of at b ∙ ap (key_at 0) bytes_same ∙ sym (words_of 6 key) in
      ap (λ (k : PartialKey). same k (key_at 6 key)) words_same ∙ same_refl (key_at 6 key)

  pub same_words : (k l : PartialKey) (r : Bool) → k ≡ key_at at b → l ≡ key_at 6 key → r ≡ same k l → r ≡ same_bytes (take 26 (drop at b)) (partial_key key)
  same_words k l r ek el er = er ∙ rw (ek, el) (same_truth _ _ agree agreed)

-- ---- the checked key

-- a key that passed its test on a keyed table is 32 bytes long
pub key_whole : (s : Settings) (key : List ℕ) → s.keyed ≡ true → key_test s key ≡ 0 → length key ≡ 32
unfolding key_test
key_whole s key k e = go s.keyed k (passed 4 (s.keyed && not (eqb (length key) 32)) (omega arith) e)
  where
    go : (p : Bool) → p ≡ true → (p && not (eqb (length key) 32)) ≡ false → length key ≡ 32
    go true h q = eqb-true (length key) 32 (not-false (eqb (length key) 32) q)
    go false h q = yes-no false h refl

keyed_len : (s : Settings) → s.keyed ≡ true → key_len s ≡ 26
unfolding key_len
keyed_len s k = cond_yes s.keyed 26 0 k

module _ (s : Settings) (b : List ℕ) (key : Option (Bor (List ℕ))) where
  pub unasked : key ≡ None → false ≡ key_differs s (lent_key key) b
  unfolding key_differs
  unasked e = rw e refl

  pub unkeyed : s.keyed ≡ false → false ≡ key_differs s (lent_key key) b
  unfolding key_differs
  unkeyed k = go key
    where
      go : (key : Option (Bor (List ℕ))) → false ≡ key_differs s (lent_key key) b
      go None = refl
      go (Some key) = sym (and_left s.keyed _ k)

  -- a key that is asked for on a keyed table: p bytes stand before the prefix, and a count of c bytes before the stored key
  module _ (asked : Bor (List ℕ)) (p c : ℕ) (is : key ≡ Some asked) (k : s.keyed ≡ true) (ep : p ≡ start_overhead s) (ec : c ≡ count_len s) where
    pub key_fits : bad_settings s ≡ false → length b ≡ s.size → checked_key_test s (lent_key key) ≡ 0 → (p + c + 26 ≤ length b) × (length asked.now ≡ 32)
    unfolding prefix_len checked_key_test
    key_fits g w t = (omega (arith, start_fits s g, keyed_len s k), key_whole s asked.now k (rw is at t))

    pub compared : (r : Bool) → r ≡ same_bytes (take 26 (drop (p + c) b)) (partial_key asked.now) → not r ≡ key_differs s (lent_key key) b
    unfolding key_differs key_of
    compared r e =
        let stored : take 26 (drop (p + c) b) ≡ take (key_len s) (drop (start_overhead s + count_len s) b) = rw (ep, ec, keyed_len s k) refl in
        rw (is, e, stored) (sym (and_skip s.keyed (not (same_bytes (take (key_len s) (drop (start_overhead s + count_len s) b)) (partial_key asked.now))) k))

-- what a look at the stored key needs
pub ruleset asked_keys = (unasked, unkeyed, key_fits, compared, count_most, start_most)

-- ---- the prefix of a new record

-- what is laid over a front is found there
laid : (buf bs : List ℕ) (n : ℕ) → n ≡ length bs → take n (put buf 0 bs) ≡ bs
unfolding put over
laid buf bs n e = rw e (take-append_seam bs (drop (length bs) buf))

-- the count of a new record, if it has one
unfoldable pub new_count : Settings → List ℕ
new_count s = cond s.counted (bytes 4 1) []

length_new_count : (s : Settings) → length (new_count s) ≡ count_len s
unfolding new_count count_len
length_new_count s = cond_of length s.counted (bytes 4 1) [] ∙ ap (λ (n : ℕ). cond s.counted n 0) (length_bytes 4 1)

-- the prefix is laid over the buffer's front: first the count, by which it becomes u, then the key behind it, by which it becomes d
module _ (s : Settings) (buf u : List ℕ) where
  pub count_laid : s.counted ≡ true → u ≡ put buf 0 (bytes 4 1) → u ≡ put buf 0 (new_count s)
  unfolding new_count
  count_laid c e = e ∙ ap (put buf 0) (sym (cond_yes s.counted (bytes 4 1) [] c))

  pub no_count : s.counted ≡ false → u ≡ buf → u ≡ put buf 0 (new_count s)
  unfolding new_count
  no_count c e = e ∙ sym (put_none buf 0) ∙ ap (put buf 0) (sym (cond_no s.counted (bytes 4 1) [] c))

  module _ (key d : List ℕ) (t : key_test s key ≡ 0) (w : length buf ≡ 30) (eu : u ≡ put buf 0 (new_count s)) where
    pub key_laid : (n : ℕ) (part : List ℕ) → s.keyed ≡ true → n ≡ count_len s → d ≡ put_mid n (n + 26 - n) u part → part ≡ take 26 (drop 6 key) → d ≡ put buf 0 (prefix s key)
    unfolding prefix partial_key new_count
    key_laid n part k en e ep =
        let l : length part ≡ 26 = ap length ep ∙ length_part key 6 26 (omega (arith, key_whole s key k t)) in
        let count_first : d ≡ put (put buf 0 (new_count s)) n part = e ∙ lent u n (n + 26) part (omega arith) ∙ ap (λ (v : List ℕ). put v n part) eu in
        count_first
        ∙ put_next buf 0 n (new_count s) part (omega (arith, length_new_count s)) (omega (arith, count_most s))
        ∙ ap (λ (v : List ℕ). put buf 0 (new_count s ++ v)) (ep ∙ sym (cond_yes s.keyed (partial_key key) [] k))

    pub no_key : s.keyed ≡ false → d ≡ u → d ≡ put buf 0 (prefix s key)
    unfolding prefix new_count
    no_key k e = e ∙ eu ∙ ap (put buf 0) (sym (append-nil (new_count s)) ∙ ap (λ (v : List ℕ). new_count s ++ v) (sym (cond_no s.keyed (partial_key key) [] k)))

pub prefix_laid : (s : Settings) (buf key d : List ℕ) (n : ℕ) → key_test s key ≡ 0 → n ≡ prefix_len s → d ≡ put buf 0 (prefix s key) → (take n d ≡ prefix s key) × (n ≡ prefix_len s)
prefix_laid s buf key d n t en e = (rw e (laid buf (prefix s key) n (en ∙ sym (length_prefix s key t))), en)

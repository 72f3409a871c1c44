-- Storing a new count in a head changes the count and nothing else (`recount_chain`, `recount_content`): mark, size, total, link, key and
-- content are read as before, so the chain stays well formed.
use mathlib.Core.Path.{◌≡◌, refl, sym, ap, ap₂, ◌∙◌}
use Prim.Native.Nat.{ℕ, ◌+◌, ◌-◌, ◌^◌, ◌≤◌, ◌<◌}
use native.Mathlib.Omega.{arith}
use mathlib.Core.Bool.{Bool, true, false, ◌&&◌, not}
use mathlib.Core.List.{List, ◌∷◌, ◌++◌, append_assoc}
use mathlib.Core.Option.{none}
use lib.ListN.{length, take, drop, length-append, length-drop, length-take}
use lib.Seq.{take_at, drop_at, drop-append-le, take-take, drop-drop, length-take-le}
use lib.Dec.{eqb, ltb}
use borrow.Author.Tests.{ne_eqb}
use Rattle.definition.specs.declared.Settings.{Settings}
use Rattle.definition.specs.Numbers.{le, bytes, num, over}
use Rattle.definition.specs.Tests.{refuse}
use Rattle.definition.specs.Settings.{word_bytes, link_bytes, total_bytes, count_bytes, count_len, key_len, prefix_len, head_overhead, start_overhead}
use Rattle.definition.specs.Slots.{View, marked, is_free, is_head, size_word, size_of, top_bit, total_of, head_link, starts, count_of, key_of, mark_of}
use Rattle.definition.specs.Chains.{key_differs, head_fault, sized_body, rest_body, body_of, content_of, total_good}
use Rattle.laws.proofs.Conditions.{cond_yes, cond_no, which, Which, is_yes, is_no}
use Rattle.laws.proofs.Tests.{refuse_no, first_skip, first_pass}
use Rattle.laws.proofs.Lists.{drop_take}
use Rattle.laws.proofs.Bytes.{le_bytes, length_bytes}
use Rattle.laws.proofs.Chains.{TailAt, ChainAt, Same, rest_body_frame, rest_frame}
use Rattle.laws.proofs.Overheads.{overhead_bounds, start_least, start_fixed, start_multi, counted_prefix}

-- ---- b with the count c at place st

unfoldable pub recounted : ℕ → ℕ → List ℕ → List ℕ
recounted st c b = over (take st b ++ bytes count_bytes c) b

module _ (st c : ℕ) (b : List ℕ) (h : st + count_bytes ≤ length b) where
  front : length (take st b) ≡ st
  front = length-take-le st b (omega arith)

  recounted_is : recounted st c b ≡ take st b ++ (bytes count_bytes c ++ drop (st + count_bytes) b)
  unfolding recounted over
  recounted_is =
      let e : length (take st b ++ bytes count_bytes c) ≡ st + count_bytes = length-append (take st b) (bytes count_bytes c) ∙ ap₂ (λ (m n : ℕ). m + n) front (length_bytes count_bytes c) in
      rw (e, append_assoc) refl

  -- the bytes before the count, the count, and the bytes after it
  before : (n : ℕ) → n ≤ st → take n (recounted st c b) ≡ take n b
  before n k = sym (take-take n st (recounted st c b) k) ∙ ap (take n) (rw recounted_is (take_at (take st b) _ st front)) ∙ take-take n st b k

  from : drop st (recounted st c b) ≡ bytes count_bytes c ++ drop (st + count_bytes) b
  from = rw recounted_is (drop_at (take st b) _ st front)

  after : drop (st + count_bytes) (recounted st c b) ≡ drop (st + count_bytes) b
  after = sym (drop-drop count_bytes st (recounted st c b)) ∙ ap (drop count_bytes) from ∙ drop_at (bytes count_bytes c) (drop (st + count_bytes) b) count_bytes (length_bytes count_bytes c)

  recounted_length : length (recounted st c b) ≡ length b
  recounted_length = rw recounted_is (simp (length-append, length_bytes, length-take, length-drop) (omega arith))

  -- numbers before the count stay
  num_before : (at n : ℕ) → at + n ≤ st → num at n (recounted st c b) ≡ num at n b
  unfolding num
  num_before at n k = ap le (sym (part (recounted st c b)) ∙ ap (drop at) (before (at + n) k) ∙ part b)
    where
      part : (x : List ℕ) → drop at (take (at + n) x) ≡ take n (drop at x)
      part x = let e : at + n - at ≡ n = omega arith in drop_take at (at + n) x ∙ ap (λ (m : ℕ). take m (drop at x)) e

-- ---- what the head says

module _ (s : Settings) (c : ℕ) (b : List ℕ) (len : start_overhead s + count_bytes ≤ length b) where
  mark_same : (mark : List ℕ) → marked mark (recounted (start_overhead s) c b) ≡ marked mark b
  unfolding marked
  mark_same mark = rw (before (start_overhead s) c b len word_bytes (start_least s)) refl

  word_same : size_word (recounted (start_overhead s) c b) ≡ size_word b
  unfolding size_word
  word_same = num_before (start_overhead s) c b len 0 word_bytes (start_least s)

  size_same : size_of (recounted (start_overhead s) c b) ≡ size_of b
  unfolding size_of
  size_same = rw word_same refl

  starts_same : starts s (recounted (start_overhead s) c b) ≡ starts s b
  unfolding starts is_head is_free
  starts_same = simp mark_same

  pub recount_mark : mark_of s (recounted (start_overhead s) c b) ≡ mark_of s b
  unfolding mark_of top_bit
  recount_mark = rw word_same (simp mark_same)

  pub recount_count : s.counted ≡ true → c < 256 ^ count_bytes → count_of s (recounted (start_overhead s) c b) ≡ c
  unfolding count_of num
  recount_count d h =
      cond_yes s.counted _ _ d
      ∙ ap le (rw (from (start_overhead s) c b len) (take_at (bytes count_bytes c) _ count_bytes (length_bytes count_bytes c))) ∙ le_bytes count_bytes c h

  pub recount_key : s.counted ≡ true → key_of s (recounted (start_overhead s) c b) ≡ key_of s b
  unfolding key_of count_len
  recount_key d = rw (cond_yes {X = ℕ} s.counted count_bytes 0 d) (ap (take (key_len s)) (after (start_overhead s) c b len))

  head_passes : head_fault s none 8 b ≡ 0 → s.counted ≡ true → 0 < c → c < 256 ^ count_bytes → head_fault s none 8 (recounted (start_overhead s) c b) ≡ 0
  unfolding head_fault key_differs
  head_passes e d p h =
      let a = first_pass (refuse 8 (not (starts s b))) _ e in
      let m = first_pass (refuse 9 (not s.multipart && ltb (size_of b) (prefix_len s))) _ a.1 in
      let n = first_pass (refuse 8 (eqb (count_of s b) 0)) _ m.1 in
      rw (starts_same, size_same, recount_count d h)
      (first_skip (refuse 8 (not (starts s b))) _ a.0 ∙ first_skip (refuse 9 (not s.multipart && ltb (size_of b) (prefix_len s))) _ m.0
      ∙ first_skip (refuse 8 (eqb c 0)) _ (refuse_no 8 (eqb c 0) (ne_eqb c 0 (omega arith))) ∙ n.1)

-- ---- what the chain holds

module _ (s : Settings) (f g : View) (c h : ℕ) (l : List ℕ) (len : start_overhead s + count_bytes ≤ length (f h))
    (gh : g h ≡ recounted (start_overhead s) c (f h)) (others : Same f g l) where
  -- prefix and content after the count
  body_same : drop count_bytes (body_of s g (h ∷ l)) ≡ drop count_bytes (body_of s f (h ∷ l))
  unfolding body_of sized_body
  body_same = go (which s.multipart)
    where
      long : length (g h) ≡ length (f h)
      long = rw gh (recounted_length (start_overhead s) c (f h) len)

      rest : drop count_bytes (drop (start_overhead s) (g h)) ≡ drop count_bytes (drop (start_overhead s) (f h))
      rest = drop-drop count_bytes (start_overhead s) (g h) ∙ rw gh (after (start_overhead s) c (f h) len) ∙ sym (drop-drop count_bytes (start_overhead s) (f h))

      go : Which s.multipart → drop count_bytes (body_of s g (h ∷ l)) ≡ drop count_bytes (body_of s f (h ∷ l))
      go (is_yes m) =
          let st : start_overhead s ≡ head_overhead s = start_multi s m in
          let big : count_bytes ≤ length (drop (head_overhead s) (f h)) = simp length-drop (omega arith) in
          let big₂ : count_bytes ≤ length (drop (head_overhead s) (g h)) = simp length-drop (omega (arith, long)) in
          ap (drop count_bytes) (cond_yes s.multipart _ _ m ∙ ap (λ (r : List ℕ). drop (head_overhead s) (g h) ++ r) (rest_body_frame f g l others))
          ∙ drop-append-le count_bytes (drop (head_overhead s) (g h)) (rest_body f l) big₂
          ∙ ap (λ (x : List ℕ). x ++ rest_body f l) (rw st at rest)
          ∙ sym (drop-append-le count_bytes (drop (head_overhead s) (f h)) (rest_body f l) big)
          ∙ ap (drop count_bytes) (sym (cond_yes s.multipart _ _ m))
      go (is_no m) =
          let st : start_overhead s ≡ word_bytes = start_fixed s m in
          let size : size_of (g h) ≡ size_of (f h) = rw gh (size_same s c (f h) len) in
          ap (drop count_bytes) (cond_no s.multipart _ _ m ∙ ap (λ (n : ℕ). take n (drop word_bytes (g h))) size)
          ∙ drop_take count_bytes (size_of (f h)) (drop word_bytes (g h))
          ∙ ap (take (size_of (f h) - count_bytes)) (rw st at rest)
          ∙ sym (drop_take count_bytes (size_of (f h)) (drop word_bytes (f h)))
          ∙ ap (drop count_bytes) (sym (cond_no s.multipart _ _ m))

  pub recount_content : s.counted ≡ true → content_of s g (h ∷ l) ≡ content_of s f (h ∷ l)
  unfolding content_of
  recount_content d =
      rw (counted_prefix s d)
      (sym (drop-drop (key_len s) count_bytes (body_of s g (h ∷ l))) ∙ ap (drop (key_len s)) body_same ∙ drop-drop (key_len s) count_bytes (body_of s f (h ∷ l)))

  tail_same : (m : Bool) (F : ℕ) → s.multipart ≡ m → s.counted ≡ true → TailAt m s f F h l → TailAt m s g F h l
  unfolding head_link total_good total_of
  tail_same true F m d r =
      let st : start_overhead s ≡ head_overhead s = start_multi s m in
      let o = overhead_bounds s in
      let link : head_link s (g h) ≡ head_link s (f h) = rw gh (num_before (start_overhead s) c (f h) len (head_overhead s - link_bytes) link_bytes (omega arith)) in
      let total : total_of (g h) ≡ total_of (f h) = rw gh (num_before (start_overhead s) c (f h) len word_bytes total_bytes (omega arith)) in
      let mark : mark_of s (g h) ≡ mark_of s (f h) = rw gh (recount_mark s c (f h) len) in (
        rw (mark, link) (rest_frame s f g F F (mark_of s (f h)) true (head_link s (f h)) l (omega arith) others r.0),
        rw (recount_content d, total) r.1,
      )
  tail_same false F m d r = r

  pub recount_chain : (F x : ℕ) → s.counted ≡ true → 0 < c → c < 256 ^ count_bytes → ChainAt s f F h (x ∷ l) → ChainAt s g F h (x ∷ l)
  recount_chain F x d p q r =
      let hf : head_fault s none 8 (g h) ≡ 0 = rw gh (head_passes s c (f h) len r.3 d p q) in
      (r.0, r.1, r.2, hf, tail_same s.multipart F refl d r.4)

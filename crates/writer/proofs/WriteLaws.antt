-- A slot written field after field is the slot's bytes laid over its front, and a slot written in a table is a store there.
use mathlib.Core.Path.{◌≡◌, refl, sym, ap, ap₂, ◌∙◌}
use mathlib.Core.Bool.{Bool, true, false, cond}
use mathlib.Core.List.{List, ◌++◌, append_assoc}
use Prim.Native.Nat.{ℕ, ◌+◌, ◌-◌, ◌*◌, ◌≤◌}
use native.Mathlib.Omega.{arith}
use native.Mathlib.Nat.{add-zero}
use lib.ListN.{length, take, drop, length-append, length-drop}
use lib.Seq.{take_all, drop-append-le, length-take-le}
use borrow.Rule.Slice.PartMut.{put_mid, mid_of}
use Rattle.definition.specs.declared.Settings.{Settings}
use Rattle.definition.specs.Numbers.{bytes, put, over}
use Rattle.definition.specs.Settings.{head_overhead}
use Rattle.definition.specs.Slots.{free_mark, continuation_mark, head_mark, compressed_mark}
use Rattle.definition.specs.Parts.{sized_part, continuation_part, stored_total, head_part, free_slot}
use Rattle.laws.proofs.Bytes.{length_bytes}
use Rattle.laws.proofs.Lists.{take_append, length_part, drop_past}
use Rattle.laws.proofs.Parts.{length_continuation, length_head, length_sized}
use Rattle.laws.proofs.Puts.{length_put, put_next, lent_put}

-- ---- a slot: t at entry, then after each field; b is what the body has left, and ys what of it was copied behind the fields

-- a part lent, of k elements, comes back as ys
part_put : (o k : ℕ) (t ys : List ℕ) → length ys ≡ k → put_mid o k t ys ≡ put t o ys
unfolding put over
part_put o k t ys l = rw (← l) refl

behind : (t t₁ front ys b : List ℕ) (o k : ℕ) → o ≡ length front → o + k ≤ length t → k ≤ length b → t₁ ≡ put t 0 front → ys ≡ take (length (mid_of o k t₁)) b
    → put_mid o k t₁ ys ≡ put t 0 (front ++ take k b)
behind t t₁ front ys b o k eo h hb e₁ ey =
    let l₁ : length t₁ ≡ length t = ap length e₁ ∙ length_put t 0 front (omega arith) in
    let y : ys ≡ take k b = ey ∙ ap (λ (n : ℕ). take n b) (length_part t₁ o k (omega arith)) in
    let lb : length (take k b) ≡ k = length-take-le k b hb in
    part_put o k t₁ ys (ap length y ∙ lb) ∙ ap₂ (λ (u v : List ℕ). put u o v) e₁ y ∙ put_next t 0 o front (take k b) (omega arith) (omega arith)

pub free_put : (t t₁ t₂ : List ℕ) (n : ℕ) → 10 ≤ length t → t₁ ≡ put t 0 free_mark → t₂ ≡ put t₁ 2 (bytes 8 n) → t₂ ≡ put t 0 (free_slot n)
unfolding free_slot
free_put t t₁ t₂ n h e₁ e₂ =
    e₂ ∙ ap (λ (u : List ℕ). put u 2 (bytes 8 n)) e₁ ∙ put_next t 0 2 free_mark (bytes 8 n) refl (omega (arith, length_bytes 8 n))

pub continuation_put : (t t₁ t₂ ys b : List ℕ) (n pos : ℕ) → 10 ≤ length t → pos + (length t - 10) ≤ length b
    → t₁ ≡ put t 0 continuation_mark → t₂ ≡ put t₁ 2 (bytes 8 n) → ys ≡ take (length (mid_of 10 (length t₂ - 10) t₂)) (drop pos b)
    → put_mid 10 (length t₂ - 10) t₂ ys ≡ put t 0 (continuation_part n (take (length t - 10) (drop pos b)))
unfolding continuation_part
continuation_put t t₁ t₂ ys b n pos h hb e₁ e₂ ey =
    let l : length (bytes 8 n) ≡ 8 = length_bytes 8 n in
    let front : t₂ ≡ put t 0 (continuation_mark ++ bytes 8 n) =
    e₂ ∙ ap (λ (u : List ℕ). put u 2 (bytes 8 n)) e₁ ∙ put_next t 0 2 continuation_mark (bytes 8 n) refl (omega arith) in
    let l₂ : length t₂ ≡ length t = ap length front ∙ length_put t 0 (continuation_mark ++ bytes 8 n) (omega arith) in
    behind t t₂ (continuation_mark ++ bytes 8 n) ys (drop pos b) 10 (length t₂ - 10) (omega arith) (omega arith) (rw length-drop (omega arith)) front ey
    ∙ ap (λ (k : ℕ). put t 0 ((continuation_mark ++ bytes 8 n) ++ take (k - 10) (drop pos b))) l₂

pub head_put : (t t₁ t₂ t₃ ys b : List ℕ) (s : Settings) (mark : Bool) (total n o : ℕ) → o ≡ head_overhead s → 18 ≤ length t → length t - o ≤ length b
    → t₁ ≡ put t 0 (cond mark compressed_mark head_mark) → t₂ ≡ put t₁ 2 (bytes 8 total) → t₃ ≡ put t₂ (o - 8) (bytes 8 n)
    → ys ≡ take (length (mid_of o (length t₃ - o) t₃)) b
    → put_mid o (length t₃ - o) t₃ ys ≡ put t 0 (head_part s mark total n (take (length t - head_overhead s) b))
unfolding head_part stored_total head_overhead
head_put t t₁ t₂ t₃ ys b s mark total n o e h hb e₁ e₂ e₃ ey =
    let m : List ℕ = cond mark compressed_mark head_mark in
    let lm : length m ≡ 2 = two mark in
    let lt : length (bytes 8 total) ≡ 8 = length_bytes 8 total in
    let ln : length (bytes 8 n) ≡ 8 = length_bytes 8 n in
    let front : List ℕ = (m ++ bytes 8 total) ++ bytes 8 n in
    let lf : length front ≡ 18 = simp length-append (omega arith) in
    let d₂ : t₂ ≡ put t 0 (m ++ bytes 8 total) = e₂ ∙ ap (λ (u : List ℕ). put u 2 (bytes 8 total)) e₁ ∙ put_next t 0 2 m (bytes 8 total) (omega arith) (omega arith) in
    let d₃ : t₃ ≡ put t 0 front =
    e₃ ∙ ap (λ (u : List ℕ). put u (o - 8) (bytes 8 n)) d₂ ∙ put_next t 0 (o - 8) (m ++ bytes 8 total) (bytes 8 n) (rw length-append (omega arith)) (omega arith) in
    let l₃ : length t₃ ≡ length t = ap length d₃ ∙ length_put t 0 front (omega arith) in
    behind t t₃ front ys b o (length t₃ - o) (omega arith) (omega arith) (omega arith) d₃ ey
    ∙ ap₂ (λ (k j : ℕ). put t 0 (front ++ take (k - j) b)) l₃ e
    ∙ ap (put t 0) (append_assoc (m ++ bytes 8 total) (bytes 8 n) _ ∙ append_assoc m (bytes 8 total) _)
  where
    two : (b : Bool) → length (cond b compressed_mark head_mark) ≡ 2
    two true = refl
    two false = refl

pub sized_put : (t t₁ ys b : List ℕ) (mark : Bool) (w k pos : ℕ) → k + pos ≡ length b → k + 2 ≤ length t → w ≡ k + cond mark 0x8000 0
    → t₁ ≡ put t 0 (bytes 2 w) → ys ≡ take (length (mid_of 2 (2 + k - 2) t₁)) (drop pos b) → put_mid 2 (2 + k - 2) t₁ ys ≡ put t 0 (sized_part mark (drop pos b))
unfolding sized_part
sized_put t t₁ ys b mark w k pos ek h ew e₁ ey =
    let l : length (drop pos b) ≡ k = rw length-drop (omega arith) in
    let word : w ≡ length (drop pos b) + cond mark 0x8000 0 = omega arith in
    behind t t₁ (bytes 2 w) ys (drop pos b) 2 (2 + k - 2) (sym (length_bytes 2 w)) (omega arith) (omega arith) e₁ ey
    ∙ ap₂ (λ (x : ℕ) (p : List ℕ). put t 0 (bytes 2 x ++ p)) word (take_all (2 + k - 2) (drop pos b) (omega arith))

-- ---- a body that is copied across the seam of prefix and content

-- d with ys at its front, as far as the prefix goes, then with zs behind them
pub body_across : (p c d ys zs : List ℕ) (from : ℕ) → from ≤ length p → length p ≤ from + length d → from + length d ≤ length (p ++ c)
    → ys ≡ take (length p - from) (drop from p) → zs ≡ take (length d - (length p - from)) c
    → put_mid (length p - from) (length (ys ++ drop (length p - from) d) - (length p - from)) (ys ++ drop (length p - from) d) zs ≡ take (length d) (drop from (p ++ c))
unfolding put over
body_across p c d ys zs from h k r ey ez =
    let m : ℕ = length p - from in
    let lq : length (drop from p) ≡ m = length-drop from p in
    let y : ys ≡ drop from p = ey ∙ take_all m (drop from p) (omega arith) in
    let ly : length ys ≡ m = ap length y ∙ lq in
    let lw : length (ys ++ drop m d) ≡ length d = simp (length-append, length-drop) (omega arith) in
    let lz : length zs ≡ length d - m = ap length ez ∙ length-take-le (length d - m) c (omega (arith, length-append p c)) in
    let laid : ys ++ drop m d ≡ put d 0 ys = ap (λ (j : ℕ). ys ++ drop j d) (sym ly) in
    part_put m (length (ys ++ drop m d) - m) (ys ++ drop m d) zs (omega arith)
    ∙ ap (λ (u : List ℕ). put u m zs) laid
    ∙ put_next d 0 m ys zs (omega arith) (omega arith)
    ∙ drop_past (ys ++ zs) d (length (ys ++ zs)) (rw length-append (omega arith))
    ∙ ap₂ (λ (u v : List ℕ). u ++ v) (y ∙ sym (take_all (length d) (drop from p) (omega arith))) (ez ∙ ap (λ (j : ℕ). take (length d - j) c) (sym lq))
    ∙ sym (take_append (length d) (drop from p) c)
    ∙ sym (ap (take (length d)) (drop-append-le from p c h))

-- ---- slot i of a table, lent from place a to place e

module _ (t : List ℕ) (E i a e : ℕ) (ea : a ≡ i * E) (ee : e ≡ i * E + E) (h : i * E + E ≤ length t) where
  lent_size : length (mid_of a (e - a) t) ≡ E
  lent_size = length_part t a (e - a) (omega arith) ∙ omega arith

  pub slot_put : (ys bs : List ℕ) → length bs ≤ E → ys ≡ put (mid_of a (e - a) t) 0 bs → put_mid a (e - a) t ys ≡ put t (i * E) bs
  slot_put ys bs l q =
      lent_put t a e ys 0 bs (omega arith) (omega arith) (omega arith) q ∙ ap (λ (k : ℕ). put t k bs) (add-zero a ∙ ea)

  pub continuation_stored : (ys b : List ℕ) (n pos : ℕ) → 10 ≤ E → pos + (E - 10) ≤ length b
      → ys ≡ put (mid_of a (e - a) t) 0 (continuation_part n (take (length (mid_of a (e - a) t) - 10) (drop pos b)))
      → put_mid a (e - a) t ys ≡ put t (i * E) (continuation_part n (take (E - 10) (drop pos b)))
  continuation_stored ys b n pos l hb q =
      slot_put ys (continuation_part n (take (E - 10) (drop pos b))) (omega (arith, length_continuation n (take (E - 10) (drop pos b)), length_part b pos (E - 10) hb))
      (q ∙ ap (λ (k : ℕ). put (mid_of a (e - a) t) 0 (continuation_part n (take (k - 10) (drop pos b)))) lent_size)

  pub head_stored : (ys b : List ℕ) (s : Settings) (mark : Bool) (total n : ℕ) → head_overhead s ≤ E → E - head_overhead s ≤ length b
      → ys ≡ put (mid_of a (e - a) t) 0 (head_part s mark total n (take (length (mid_of a (e - a) t) - head_overhead s) b))
      → put_mid a (e - a) t ys ≡ put t (i * E) (head_part s mark total n (take (E - head_overhead s) b))
  head_stored ys b s mark total n l hb q =
      slot_put ys (head_part s mark total n (take (E - head_overhead s) b))
      (omega (arith, length_head s mark total n (take (E - head_overhead s) b), length-take-le (E - head_overhead s) b hb))
      (q ∙ ap (λ (k : ℕ). put (mid_of a (e - a) t) 0 (head_part s mark total n (take (k - head_overhead s) b))) lent_size)

  pub sized_stored : (ys b : List ℕ) (mark : Bool) (pos : ℕ) → 2 + (length b - pos) ≤ E → ys ≡ put (mid_of a (e - a) t) 0 (sized_part mark (drop pos b))
      → put_mid a (e - a) t ys ≡ put t (i * E) (sized_part mark (drop pos b))
  sized_stored ys b mark pos l q = slot_put ys (sized_part mark (drop pos b)) (omega (arith, length_sized mark (drop pos b), length-drop pos b)) q

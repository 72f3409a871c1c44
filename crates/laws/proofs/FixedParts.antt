-- The fixed read: a plain slot's size fits it (`size_fits`, `size_least`), and where the companion answers a record, its content is a part of
-- the table (`fixed_part`), and lies after the slot's size word and prefix.
use mathlib.Core.Path.{◌≡◌, refl, sym, ap, ◌∙◌}
use mathlib.Core.Bool.{Bool, false, not}
use mathlib.Core.List.{List, [], ◌∷◌}
use mathlib.Core.Option.{Option, none}
use Prim.Native.Nat.{ℕ, zero, suc, ◌+◌, ◌-◌, ◌*◌, ◌≤◌}
use native.Mathlib.Omega.{arith}
use lib.ListN.{length, take, drop}
use lib.Seq.{take-take, drop-drop}
use borrow.Author.Tests.{ltb-false}
use Rattle.definition.specs.declared.Settings.{Settings}
use Rattle.definition.specs.Tests.{refuse, first}
use Rattle.definition.specs.Settings.{prefix_len, bad_settings}
use Rattle.definition.specs.Slots.{View, view, size_of}
use Rattle.definition.specs.Chains.{head_fault, sized_body, body_of, content_of}
use Rattle.definition.specs.Answers.{found}
use Rattle.definition.specs.Calls.{capacity, table_tests, checked_key_test, slot_test, chain_tests, unless, fixed_tests, look_fixed, read_fixed, find_fixed}
use Rattle.laws.proofs.Conditions.{cond_no, and_skip}
use Rattle.laws.proofs.Tests.{passed, first_pass, first_skip, first_both}
use Rattle.laws.proofs.Lists.{drop_take, length_part}
use Rattle.laws.proofs.Sizes.{sizes, slot_inside}
use Rattle.laws.proofs.Passed.{opened, slot_passed, head_unkeyed}

-- a plain slot's size is not too large
pub size_fits : (s : Settings) (b : List ℕ) → s.multipart ≡ false → head_fault s none 8 b ≡ 0 → size_of b ≤ s.size - 2
unfolding head_fault
size_fits s b m e =
    let t₁ = first_pass _ _ e in
    let t₂ = first_pass _ _ t₁.1 in
    let t₃ = first_pass _ _ t₂.1 in
    let t₄ = first_pass _ _ t₃.1 in
    let t₅ = first_pass _ _ t₄.1 in
    ltb-false (s.size - 2) (size_of b) (sym (and_skip (not s.multipart) _ (ap not m)) ∙ passed 9 _ (omega arith) t₅.0)

-- nor too small
pub size_least : (s : Settings) (b : List ℕ) → s.multipart ≡ false → head_fault s none 8 b ≡ 0 → prefix_len s ≤ size_of b
unfolding head_fault
size_least s b m e =
    let t₁ = first_pass _ _ e in
    let t₂ = first_pass _ _ t₁.1 in
    ltb-false (size_of b) (prefix_len s) (sym (and_skip (not s.multipart) _ (ap not m)) ∙ passed 9 _ (omega arith) t₂.0)

-- what passed with a checked key passes without
pub unchecked : (s : Settings) (f : View) (h : ℕ) (key : Option (List ℕ)) → first (chain_tests s f h key) ≡ 0 → first (chain_tests s f h none) ≡ 0
unchecked s f h key e =
    let a = first_pass (slot_test f h) _ e in
    let b = first_pass (head_fault s key 8 (f h)) _ a.1 in
    first_skip (slot_test f h) _ a.0 ∙ first_skip (head_fault s none 8 (f h)) _ (head_unkeyed s key (f h) b.0) ∙ b.1

-- the content of a plain slot is a part of the table
plain_content : (s : Settings) (t : List ℕ) (h : ℕ) → bad_settings s ≡ false → s.multipart ≡ false → head_fault s none 8 (view s.size t h) ≡ 0
    → content_of s (view s.size t) (h ∷ []) ≡ take (size_of (view s.size t h) - prefix_len s) (drop (h * s.size + 2 + prefix_len s) t)
unfolding content_of body_of sized_body view
plain_content s t h g m e =
    let z = sizes s g in
    let b : List ℕ = view s.size t h in
    let n : ℕ = size_of b in
    let p : ℕ = prefix_len s in
    let fit : n ≤ s.size - 2 = size_fits s b m e in
    ap (drop p) (cond_no s.multipart _ (take n (drop 2 b)) m)
    ∙ drop_take p n (drop 2 b)
    ∙ ap (λ (l : List ℕ). take (n - p) (drop p l)) (drop_take 2 s.size (drop (h * s.size) t))
    ∙ ap (take (n - p)) (drop_take p (s.size - 2) (drop 2 (drop (h * s.size) t)))
    ∙ take-take (n - p) (s.size - 2 - p) _ (omega arith)
    ∙ ap (λ (l : List ℕ). take (n - p) (drop p l)) (drop-drop 2 (h * s.size) t)
    ∙ ap (take (n - p)) (drop-drop p (h * s.size + 2) t)

-- where it lies, and that it is what the read promises
pub record PartAt (s : Settings) (t : List ℕ) (h : ℕ) (key : Option (List ℕ)) (len : ℕ) : Type 0 where
  pub inside : h * s.size + 2 + prefix_len s + len ≤ length t
  pub is : take len (drop (h * s.size + 2 + prefix_len s) t) ≡ read_fixed s key h t

fixed_passes : (s : Settings) (t : List ℕ) (h : ℕ) (key : Option (List ℕ)) → first (fixed_tests s key h t) ≡ 0
    → (s.multipart ≡ false) × (first (table_tests s (view s.size t) (capacity s t)) ≡ 0) × (first (chain_tests s (view s.size t) h none) ≡ 0)
unfolding fixed_tests
fixed_passes s t h key w =
    let a = first_pass (refuse 1 s.multipart) _ w in
    let b = first_both (table_tests s (view s.size t) (capacity s t)) _ a.1 in
    (passed 1 s.multipart (omega arith) a.0, b.0, unchecked s (view s.size t) h key (first_pass (checked_key_test s key) _ b.1).1)

part_found : (s : Settings) (t : List ℕ) (h : ℕ) (key : Option (List ℕ)) (len : ℕ)
    → (s.multipart ≡ false) × (first (table_tests s (view s.size t) (capacity s t)) ≡ 0) × (first (chain_tests s (view s.size t) h none) ≡ 0)
    → len ≡ length (content_of s (view s.size t) (h ∷ [])) → (look_fixed s key h t).1 ≡ content_of s (view s.size t) (h ∷ []) → PartAt s t h key len
unfolding read_fixed
part_found s t h key len w n c =
    let f = view s.size t in
    let o = opened s f (capacity s t) w.1 in
    let z = sizes s o.settings in
    let a = first_pass (slot_test f h) _ w.2 in
    let e : head_fault s none 8 (f h) ≡ 0 = (first_pass (head_fault s none 8 (f h)) _ a.1).0 in
    let p = slot_passed f h a.0 in
    let slot = slot_inside s t h (omega (arith, o.fits, p.1)) in
    let lo = size_least s (f h) w.0 e in
    let hi = size_fits s (f h) w.0 e in
    let is = plain_content s t h o.settings w.0 e in
    let l : len ≡ size_of (f h) - prefix_len s = n ∙ ap length is ∙ length_part t (h * s.size + 2 + prefix_len s) (size_of (f h) - prefix_len s) (omega arith) in
    record { inside = omega arith; is = ap (λ (k : ℕ). take k (drop (h * s.size + 2 + prefix_len s) t)) l ∙ sym is ∙ sym c }

-- an answer that tells a record was not refused, and tells this one
pub look_found : (m len : ℕ) (mark : Bool) (k v len' : ℕ) (mark' : Bool) (k' v' : ℕ) (c : List ℕ) → found len' mark' k' v' ≡ (unless m [] (found len mark k v, c)).0
    → (m ≡ 0) × (len' ≡ len) × ((unless m [] (found len mark k v, c)).1 ≡ c)
unfolding unless
look_found zero len mark k v len' mark' k' v' c e = (refl, cc, refl)
look_found (suc m) len mark k v len' mark' k' v' c e = absurd (let z : ◌≡◌ {A = ℕ} 0 1 = cc in omega arith)

pub fixed_part : (s : Settings) (t : List ℕ) (h : ℕ) (key : Option (List ℕ)) (len : ℕ) (mark : Bool) (k v : ℕ) → found len mark k v ≡ find_fixed s key h t → PartAt s t h key len
unfolding find_fixed read_fixed look_fixed
fixed_part s t h key len mark k v e =
    let q = look_found (first (fixed_tests s key h t)) _ _ _ _ len mark k v _ e in
    part_found s t h key len (fixed_passes s t h key q.0) q.1 q.2

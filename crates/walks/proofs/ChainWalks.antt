-- The walk of a whole chain: a plain slot alone, or a head, its later parts and, last, its total; and the tests of a call on it.
use Rattle.std.specs.Prelude.{Ok, Err, Result}
use mathlib.Core.Path.{◌≡◌, refl, sym, ap, ap₂, ◌∙◌, subst}
use mathlib.Core.Logic.{◌≢◌}
use mathlib.Core.Bool.{Bool, true, false, cond, not}
use mathlib.Core.List.{List, [], ◌∷◌}
use mathlib.Core.Option.{Option, none}
use Prim.Native.Nat.{ℕ, suc, ◌+◌, ◌-◌, ◌*◌, ◌≤◌, ◌<◌}
use native.Mathlib.Nat.{suc-mul}
use native.Mathlib.Omega.{arith}
use lib.Dec.{eqb}
use lib.ListN.{length, drop, length-append, length-drop, length-take}
use borrow.Author.Tests.{eq-eqb, ne_eqb}
use Rattle.definition.specs.declared.Settings.{Settings}
use Rattle.definition.specs.declared.Refusal.{Refusal}
use Rattle.definition.specs.declared.PartKind.{PartKind}
use Rattle.definition.specs.declared.PartKind.TheVariants.{Head, Continuation, Last}
use Rattle.definition.specs.Tests.{number_of, refuse}
use Rattle.definition.specs.Settings.{prefix_len, head_overhead}
use Rattle.definition.specs.Slots.{View, view, filled, size_of, total_of, head_link, mark_of}
use Rattle.definition.specs.Chains.{refused, part, head_fault, start_part, head_parse, Walk, whole, parts_from, sized_body, rest_body, body_of, content_of, total_good, with_total, walk}
use Rattle.definition.specs.Calls.{slot_test}
use Rattle.laws.proofs.Conditions.{cond_yes, cond_no}
use Rattle.laws.proofs.Tests.{number_some, refuse_yes, refuse_no, first_skip, first_refuses, first_one}
use Rattle.laws.proofs.Lists.{length_part}
use Rattle.laws.proofs.Views.{apart}
use Rattle.laws.proofs.Chains.{rest_walk}
use Rattle.laws.proofs.Passed.{head_unkeyed}
use Rattle.laws.proofs.FixedParts.{size_fits}
use Rattle.laws.proofs.Heads.{parse_fault, parse_part}
use Rattle.walks.specs.declared.Extent.{Extent}
use Rattle.walks.specs.Met.{RestIs, ChainIs, ChainTested}

-- ---- how much later parts hold

-- at most a slot each
pub rest_most : (f : View) (E : ℕ) (l : List ℕ) → ((i : ℕ) → length (f i) ≤ E) → length (rest_body f l) ≤ length l * E
unfolding rest_body sized_body
rest_most f E [] h = omega arith
rest_most f E (x ∷ []) h = rw (length-take, length-drop) (omega (arith, h x, suc-mul 0 E))
rest_most f E (x ∷ y ∷ l) h = rw (length-append, length-drop) (omega (arith, h x, rest_most f E (y ∷ l) h, suc-mul (suc (length l)) E))

pub slot_most : (E : ℕ) (t : List ℕ) (i : ℕ) → length (view E t i) ≤ E
unfolding view
slot_most E t i = rw length-take (omega arith)

-- the later parts of a walk without fault: at most FILLED - 2, and their bytes with those of one slot more fit the table
pub rest_fits : (s : Settings) (t : List ℕ) (F a : ℕ) (x : Extent) → 2 ≤ F → F * s.size ≤ length t
    → ((mark : Bool) → RestIs (Ok x) (view s.size t) (parts_from s (view s.size t) F mark true (F - 2) a)) → (x.parts ≤ F - 2) × (x.bytes + s.size ≤ length t)
rest_fits s t F a x h g e =
    let l = (parts_from s (view s.size t) F true true (F - 2) a).slots in
    let m : length l ≤ F - 2 = (rest_walk s (view s.size t) F true true (F - 2) a (e true).0).1 in
    let b = rest_most (view s.size t) s.size l (slot_most s.size t) in
    (omega (arith, (e true).1), omega (arith, (e true).2, b, apart s.size F (length l) (omega arith)))

-- ---- the chain at a head

-- the head in slot h, which holds n bytes and links to `next`
abbrev pub HeadAt : Settings → View → ℕ → ℕ → ℕ → ℕ → Type 0
HeadAt s f F h n next = (h < F) × (2 ≤ F) × (s.multipart ≡ true) × (next ≡ head_link s (f h)) × (n ≡ s.size - head_overhead s)

module _ (s : Settings) (f : View) (F h n next : ℕ) (at : HeadAt s f F h n next) where
  later : Walk
  later = parts_from s f F (mark_of s (f h)) true (F - 2) next

  walk_is : walk s f F h ≡ with_total s f h later
  unfolding walk later
  walk_is = cond_yes s.multipart _ _ at.2 ∙ ap (λ (a : ℕ). with_total s f h (parts_from s f F (mark_of s (f h)) true (F - 2) a)) (sym at.3)

  -- a fault of the later parts is the chain's
  pub later_refused : (r : Refusal) → ((mark : Bool) → RestIs (Err r) f (parts_from s f F mark true (F - 2) next)) → ChainIs (Err r) s f (walk s f F h)
  unfolding later with_total
  later_refused r e = ap (λ (w : Walk). w.fault) walk_is ∙ first_refuses (number_of r) _ _ (e (mark_of s (f h))) (number_some r)

  module _ (w : length (f h) ≡ s.size) (x : Extent) (e : (mark : Bool) → RestIs (Ok x) f (parts_from s f F mark true (F - 2) next)) where
    body_length : length (body_of s f (h ∷ later.slots)) ≡ n + x.bytes
    unfolding body_of later
    body_length =
        ap length (cond_yes s.multipart _ _ at.2) ∙ length-append (drop (head_overhead s) (f h)) (rest_body f later.slots)
        ∙ ap₂ (λ (i j : ℕ). i + j) (length-drop (head_overhead s) (f h) ∙ ap (λ (i : ℕ). i - head_overhead s) w ∙ sym at.4) (sym (e (mark_of s (f h))).2)

    content_length : length (content_of s f (h ∷ later.slots)) ≡ n + x.bytes - prefix_len s
    unfolding content_of
    content_length = length-drop (prefix_len s) _ ∙ ap (λ (m : ℕ). m - prefix_len s) body_length

    fault_is : (walk s f F h).fault ≡ refuse 10 (not (eqb (total_of (f h)) (n + x.bytes - prefix_len s)))
    unfolding with_total total_good later
    fault_is =
        ap (λ (v : Walk). v.fault) walk_is ∙ first_skip _ _ (e (mark_of s (f h))).0 ∙ first_one _
        ∙ ap (λ (m : ℕ). refuse 10 (not (eqb (total_of (f h)) m))) content_length

    -- the total is not the content's length
    pub wrong_total : n + x.bytes - prefix_len s ≢ total_of (f h) → ChainIs (Err Refusal.Chain) s f (walk s f F h)
    wrong_total ne = fault_is ∙ refuse_yes 10 _ (ap not (ne_eqb _ _ (λ p. ne (sym p))))

    -- it is
    pub whole_chain : n + x.bytes - prefix_len s ≡ total_of (f h) → ChainIs (Ok (record { parts = x.parts + 1; bytes = n + x.bytes })) s f (walk s f F h)
    unfolding with_total later
    whole_chain eq =
        let slots : (walk s f F h).slots ≡ h ∷ later.slots = ap (λ (v : Walk). v.slots) walk_is in
        let k : length (h ∷ later.slots) ≡ x.parts + 1 = omega (arith, (e (mark_of s (f h))).1) in
        (fault_is ∙ refuse_no 10 _ (ap not (eq-eqb _ _ (sym eq))), sym (ap length slots ∙ k), sym (ap (λ (l : List ℕ). length (body_of s f l)) slots ∙ body_length))

-- ---- the slot where a chain starts

-- what its kind says
abbrev Starts : Settings → List ℕ → PartKind → ℕ → Type 0
Starts s b (Head x) n = (s.multipart ≡ true) × (x ≡ head_link s b) × (n ≡ s.size - head_overhead s)
Starts s b (Continuation x) n = ⊥
Starts s b (Last x) n = (s.multipart ≡ false) × (n ≡ size_of b)

starts_with : (s : Settings) (b : List ℕ) (k : PartKind) (n : ℕ) → part k n ≡ start_part s b → Starts s b k n
unfolding start_part
starts_with s b k n e = go s.multipart refl k n e
  where
    go : (m : Bool) → s.multipart ≡ m → (k : PartKind) (n : ℕ)
        → part k n ≡ cond m (part (Head (head_link s b)) (s.size - head_overhead s)) (part (Last 0) (size_of b)) → Starts s b k n
    go true p (Head x) n q = (p, cc, cc)
    go true p (Continuation x) n q = absurd (let z : ◌≡◌ {A = ℕ} 0 1 = cc in omega arith)
    go true p (Last x) n q = absurd (let z : ◌≡◌ {A = ℕ} 0 1 = cc in omega arith)
    go false p (Head x) n q = absurd (let z : ◌≡◌ {A = ℕ} 0 1 = cc in omega arith)
    go false p (Continuation x) n q = absurd (let z : ◌≡◌ {A = ℕ} 0 1 = cc in omega arith)
    go false p (Last x) n q = (p, cc)

pub head_at : (s : Settings) (f : View) (F h : ℕ) (k : PartKind) (n x : ℕ) → 0 < h → h < F → part k n ≡ start_part s (f h) → k ≡ Head x → HeadAt s f F h n x
head_at s f F h k n x z b e q =
    let t = starts_with s (f h) (Head x) n (ap (λ (k : PartKind). part k n) (sym q) ∙ e) in
    (b, omega arith, t.0, t.1, t.2)

one_part : (s : Settings) (f : View) (F h : ℕ) → 2 ≤ s.size → length (f h) ≡ s.size → head_fault s none 8 (f h) ≡ 0 → s.multipart ≡ false → (n : ℕ) → n ≡ size_of (f h)
    → ChainIs (Ok (record { parts = 1; bytes = n })) s f (walk s f F h)
unfolding walk body_of sized_body
one_part s f F h lo w g m n q =
    let is : walk s f F h ≡ whole (h ∷ []) = cond_no s.multipart _ _ m in
    let l : length (sized_body (f h)) ≡ size_of (f h) = length_part (f h) 2 (size_of (f h)) (omega (arith, size_fits s (f h) m g)) in (
      ap (λ (v : Walk). v.fault) is,
      sym (ap (λ (v : Walk). length v.slots) is),
      sym (ap (λ (v : Walk). length (body_of s f v.slots)) is ∙ ap length (cond_no s.multipart _ _ m) ∙ l ∙ sym q),
    )

-- a plain slot is a chain of one part
pub plain_chain : (s : Settings) (f : View) (F h : ℕ) (k : PartKind) (n : ℕ) → 2 ≤ s.size → length (f h) ≡ s.size → part k n ≡ start_part s (f h) → head_fault s none 8 (f h) ≡ 0
    → ((x : ℕ) → k ≡ Head x → ⊥) → ChainIs (Ok (record { parts = 1; bytes = n })) s f (walk s f F h)
plain_chain s f F h k n lo w e g other = go k n (starts_with s (f h) k n e) other
  where
    one : (n : ℕ) → s.multipart ≡ false → n ≡ size_of (f h) → ChainIs (Ok (record { parts = 1; bytes = n })) s f (walk s f F h)
    one n m q = one_part s f F h lo w g m n q

    go : (k : PartKind) (n : ℕ) → Starts s (f h) k n → ((x : ℕ) → k ≡ Head x → ⊥) → ChainIs (Ok (record { parts = 1; bytes = n })) s f (walk s f F h)
    go (Head x) n t other = absurd (other x refl)
    go (Continuation x) n t other = absurd t
    go (Last x) n t other = one n t.0 t.1

-- ---- the tests of a call

module _ (s : Settings) (f : View) (h : ℕ) (key : Option (List ℕ)) where
  pub slot_refused : (r : Refusal) → slot_test f h ≡ number_of r → ChainTested (Err r) s f h key
  slot_refused r e = first_refuses (number_of r) _ _ e (number_some r)

  module _ (slot : slot_test f h ≡ 0) where
    -- the head is refused
    pub head_refused : (r : Refusal) → refused (number_of r) ≡ head_parse s key 8 (f h) → ChainTested (Err r) s f h key
    head_refused r e = first_skip _ _ slot ∙ first_refuses (number_of r) _ _ (parse_fault s key 8 (f h) (refused (number_of r)) e) (number_some r)

    module _ (k : PartKind) (n : ℕ) (e : part k n ≡ head_parse s key 8 (f h)) where
      passes : head_fault s key 8 (f h) ≡ 0
      passes = parse_fault s key 8 (f h) (part k n) e

      -- it passes, with and without the key
      pub head_accepted : (part k n ≡ start_part s (f h)) × (head_fault s none 8 (f h) ≡ 0)
      head_accepted = (parse_part s key 8 (f h) k n e, head_unkeyed s key (f h) passes)

      -- and the walk decides
      pub walk_decides : (F : ℕ) → F ≡ filled f → (r : Result Extent Refusal) → ChainIs r s f (walk s f F h) → ChainTested r s f h key
      walk_decides F q r c = decided r (subst (λ (n : ℕ). ChainIs r s f (walk s f n h)) q c)
        where
          decided : (r : Result Extent Refusal) → ChainIs r s f (walk s f (filled f) h) → ChainTested r s f h key
          decided (Ok x) c = (first_skip _ _ slot ∙ first_skip _ _ passes ∙ first_one _ ∙ c.0, c.1, c.2)
          decided (Err r) c = first_skip _ _ slot ∙ first_skip _ _ passes ∙ first_one _ ∙ c

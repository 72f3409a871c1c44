-- The walk of later parts counts parts and bytes: after n parts that hold k bytes, at slot `at`, what is still to be walked gives the
-- same fault, parts and bytes as the whole walk (`Tallied`); each way out and the turn keep it.
use Rattle.std.specs.Prelude.{Ok}
use mathlib.Core.Logic.{◌≢◌}
use mathlib.Core.Path.{◌≡◌, refl, sym, ap, ap₂, ◌∙◌, subst}
use mathlib.Core.Bool.{Bool, true, false, ◌||◌}
use mathlib.Core.List.{List, [], ◌∷◌}
use Prim.Native.Nat.{ℕ, zero, suc, ◌+◌, ◌-◌, ◌*◌, ◌≤◌, ◌<◌}
use native.Mathlib.Omega.{arith}
use lib.Dec.{eqb}
use lib.ListN.{length, length-append, length-drop}
use borrow.Author.Tests.{ne_eqb}
use Rattle.definition.specs.declared.Settings.{Settings}
use Rattle.definition.specs.declared.Refusal.{Refusal}
use Rattle.definition.specs.declared.PartKind.{PartKind}
use Rattle.definition.specs.declared.PartKind.TheVariants.{Head, Continuation, Last}
use Rattle.definition.specs.Tests.{number_of}
use Rattle.definition.specs.Slots.{View, is_free, is_continuation, is_head, size_of, link_of}
use Rattle.definition.specs.Chains.{Parse, refused, part, unless_refused, last_fault, later_parse, Walk, stopped, passed, is_last, onward, parts_from, sized_body, rest_body}
use Rattle.laws.proofs.Conditions.{Which, which, is_yes, is_no, cond_yes, cond_no}
use Rattle.laws.proofs.Tests.{number_some}
use Rattle.laws.proofs.Lists.{length_part}
use Rattle.laws.proofs.Views.{apart}
use Rattle.laws.proofs.Turns.{last_small, part_limit, part_unlinked, part_above, part_at}
use Rattle.laws.proofs.Chains.{RestAt, rest_walk}
use Rattle.walks.specs.Met.{RestIs}

-- ---- what a look at a later part says

abbrev Says : Settings → List ℕ → Parse → Type 0
Says s b (refused n) = 0 < n
Says s b (part (Head x) n) = ⊥
Says s b (part (Continuation x) n) = (x ≡ link_of b) × (n ≡ s.size - 10)
Says s b (part (Last x) n) = (n ≡ size_of b) × (size_of b ≤ s.size - 2)

says : (s : Settings) (mark after : Bool) (b : List ℕ) → Says s b (later_parse s mark after b)
unfolding later_parse unless_refused
says s mark after b = go (which (is_free b || is_head b)) (which (is_continuation b))
  where
    judged : (n : ℕ) → last_fault s mark after b ≡ n → Says s b (unless_refused n (part (Last 0) (size_of b)))
    judged zero e = (refl, last_small s mark after b e)
    judged (suc n) e = omega arith

    go : Which (is_free b || is_head b) → Which (is_continuation b) → Says s b (later_parse s mark after b)
    go (is_yes y) c = subst (Says s b) (sym (cond_yes (is_free b || is_head b) _ _ y)) (omega arith)
    go (is_no y) (is_yes c) = subst (Says s b) (sym (cond_no (is_free b || is_head b) _ _ y ∙ cond_yes (is_continuation b) _ _ c)) (refl, refl)
    go (is_no y) (is_no c) = subst (Says s b) (sym (cond_no (is_free b || is_head b) _ _ y ∙ cond_no (is_continuation b) _ _ c)) (judged (last_fault s mark after b) refl)

-- no part holds more than a slot
pub held_most : (s : Settings) (b : List ℕ) (k : PartKind) (m : ℕ) → ((mark after : Bool) → part k m ≡ later_parse s mark after b) → m ≤ s.size
held_most s b k m e = go k m (subst (Says s b) (sym (e true true)) (says s true true b))
  where
    go : (k : PartKind) (m : ℕ) → Says s b (part k m) → m ≤ s.size
    go (Head x) m h = absurd h
    go (Continuation x) m h = omega (arith, h.1)
    go (Last x) m h = omega (arith, h.0, h.1)

-- n parts hold at most n slots
pub held_more : (E n k m : ℕ) → k ≤ n * E → m ≤ E → k + m ≤ (n + 1) * E
held_more E n k m h g = omega (arith, apart E (n + 1) n (omega arith))

-- ---- parts and bytes

-- what a walk comes to: a fault, or parts and bytes
pub data Tally : Type 0 where
  fault : ℕ → Tally
  chain : ℕ → ℕ → Tally

-- the same of a walk with this fault over these slots, when n parts and k bytes came before
tallied : View → ℕ → ℕ → ℕ → List ℕ → Tally
tallied f n k zero l = chain (n + length l) (k + length (rest_body f l))
tallied f n k (suc m) l = fault (suc m)

pub tally : View → ℕ → ℕ → Walk → Tally
tally f n k w = tallied f n k w.fault w.slots

-- the walk's state: the bytes so far fit the parts so far, and what is left comes to what the whole comes to
pub record Tallied (s : Settings) (f : View) (F start at n k : ℕ) : Type 0 where
  pub few : k ≤ n * s.size
  pub is : (mark : Bool) → tally f n k (parts_from s f F mark (eqb n 0) (F - 2 - n) at) ≡ tally f 0 0 (parts_from s f F mark true (F - 2) start)

pub start : (s : Settings) (f : View) (F a : ℕ) → Tallied s f F a a 0 0
start s f F a = let e : F - 2 - 0 ≡ F - 2 = omega arith in record { few = omega arith; is = λ mark. rw e refl }

-- a fault is the whole walk's fault, an end its end
is_fault : (f : View) (m j : ℕ) (l : List ℕ) → fault m ≡ tallied f 0 0 j l → j ≡ m
unfolding tallied
is_fault f m zero l e = absurd (let z : ◌≡◌ {A = ℕ} 0 1 = cc in omega arith)
is_fault f m (suc j) l e = cc

is_chain : (f : View) (n k j : ℕ) (l : List ℕ) → chain n k ≡ tallied f 0 0 j l → (j ≡ 0) × (n ≡ length l) × (k ≡ length (rest_body f l))
unfolding tallied
is_chain f n k zero l e =
    let a : n ≡ 0 + length l = cc in
    let b : k ≡ 0 + length (rest_body f l) = cc in (refl, omega arith, omega arith)
is_chain f n k (suc j) l e = absurd (let z : ◌≡◌ {A = ℕ} 0 1 = cc in omega arith)

stopped_tally : (f : View) (n k m : ℕ) → 0 < m → fault m ≡ tally f n k (stopped m)
unfolding tally tallied
stopped_tally f n k zero h = absurd (omega arith)
stopped_tally f n k (suc m) h = refl

-- a part passed: one part and its bytes more, where the walk went on to its end
rest_cons : (f : View) (x : ℕ) (l : List ℕ) → 0 < length l → length (rest_body f (x ∷ l)) ≡ length (f x) - 10 + length (rest_body f l)
unfolding rest_body
rest_cons f x [] h = absurd (omega arith)
rest_cons f x (y ∷ l) h = rw length-append (rw length-drop refl)

tallied_cons : (f : View) (n k x j : ℕ) (l : List ℕ) → (j ≡ 0 → 0 < length l) → tallied f n k j (x ∷ l) ≡ tallied f (n + 1) (k + (length (f x) - 10)) j l
unfolding tallied
tallied_cons f n k x zero l h =
    let a : n + suc (length l) ≡ n + 1 + length l = omega arith in
    let b : k + length (rest_body f (x ∷ l)) ≡ k + (length (f x) - 10) + length (rest_body f l) = omega (arith, rest_cons f x l (h refl)) in
    ap₂ (λ (i j : ℕ). chain i j) a b
tallied_cons f n k x (suc j) l h = refl

passed_tally : (f : View) (n k x : ℕ) (w : Walk) → (w.fault ≡ 0 → 0 < length w.slots) → tally f n k (passed x w) ≡ tally f (n + 1) (k + (length (f x) - 10)) w
unfolding tally
passed_tally f n k x w h = tallied_cons f n k x w.fault w.slots h

-- a walk without fault passed some slot
some_slot : (s : Settings) (f : View) (F : ℕ) (mark after : Bool) (n a : ℕ) → (parts_from s f F mark after n a).fault ≡ 0 → 0 < length (parts_from s f F mark after n a).slots
some_slot s f F mark after n a e = go (parts_from s f F mark after n a).slots (rest_walk s f F mark after n a e).0
  where
    go : (l : List ℕ) → RestAt s f F mark after a l → 0 < length l
    go [] r = absurd r
    go (x ∷ l) r = omega arith

module _ {s : Settings} {f : View} {F a at n k : ℕ} (c : Tallied s f F a at n k) where
  -- the walk stops with this refusal
  stops : (mark : Bool) (m : ℕ) → 0 < m → parts_from s f F mark (eqb n 0) (F - 2 - n) at ≡ stopped m → (parts_from s f F mark true (F - 2) a).fault ≡ m
  unfolding tally
  stops mark m h e = is_fault f m (parts_from s f F mark true (F - 2) a).fault _ (stopped_tally f n k m h ∙ sym (ap (tally f n k) e) ∙ c.is mark)

  -- FILLED - 1 parts with the head, and no last part
  pub limit : F - 2 ≤ n → (mark : Bool) → (parts_from s f F mark true (F - 2) a).fault ≡ 10
  limit h mark = let z : F - 2 - n ≡ 0 = omega arith in stops mark 10 (omega arith) (rw z (part_limit s f F mark (eqb n 0) at))

  module _ (more : n < F - 2) where
    step : F - 2 - n ≡ suc (F - 2 - (n + 1))
    step = omega arith

    -- a link 0 or not below FILLED
    pub unlinked : at ≡ 0 → (mark : Bool) → (parts_from s f F mark true (F - 2) a).fault ≡ 10
    unlinked e mark = stops mark 10 (omega arith) (rw step (part_unlinked s f F mark (eqb n 0) (F - 2 - (n + 1)) at e))

    pub above : F ≤ at → (mark : Bool) → (parts_from s f F mark true (F - 2) a).fault ≡ 10
    above h mark = stops mark 10 (omega arith) (rw step (part_above s f F mark (eqb n 0) (F - 2 - (n + 1)) at h))

    module _ (nz : at ≢ 0) (q : at < F) where
      looked : (mark : Bool) (x : Parse) → x ≡ later_parse s mark (eqb n 0) (f at)
          → parts_from s f F mark (eqb n 0) (F - 2 - n) at ≡ onward at x (parts_from s f F mark false (F - 2 - (n + 1)) (link_of (f at)))
      looked mark x e =
          rw step (part_at s f F mark (eqb n 0) (F - 2 - (n + 1)) at (omega arith) q)
          ∙ ap (λ (y : Parse). onward at y (parts_from s f F mark false (F - 2 - (n + 1)) (link_of (f at)))) (sym e)

      -- the part is refused
      pub bad_part : (r : Refusal) → ((mark after : Bool) → refused (number_of r) ≡ later_parse s mark after (f at))
          → (mark : Bool) → (parts_from s f F mark true (F - 2) a).fault ≡ number_of r
      unfolding onward
      bad_part r e mark = stops mark (number_of r) (number_some r) (looked mark (refused (number_of r)) (e mark (eqb n 0)))

      module _ (kind : PartKind) (m : ℕ) (e : (mark after : Bool) → part kind m ≡ later_parse s mark after (f at)) where
        -- a head is none
        pub no_head : (x : ℕ) → kind ≡ Head x → {X : Type 0} → X
        no_head x h = absurd (subst (Says s (f at)) (sym (e true true) ∙ ap (λ (k : PartKind). part k m) h) (says s true true (f at)))

        -- a last part ends the walk
        pub last : (x : ℕ) → kind ≡ Last x → 2 ≤ s.size → length (f at) ≡ s.size
            → (mark : Bool) → RestIs (Ok (record { parts = n + 1; bytes = k + m })) f (parts_from s f F mark true (F - 2) a)
        unfolding onward is_last tally tallied rest_body sized_body
        last x h lo w mark =
            let p = sym (ap (λ (k : PartKind). part k m) h) ∙ e mark (eqb n 0) in
            let t = subst (Says s (f at)) (sym p) (says s mark (eqb n 0) (f at)) in
            let l : length (rest_body f (at ∷ [])) ≡ m = length_part (f at) 2 (size_of (f at)) (omega (arith, t.1)) ∙ sym t.0 in
            is_chain f (n + 1) (k + m) _ _ (ap (λ (j : ℕ). chain (n + 1) (k + j)) (sym l) ∙ sym (ap (tally f n k) (looked mark (part (Last x) m) p)) ∙ c.is mark)

        -- a continuation: on along its link
        pub turn : (next : ℕ) → kind ≡ Continuation next → length (f at) ≡ s.size → Tallied s f F a next (n + 1) (k + m)
        unfolding onward is_last
        turn next h w =
            let p = λ (mark : Bool). sym (ap (λ (k : PartKind). part k m) h) ∙ e mark (eqb n 0) in
            let t = subst (Says s (f at)) (sym (p true)) (says s true (eqb n 0) (f at)) in
            let b : m ≡ length (f at) - 10 = t.1 ∙ ap (λ (j : ℕ). j - 10) (sym w) in
            let rest = λ (mark : Bool). parts_from s f F mark false (F - 2 - (n + 1)) (link_of (f at)) in
            record {
              few = held_more s.size n k m c.few (omega (arith, t.1));
              is = λ mark.
                  ap (λ (y : Bool). tally f (n + 1) (k + m) (parts_from s f F mark y (F - 2 - (n + 1)) next)) (ne_eqb (n + 1) 0 (omega arith))
                  ∙ ap₂ (λ (i j : ℕ). tally f (n + 1) (k + j) (parts_from s f F mark false (F - 2 - (n + 1)) i)) t.0 b
                  ∙ sym (passed_tally f n k at (rest mark) (some_slot s f F mark false (F - 2 - (n + 1)) (link_of (f at))))
                  ∙ sym (ap (tally f n k) (looked mark (part (Continuation next) m) (p mark)))
                  ∙ c.is mark;
            }

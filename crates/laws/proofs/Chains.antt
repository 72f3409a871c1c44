-- A chain as a relation, `ChainAt`: a head that passes its tests, the links of its parts, its total. The walk finds it (`walk_chain`),
-- and a walk without a fault has met one of at most FILLED - 1 parts (`chain_walk`); stores to other slots leave it and what it holds
-- (`chain_frame`, `content_frame`); its later parts start no chain (`chain_idle`).
use mathlib.Core.Path.{◌≡◌, refl, sym, ap, ◌∙◌, subst}
use mathlib.Core.Logic.{◌≢◌}
use Prim.Native.Nat.{ℕ, zero, suc, ◌-◌, ◌≤◌, ◌<◌}
use native.Mathlib.Omega.{arith}
use mathlib.Core.Bool.{Bool, true, false, cond, ◌||◌, not}
use mathlib.Core.List.{List, [], ◌∷◌}
use mathlib.Core.Option.{none}
use lib.ListN.{length}
use borrow.Author.Tests.{not-false}
use Rattle.definition.specs.declared.Settings.{Settings}
use Rattle.definition.specs.Tests.{refuse}
use Rattle.definition.specs.Settings.{word_bytes, largest_size}
use Rattle.definition.specs.Slots.{View, is_free, is_continuation, is_head, size_of, link_of, head_link, starts, mark_of}
use Rattle.definition.specs.Chains.{head_fault, last_fault, Walk, whole, stopped, passed, parts_from, rest_body, body_of, content_of, total_good, with_total, walk}
use Rattle.definition.specs.Sound.{occ}
use Rattle.laws.proofs.Conditions.{by_order, or_no}
use Rattle.laws.proofs.Tests.{refuse_no, first_pass, first_skip, first_one, passed as unrefused}
use Rattle.laws.proofs.Counting.{hit_other, mem_head, mem_tail, In, in_nil, in_cons}
use Rattle.laws.proofs.Marks.{small_no_mark, continuation_not_free, continuation_not_head, starts_multi}
use Rattle.laws.proofs.Turns.{last_small, part_limit, part_next, part_last, Turn, broken, judged, goes_on, ends, turn}

-- from slot a the links lead over the later parts l: continuations, then a last part that passes its judge
abbrev pub RestAt : Settings → View → ℕ → Bool → Bool → ℕ → List ℕ → Type 0
RestAt s f F mark after a [] = ⊥
RestAt s f F mark after a (x ∷ []) = (a ≡ x) × (0 < x) × (x < F) × (last_fault s mark after (f x) ≡ 0)
RestAt s f F mark after a (x ∷ y ∷ l) = (a ≡ x) × (0 < x) × (x < F) × (is_continuation (f x) ≡ true) × RestAt s f F mark false (link_of (f x)) (y ∷ l)

-- what follows the head h: on a multipart table its later parts, and a total that is theirs; on a fixed one nothing
abbrev pub TailAt : Bool → Settings → View → ℕ → ℕ → List ℕ → Type 0
TailAt true s f F h l = RestAt s f F (mark_of s (f h)) true (head_link s (f h)) l × (total_good s (f h) (length (content_of s f (h ∷ l))) ≡ true)
TailAt false s f F h l = l ≡ []

-- a well_formed chain at h on these slots
abbrev pub ChainAt : Settings → View → ℕ → ℕ → List ℕ → Type 0
ChainAt s f F h [] = ⊥
ChainAt s f F h (x ∷ l) = (x ≡ h) × (0 < h) × (h < F) × (head_fault s none 8 (f h) ≡ 0) × TailAt s.multipart s f F h l

-- ---- the walk finds what the relation says

walk_rest : (s : Settings) (f : View) (F : ℕ) (mark after : Bool) (n a : ℕ) (l : List ℕ) → s.size ≤ largest_size → RestAt s f F mark after a l → length l ≤ n
    → parts_from s f F mark after n a ≡ whole l
walk_rest s f F mark after n a [] hi r h = absurd r
walk_rest s f F mark after zero a (x ∷ l) hi r h = absurd (omega arith)
walk_rest s f F mark after (suc n) a (x ∷ []) hi r h =
    let m = small_no_mark s.size (f x) hi (last_small s mark after (f x) r.3) in
    rw r.0 (part_last s f F mark after n x r.1 r.2 (or_no (is_free (f x)) (is_head (f x)) m.not_free m.not_head) m.not_continuation r.3)
walk_rest s f F mark after (suc n) a (x ∷ y ∷ l) hi r h =
    let m : (is_free (f x) || is_head (f x)) ≡ false = or_no (is_free (f x)) (is_head (f x)) (continuation_not_free (f x) r.3) (continuation_not_head (f x) r.3) in
    rw r.0 (part_next s f F mark after n x r.1 r.2 m r.3 ∙ ap (passed x) (walk_rest s f F mark false n (link_of (f x)) (y ∷ l) hi r.4 (omega arith)))

tail_walk : (m : Bool) (s : Settings) (f : View) (F h : ℕ) (l : List ℕ) → s.size ≤ largest_size → length (h ∷ l) ≤ F - 1 → TailAt m s f F h l
    → cond m (with_total s f h (parts_from s f F (mark_of s (f h)) true (F - 2) (head_link s (f h)))) (whole (h ∷ [])) ≡ whole (h ∷ l)
unfolding with_total
tail_walk true s f F h l hi b r =
    rw (walk_rest s f F (mark_of s (f h)) true (F - 2) (head_link s (f h)) l hi r.0 (omega arith))
    (ap (λ (n : ℕ). record { slots = h ∷ l; fault = n })
    (first_skip 0 _ refl ∙ first_one _ ∙ refuse_no 10 (not (total_good s (f h) (length (content_of s f (h ∷ l))))) (ap not r.1)))
tail_walk false s f F h l hi b r = rw r refl

pub walk_chain : (s : Settings) (f : View) (F h : ℕ) (l : List ℕ) → s.size ≤ largest_size → length l ≤ F - 1 → ChainAt s f F h l → walk s f F h ≡ whole l
unfolding walk
walk_chain s f F h [] hi b r = absurd r
walk_chain s f F h (x ∷ l) hi b r = tail_walk s.multipart s f F h l hi b r.4 ∙ ap (λ (y : ℕ). whole (y ∷ l)) (sym r.0)

-- ---- and only that

-- a walk without a fault has passed later parts, at most n of them
abbrev Walked : Settings → View → ℕ → Bool → Bool → ℕ → ℕ → Walk → Type 0
Walked s f F mark after n a w = w.fault ≡ 0 → RestAt s f F mark after a w.slots × (length w.slots ≤ n)

halted : (s : Settings) (f : View) (F : ℕ) (mark after : Bool) (n a k : ℕ) (w : Walk) → w ≡ stopped (suc k) → Walked s f F mark after n a w
halted s f F mark after n a k w e z = absurd (omega (arith, ap (λ (v : Walk). v.fault) e))

rest_cons : (s : Settings) (f : View) (F : ℕ) (mark after : Bool) (a : ℕ) (l : List ℕ) → 0 < a → a < F → is_continuation (f a) ≡ true
    → RestAt s f F mark false (link_of (f a)) l → RestAt s f F mark after a (a ∷ l)
rest_cons s f F mark after a [] p q c r = absurd r
rest_cons s f F mark after a (y ∷ l) p q c r = (refl, p, q, c, r)

pub rest_walk : (s : Settings) (f : View) (F : ℕ) (mark after : Bool) (n a : ℕ) → Walked s f F mark after n a (parts_from s f F mark after n a)
rest_walk s f F mark after zero a = halted s f F mark after 0 a 9 _ (part_limit s f F mark after a)
rest_walk s f F mark after (suc n) a = go (turn s f F mark after n a) (rest_walk s f F mark false n (link_of (f a)))
  where
    go : Turn s f F mark after n a → Walked s f F mark false n (link_of (f a)) (parts_from s f F mark false n (link_of (f a)))
        → Walked s f F mark after (suc n) a (parts_from s f F mark after (suc n) a)
    go (broken e) more = halted s f F mark after (suc n) a 9 _ e
    go (judged k l e) more = halted s f F mark after (suc n) a k _ e
    go (goes_on p q c e) more =
        subst (Walked s f F mark after (suc n) a) (sym e)
        (λ z. let r = more z in (rest_cons s f F mark after a (parts_from s f F mark false n (link_of (f a))).slots p q c r.0, omega (arith, r.1)))
    go (ends p q l e) more = subst (Walked s f F mark after (suc n) a) (sym e) (λ z. ((refl, p, q, l), omega arith))

walk_tail : (m : Bool) (s : Settings) (f : View) (F h : ℕ) (w : Walk) → 1 < F
    → w ≡ cond m (with_total s f h (parts_from s f F (mark_of s (f h)) true (F - 2) (head_link s (f h)))) (whole (h ∷ [])) → w.fault ≡ 0
    → (k : List ℕ) × (w.slots ≡ h ∷ k) × TailAt m s f F h k × (length k ≤ F - 2)
unfolding with_total
walk_tail true s f F h w p e z =
    let rest : Walk = parts_from s f F (mark_of s (f h)) true (F - 2) (head_link s (f h)) in
    let a = first_pass rest.fault _ (sym (ap (λ (v : Walk). v.fault) e) ∙ z) in
    let t = first_pass (refuse 10 (not (total_good s (f h) (length (content_of s f (h ∷ rest.slots)))))) _ a.1 in
    let r = rest_walk s f F (mark_of s (f h)) true (F - 2) (head_link s (f h)) a.0 in
    (rest.slots, ap (λ (v : Walk). v.slots) e, (r.0, not-false _ (unrefused 10 _ (omega arith) t.0)), r.1)
walk_tail false s f F h w p e z = ([], ap (λ (v : Walk). v.slots) e, refl, omega arith)

-- a walk without a fault has met a well_formed chain, of at most FILLED - 1 parts
pub chain_walk : (s : Settings) (f : View) (F h : ℕ) → 0 < h → h < F → head_fault s none 8 (f h) ≡ 0 → (walk s f F h).fault ≡ 0
    → ChainAt s f F h (walk s f F h).slots × (length (walk s f F h).slots ≤ F - 1)
unfolding walk
chain_walk s f F h p q hf e =
    let r = walk_tail s.multipart s f F h (walk s f F h) (omega arith) refl e in
    let b : length (h ∷ r.0) ≤ F - 1 = omega (arith, r.3) in
    let c : ChainAt s f F h (h ∷ r.0) = (refl, p, q, hf, r.2) in
    (rw r.1 c, rw r.1 b)

-- ---- members

pub chain_head : (s : Settings) (f : View) (F h : ℕ) (l : List ℕ) → ChainAt s f F h l → (0 < h) × (h < F) × (0 < occ h l)
chain_head s f F h [] c = absurd c
chain_head s f F h (x ∷ l) c = (c.1, c.2, subst (λ (y : ℕ). 0 < occ y (x ∷ l)) c.0 (mem_head x l))

pub rest_in : (s : Settings) (f : View) (F : ℕ) (mark after : Bool) (a : ℕ) (l : List ℕ) → RestAt s f F mark after a l → In F l
rest_in s f F mark after a [] r = absurd r
rest_in s f F mark after a (x ∷ []) r = in_cons F x [] r.1 r.2 (in_nil F)
rest_in s f F mark after a (x ∷ y ∷ l) r = in_cons F x (y ∷ l) r.1 r.2 (rest_in s f F mark false (link_of (f x)) (y ∷ l) r.4)

tail_in : (m : Bool) (s : Settings) (f : View) (F h : ℕ) (l : List ℕ) → TailAt m s f F h l → In F l
tail_in true s f F h l r = rest_in s f F (mark_of s (f h)) true (head_link s (f h)) l r.0
tail_in false s f F h l r = rw r (in_nil F)

pub chain_in : (s : Settings) (f : View) (F h : ℕ) (l : List ℕ) → ChainAt s f F h l → In F l
chain_in s f F h [] r = absurd r
chain_in s f F h (x ∷ l) r = in_cons F x l (omega (arith, r.0, r.1)) (omega (arith, r.0, r.2)) (tail_in s.multipart s f F h l r.4)

-- the head passed its tests, so a chain starts there
pub head_starts : (s : Settings) (b : List ℕ) → head_fault s none 8 b ≡ 0 → starts s b ≡ true
unfolding head_fault
head_starts s b e = not-false (starts s b) (unrefused 8 (not (starts s b)) (omega arith) (first_pass _ _ e).0)

-- what every member of a chain's later parts has, if continuations and last parts have it
pub rest_each : (P : List ℕ → Type 0) (s : Settings) (f : View) (F : ℕ) (mark after : Bool) (a : ℕ) (l : List ℕ) → s.size ≤ largest_size
    → ((b : List ℕ) → is_continuation b ≡ true → P b) → ((b : List ℕ) → size_of b ≤ s.size - word_bytes → P b)
    → RestAt s f F mark after a l → (i : ℕ) → 0 < occ i l → P (f i)
unfolding occ
rest_each P s f F mark after a [] hi c z r i m = absurd r
rest_each P s f F mark after a (x ∷ []) hi c z r i m =
    by_order x i
    (λ b. absurd (omega (arith, hit_other i x (omega arith))))
    (λ e. rw e (z (f x) (last_small s mark after (f x) r.3)))
    (λ b. absurd (omega (arith, hit_other i x (omega arith))))
rest_each P s f F mark after a (x ∷ y ∷ l) hi c z r i m =
    let next : i ≢ x → P (f i) = λ ne. rest_each P s f F mark false (link_of (f x)) (y ∷ l) hi c z r.4 i (omega (arith, hit_other i x ne)) in
    by_order x i (λ b. next (omega arith)) (λ e. rw e (c (f x) r.3)) (λ b. next (omega arith))

pub rest_not_head : (s : Settings) (f : View) (F : ℕ) (mark after : Bool) (a : ℕ) (l : List ℕ) → s.size ≤ largest_size → RestAt s f F mark after a l
    → (i : ℕ) → 0 < occ i l → is_head (f i) ≡ false
rest_not_head s f F mark after a l hi =
    rest_each (λ b. is_head b ≡ false) s f F mark after a l hi continuation_not_head (λ b z. (small_no_mark s.size b hi z).not_head)

pub rest_not_free : (s : Settings) (f : View) (F : ℕ) (mark after : Bool) (a : ℕ) (l : List ℕ) → s.size ≤ largest_size → RestAt s f F mark after a l
    → (i : ℕ) → 0 < occ i l → is_free (f i) ≡ false
rest_not_free s f F mark after a l hi =
    rest_each (λ b. is_free b ≡ false) s f F mark after a l hi continuation_not_free (λ b z. (small_no_mark s.size b hi z).not_free)

tail_idle : (b : Bool) (s : Settings) (f : View) (F h : ℕ) (l : List ℕ) → s.multipart ≡ b → s.size ≤ largest_size → TailAt b s f F h l
    → (i : ℕ) → 0 < occ i l → starts s (f i) ≡ false
unfolding occ
tail_idle true s f F h l e hi r i m = starts_multi s (f i) e ∙ rest_not_head s f F (mark_of s (f h)) true (head_link s (f h)) l hi r.0 i m
tail_idle false s f F h l e hi r i m = absurd (omega (arith, ap (occ i) r))

-- a chain's later parts start no chain
pub chain_idle : (s : Settings) (f : View) (F h : ℕ) (l : List ℕ) → s.size ≤ largest_size → ChainAt s f F h l → (i : ℕ) → i ≢ h → 0 < occ i l → starts s (f i) ≡ false
unfolding occ
chain_idle s f F h [] hi r i ne m = absurd r
chain_idle s f F h (x ∷ l) hi r i ne m =
    tail_idle s.multipart s f F h l refl hi r.4 i (omega (arith, r.0, hit_other i x (omega (arith, r.0))))

-- ---- stores to other slots

-- f and g hold the same in the slots of l
abbrev pub Same : View → View → List ℕ → Type 0
Same f g l = (i : ℕ) → 0 < occ i l → g i ≡ f i

pub same_head : (f g : View) (x : ℕ) (l : List ℕ) → Same f g (x ∷ l) → g x ≡ f x
same_head f g x l e = e x (mem_head x l)

pub same_tail : (f g : View) (x : ℕ) (l : List ℕ) → Same f g (x ∷ l) → Same f g l
same_tail f g x l e i h = e i (mem_tail i x l h)

pub rest_frame : (s : Settings) (f g : View) (F G : ℕ) (mark after : Bool) (a : ℕ) (l : List ℕ) → F ≤ G → Same f g l
    → RestAt s f F mark after a l → RestAt s g G mark after a l
rest_frame s f g F G mark after a [] h e r = r
rest_frame s f g F G mark after a (x ∷ []) h e r = let k = same_head f g x [] e in (r.0, r.1, omega (arith, r.2), rw k r.3)
rest_frame s f g F G mark after a (x ∷ y ∷ l) h e r =
    let k = same_head f g x (y ∷ l) e in
    (r.0, r.1, omega (arith, r.2), rw k r.3, rw k (rest_frame s f g F G mark false (link_of (f x)) (y ∷ l) h (same_tail f g x (y ∷ l) e) r.4))

pub rest_body_frame : (f g : View) (l : List ℕ) → Same f g l → rest_body g l ≡ rest_body f l
unfolding rest_body
rest_body_frame f g [] e = refl
rest_body_frame f g (x ∷ []) e = let k = same_head f g x [] e in rw k refl
rest_body_frame f g (x ∷ y ∷ l) e =
    let k = same_head f g x (y ∷ l) e in rw (k, rest_body_frame f g (y ∷ l) (same_tail f g x (y ∷ l) e)) refl

pub content_frame : (s : Settings) (f g : View) (l : List ℕ) → Same f g l → content_of s g l ≡ content_of s f l
unfolding content_of body_of
content_frame s f g [] e = refl
content_frame s f g (x ∷ l) e = let k = same_head f g x l e in rw (k, rest_body_frame f g l (same_tail f g x l e)) refl

tail_frame : (m : Bool) (s : Settings) (f g : View) (F G h : ℕ) (l : List ℕ) → F ≤ G → Same f g (h ∷ l) → TailAt m s f F h l → TailAt m s g G h l
tail_frame true s f g F G h l b e r =
    let k = same_head f g h l e in (
      rw k (rest_frame s f g F G (mark_of s (f h)) true (head_link s (f h)) l b (same_tail f g h l e) r.0),
      rw (k, content_frame s f g (h ∷ l) e) r.1,
    )
tail_frame false s f g F G h l b e r = r

pub chain_frame : (s : Settings) (f g : View) (F G h : ℕ) (l : List ℕ) → F ≤ G → Same f g l → ChainAt s f F h l → ChainAt s g G h l
chain_frame s f g F G h [] b e r = r
chain_frame s f g F G h (x ∷ l) b e r =
    let same : Same f g (h ∷ l) = subst (λ (y : ℕ). Same f g (y ∷ l)) r.0 e in
    let k : g h ≡ f h = same_head f g h l same in
    (r.0, r.1, omega (arith, r.2), rw k r.3, tail_frame s.multipart s f g F G h l b same r.4)

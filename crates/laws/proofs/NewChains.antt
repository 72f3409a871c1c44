-- The chain that insert and replace store is well formed and holds the key, content and mark lent, with a count of 1 (`new_holds`):
-- one law for plain slots and for heads with later parts, over any pieces that are cut as `pieces_cut` says.
use mathlib.Core.Path.{◌≡◌, refl, sym, ap, ◌∙◌, subst}
use Prim.Native.Nat.{ℕ, ◌+◌, ◌-◌, ◌^◌, ◌≤◌, ◌<◌}
use native.Mathlib.Omega.{arith}
use mathlib.Core.Bool.{Bool, true, false, cond, ◌&&◌, not}
use mathlib.Core.List.{List, [], ◌∷◌, ◌++◌, append-nil, head_d}
use mathlib.Core.Option.{none}
use lib.ListN.{length, take, drop, length-append, length-drop, take-append-drop}
use lib.Seq.{take_at, drop_at, length-take-le, take-append-le}
use lib.Dec.{eqb, ltb}
use borrow.Author.Tests.{eq-eqb, ne_eqb, le-ltb}
use Rattle.definition.specs.declared.Settings.{Settings}
use Rattle.definition.specs.Numbers.{over}
use Rattle.definition.specs.Tests.{refuse, first}
use Rattle.definition.specs.Settings.{word_bytes, link_bytes, total_bytes, prefix_len, head_overhead, start_overhead}
use Rattle.definition.specs.Slots.{View, is_free, is_head, size_of, total_of, head_link, starts, count_of, key_of, mark_of, partial_key}
use Rattle.definition.specs.Chains.{key_differs, head_fault, rest_body, body_of, content_of, total_good}
use Rattle.definition.specs.Parts.{prefix, cut_rest, pieces, sized_part, head_part, rest_stores, chain_stores}
use Rattle.definition.specs.Calls.{key_test, value_test}
use Rattle.definition.specs.Sound.{occ}
use Rattle.laws.proofs.Conditions.{cond_yes, cond_no, which, Which, is_yes, is_no, and_left, and_right}
use Rattle.laws.proofs.Tests.{refuse_no, first_skip, first_one}
use Rattle.laws.proofs.Counting.{mem_head, mem_tail, In, in_head, in_tail}
use Rattle.laws.proofs.Stores.{Stored}
use Rattle.laws.proofs.Marks.{small_no_mark, starts_multi, starts_fixed}
use Rattle.laws.proofs.Turns.{last_fits}
use Rattle.laws.proofs.Chains.{RestAt, TailAt, ChainAt}
use Rattle.laws.proofs.Sizes.{Sizes, length_prefix, fixed_fits, multi_fits}
use Rattle.laws.proofs.Overheads.{overhead_bounds, start_fixed, start_multi}
use Rattle.laws.proofs.Parts.{join, Shaped, cut_rest_joins, pieces_fixed, pieces_multi, continuation_mark_lem, continuation_link, continuation_body, sized_size, sized_top, sized_body_lem, sized_front, head_mark_lem, head_compressed, head_total, head_link_lem, head_body, prefix_count, prefix_key}

-- ---- the pieces of a chain

-- one piece for a plain slot, or one that fills a head and those of later parts
abbrev pub Cut : Settings → List (List ℕ) → Type 0
Cut s [] = ⊥
Cut s (p ∷ []) = (s.multipart ≡ false) × (length p ≤ s.size - word_bytes)
Cut s (p ∷ q ∷ ps) = (s.multipart ≡ true) × (length p ≡ s.size - head_overhead s) × Shaped s.size (q ∷ ps)

cut_multi : (s : Settings) (p : List ℕ) (ps : List (List ℕ)) → s.multipart ≡ true → length p ≡ s.size - head_overhead s → Shaped s.size ps → Cut s (p ∷ ps)
cut_multi s p [] m e h = absurd h
cut_multi s p (q ∷ ps) m e h = (m, e, h)

-- key and value that pass their tests are cut so, and joined they are prefix and content
pub pieces_cut : (s : Settings) (key content : List ℕ) → Sizes s → key_test s key ≡ 0 → value_test s content ≡ 0
    → Cut s (pieces s (prefix s key ++ content)) × (join (pieces s (prefix s key ++ content)) ≡ prefix s key ++ content)
unfolding join
pieces_cut s key content z k v = go (which s.multipart)
  where
    body : List ℕ
    body = prefix s key ++ content

    long : length body ≡ prefix_len s + length content
    long = length-append (prefix s key) content ∙ ap (λ (n : ℕ). n + length content) (length_prefix s key k)

    go : Which s.multipart → Cut s (pieces s body) × (join (pieces s body) ≡ body)
    go (is_yes m) =
        let E : ℕ = s.size in
        let front : ℕ = E - head_overhead s in
        let r = cut_rest_joins E (length body) (drop front body) (omega (arith, z.least)) (rw length-drop (omega arith)) in
        let full : length (take front body) ≡ front = length-take-le front body (omega (arith, long, multi_fits s content v m, (overhead_bounds s).0)) in
        rw (pieces_multi s body m) (
          cut_multi s (take front body) (cut_rest E (length body) (drop front body)) m full r.0,
          ap (λ (l : List ℕ). take front body ++ l) r.1 ∙ take-append-drop front body,
        )
    go (is_no m) = rw (pieces_fixed s body m) ((m, omega (arith, long, fixed_fits s content v m)), append-nil body)

-- ---- later parts, stored and walked

-- the slots of l are E bytes long
abbrev pub Whole : ℕ → View → List ℕ → Type 0
Whole E f l = (i : ℕ) → 0 < occ i l → length (f i) ≡ E

module _ (s : Settings) (f g : View) (G : ℕ) (mark : Bool) (z : Sizes s) (small : G ≤ 256 ^ link_bytes) where
  pub rest_holds : (after : Bool) (x : ℕ) (l : List ℕ) (ps : List (List ℕ)) → length ps ≡ length (x ∷ l) → Shaped s.size ps → In G (x ∷ l)
      → Whole s.size f (x ∷ l) → Stored g f (rest_stores mark (x ∷ l) ps) → RestAt s g G mark after x (x ∷ l) × (rest_body g (x ∷ l) ≡ join ps)
  unfolding rest_stores rest_body join
  rest_holds after x l [] e sh i w st = absurd sh
  rest_holds after x [] (p ∷ []) e sh i w st =
      let b : length p < 0x8000 = omega (arith, sh, z.largest) in
      let n = in_head G x [] i in
      let size : size_of (g x) ≡ length p = rw st.0 (sized_size mark p (f x) b) in
      ((refl, n.0, n.1, last_fits s mark after (g x) (omega (arith, sh))), rw st.0 (sized_body_lem mark p (f x) b ∙ sym (append-nil p)))
  rest_holds after x [] (p ∷ q ∷ ps) e sh i w st = absurd (omega arith)
  rest_holds after x (y ∷ l) (p ∷ []) e sh i w st = absurd (omega arith)
  rest_holds after x (y ∷ l) (p ∷ q ∷ ps) e sh i w st =
      let n = in_head G x (y ∷ l) i in
      let ny = in_head G y l (in_tail G x (y ∷ l) i) in
      let yb : y < 256 ^ link_bytes = omega (arith, ny.1) in
      let r = rest_holds false y l (q ∷ ps) (omega arith) sh.1 (in_tail G x (y ∷ l) i) (λ j k. w j (mem_tail j x (y ∷ l) k)) st.1 in (
        (refl, n.0, n.1, rw st.0 (continuation_mark_lem y p (f x)), rw (st.0, continuation_link y p (f x) yb) r.0),
        rw (st.0, continuation_body s.size y p (f x) (omega (arith, z.least)) sh.0 (w x (mem_head x (y ∷ l))), r.1) refl,
      )

-- ---- a new head passes its tests

first_none : (a b c d e : ℕ) → a ≡ 0 → b ≡ 0 → c ≡ 0 → d ≡ 0 → e ≡ 0 → first (a ∷ b ∷ c ∷ d ∷ e ∷ []) ≡ 0
first_none a b c d e p q r t u = first_skip a _ p ∙ first_skip b _ q ∙ first_skip c _ r ∙ first_skip d _ t ∙ first_one e ∙ u

module _ (s : Settings) (b : List ℕ) (one : count_of s b ≡ 1) where
  counts : refuse 8 (eqb (count_of s b) 0) ≡ 0
  counts = refuse_no 8 (eqb (count_of s b) 0) (ne_eqb (count_of s b) 0 (omega arith))

  head_passes_multi : s.multipart ≡ true → is_head b ≡ true → head_fault s none 8 b ≡ 0
  unfolding head_fault key_differs
  head_passes_multi m h =
      first_none _ _ _ _ _ (refuse_no 8 (not (starts s b)) (ap not (starts_multi s b m ∙ h)))
      (refuse_no 9 (not s.multipart && ltb (size_of b) (prefix_len s)) (and_left (not s.multipart) _ (ap not m)))
      counts (refuse_no 8 false refl)
      (refuse_no 9 (not s.multipart && ltb (s.size - word_bytes) (size_of b)) (and_left (not s.multipart) _ (ap not m)))

  head_passes_fixed : s.multipart ≡ false → is_free b ≡ false → prefix_len s ≤ size_of b → size_of b ≤ s.size - word_bytes → head_fault s none 8 b ≡ 0
  unfolding head_fault key_differs
  head_passes_fixed m h p q =
      first_none _ _ _ _ _ (refuse_no 8 (not (starts s b)) (ap not (starts_fixed s b m ∙ ap not h)))
      (refuse_no 9 (not s.multipart && ltb (size_of b) (prefix_len s)) (and_right (not s.multipart) _ (le-ltb (size_of b) (prefix_len s) p)))
      counts (refuse_no 8 false refl)
      (refuse_no 9 (not s.multipart && ltb (s.size - word_bytes) (size_of b)) (and_right (not s.multipart) _ (le-ltb (s.size - word_bytes) (size_of b) q)))

-- ---- what the new chain holds

-- the chain at h on these slots is well formed and holds this key, content and mark, and a count of 1
pub record Holds (s : Settings) (g : View) (F h : ℕ) (l key content : List ℕ) (mark : Bool) : Type 0 where
  pub chain : ChainAt s g F h l
  pub contents : content_of s g l ≡ content
  pub keys : key_of s (g h) ≡ cond s.keyed (partial_key key) []
  pub marks : mark_of s (g h) ≡ mark
  pub counts : count_of s (g h) ≡ 1

module _ (s : Settings) (f g : View) (G : ℕ) (key content : List ℕ) (mark : Bool) (z : Sizes s) (small : G ≤ 256 ^ link_bytes)
    (short : length content < 256 ^ total_bytes) (pre : length (prefix s key) ≡ prefix_len s) where
  -- a piece that has the prefix, with what follows it, has the prefix at its front
  front : (p r : List ℕ) → p ++ r ≡ prefix s key ++ content → prefix_len s ≤ length p → take (prefix_len s) p ≡ prefix s key
  front p r e h = sym (take-append-le (prefix_len s) p r h) ∙ ap (take (prefix_len s)) e ∙ take_at (prefix s key) content (prefix_len s) pre

  long : (p r : List ℕ) → p ++ r ≡ prefix s key ++ content → length p + length r ≡ prefix_len s + length content
  long p r e = sym (length-append p r) ∙ ap length e ∙ length-append (prefix s key) content ∙ ap (λ (n : ℕ). n + length content) pre

  plain_holds : (x : ℕ) (p : List ℕ) → s.multipart ≡ false → length p ≤ s.size - word_bytes → p ++ [] ≡ prefix s key ++ content → 0 < x → x < G
      → g x ≡ over (sized_part mark p) (f x) → Holds s g G x (x ∷ []) key content mark
  unfolding content_of body_of mark_of
  plain_holds x p m fit e b c st =
      let lp = long p [] e in
      let lb : length p < 0x8000 = omega (arith, z.largest) in
      let size : size_of (g x) ≡ length p = rw st (sized_size mark p (f x) lb) in
      let fits : size_of (g x) ≤ s.size - word_bytes = omega arith in
      let fr : take (prefix_len s) (drop (start_overhead s) (g x)) ≡ prefix s key =
      rw (start_fixed s m, st, sized_front mark p (f x)) (take-append-le (prefix_len s) p _ (omega arith) ∙ front p [] e (omega arith)) in
      let one = prefix_count s (g x) key fr in
      record {
        chain = (refl, b, c, head_passes_fixed s (g x) one m (small_no_mark s.size (g x) z.largest fits).not_free (omega arith) fits, subst (λ (d : Bool). TailAt d s g G x []) (sym m) refl);
        contents = ap (drop (prefix_len s)) (cond_no s.multipart _ _ m ∙ rw st (sized_body_lem mark p (f x) lb) ∙ sym (append-nil p) ∙ e) ∙ drop_at (prefix s key) content (prefix_len s) pre;
        keys = prefix_key s (g x) key fr;
        marks = cond_no s.multipart _ _ m ∙ rw st (sized_top mark p (f x) lb);
        counts = one;
      }

  parts_hold : (x y : ℕ) (l p : List ℕ) (ps : List (List ℕ)) → s.multipart ≡ true → length p ≡ s.size - head_overhead s → Shaped s.size ps
      → p ++ join ps ≡ prefix s key ++ content → length ps ≡ length (y ∷ l) → In G (x ∷ y ∷ l) → Whole s.size f (x ∷ y ∷ l)
      → g x ≡ over (head_part s mark (length content) y p) (f x) → Stored g f (rest_stores mark (y ∷ l) ps) → Holds s g G x (x ∷ y ∷ l) key content mark
  unfolding content_of body_of mark_of total_good
  parts_hold x y l p ps m full sh e len i w st sts =
      let roomy = z.roomy m in
      let n = in_head G x (y ∷ l) i in
      let ny = in_head G y l (in_tail G x (y ∷ l) i) in
      let yb : y < 256 ^ link_bytes = omega (arith, ny.1) in
      let r = rest_holds s f g G mark z small true y l ps len sh (in_tail G x (y ∷ l) i) (λ j k. w j (mem_tail j x (y ∷ l) k)) sts in
      let hb : drop (head_overhead s) (g x) ≡ p = rw st (head_body s mark s.size (length content) y p (f x) (omega arith) full (w x (mem_head x (y ∷ l)))) in
      let fr : take (prefix_len s) (drop (start_overhead s) (g x)) ≡ prefix s key = rw (start_multi s m, hb) (front p (join ps) e (omega arith)) in
      let one = prefix_count s (g x) key fr in
      let marks : mark_of s (g x) ≡ mark = cond_yes s.multipart _ _ m ∙ rw st (head_compressed s mark (length content) y p (f x)) in
      let body : body_of s g (x ∷ y ∷ l) ≡ prefix s key ++ content = cond_yes s.multipart _ _ m ∙ rw (hb, r.1) e in
      let contents : content_of s g (x ∷ y ∷ l) ≡ content = ap (drop (prefix_len s)) body ∙ drop_at (prefix s key) content (prefix_len s) pre in
      let total : total_of (g x) ≡ length content = rw st (head_total s mark (length content) y p (f x) short) in
      let link : head_link s (g x) ≡ y = rw st (head_link_lem s mark (length content) y p (f x) yb) in
      let tail : TailAt true s g G x (y ∷ l) = (subst (λ (a : ℕ). RestAt s g G (mark_of s (g x)) true a (y ∷ l)) (sym link) (subst (λ (b : Bool). RestAt s g G b true y (y ∷ l)) (sym marks) r.0), eq-eqb _ _ (total ∙ sym (ap length contents))) in
      record {
        chain = (refl, n.0, n.1, head_passes_multi s (g x) one m (rw st (head_mark_lem s mark (length content) y p (f x))), subst (λ (d : Bool). TailAt d s g G x (y ∷ l)) (sym m) tail);
        contents = contents;
        keys = prefix_key s (g x) key fr;
        marks = marks;
        counts = one;
      }

  pub new_holds : (new : List ℕ) (ps : List (List ℕ)) → Cut s ps → join ps ≡ prefix s key ++ content → length new ≡ length ps → In G new → Whole s.size f new
      → Stored g f (chain_stores s mark (length content) new ps) → Holds s g G (head_d new 0) new key content mark
  unfolding chain_stores head_d join
  new_holds new [] c e len i w st = absurd c
  new_holds [] (p ∷ ps) c e len i w st = absurd (omega arith)
  new_holds (x ∷ []) (p ∷ []) c e len i w st = let n = in_head G x [] i in plain_holds x p c.0 c.1 e n.0 n.1 st.0
  new_holds (x ∷ []) (p ∷ q ∷ ps) c e len i w st = absurd (omega arith)
  new_holds (x ∷ y ∷ l) (p ∷ []) c e len i w st = absurd (omega arith)
  new_holds (x ∷ y ∷ l) (p ∷ q ∷ ps) c e len i w st = parts_hold x y l p (q ∷ ps) c.0 c.1 c.2 e (omega arith) i w st.0 st.1

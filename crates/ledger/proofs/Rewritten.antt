-- The one effect on a sound table: the table stays sound, its free list and FILLED are those that the effect says, the chain at the head
-- is the new one, and the other chains stay where they were (`Rewritten`). So it is where a chain is written (`written`), which then
-- holds what was lent, and where one is removed (`removed`).
use mathlib.Core.Path.{◌≡◌, refl, sym, ap, subst}
use mathlib.Core.Logic.{◌≢◌}
use Prim.Native.Nat.{ℕ, ◌-◌, ◌*◌, ◌^◌, ◌≤◌, ◌<◌}
use native.Mathlib.Nat.{mul-le-mul_right, suc-mul, one-mul}
use native.Mathlib.Omega.{arith}
use mathlib.Core.Bool.{Bool, false}
use mathlib.Core.List.{List, [], ◌∷◌, ◌++◌, head_d}
use mathlib.Core.Option.{some}
use lib.ListN.{length, length-append}
use Rattle.definition.specs.declared.Settings.{Settings}
use Rattle.definition.specs.Settings.{link_bytes, total_bytes, largest_size}
use Rattle.definition.specs.Slots.{View, Store, filled}
use Rattle.definition.specs.FreeList.{free_list, members_of}
use Rattle.definition.specs.Parts.{prefix, pieces}
use Rattle.definition.specs.Effect.{new_slots, left_over, free_after, filled_after, effect}
use Rattle.definition.specs.Calls.{key_test, value_test}
use Rattle.definition.specs.Sound.{occ, chain_at, SoundView}
use Rattle.laws.proofs.Counting.{In, pigeon, mem_head}
use Rattle.laws.proofs.Views.{upd_all}
use Rattle.laws.proofs.Stores.{length_new, occ_free_after}
use Rattle.laws.proofs.FreeLists.{free_marked}
use Rattle.laws.proofs.Marks.{free_idle}
use Rattle.laws.proofs.Chains.{ChainAt, chain_head, Same}
use Rattle.laws.proofs.Sizes.{Sizes, length_prefix}
use Rattle.laws.proofs.Parts.{join, Shaped, pieces_some}
use Rattle.laws.proofs.NewChains.{Cut, pieces_cut, Holds, new_holds}
use Rattle.ledger.proofs.Invariant.{Started, started, Parted, chain_members, after_once, after_in, others_out, set_at}
use Rattle.ledger.proofs.Effects.{chain_stored, unmoved, free_after_lem, stored_parted, header_after}
use Rattle.ledger.proofs.SoundTables.{sound_open, sound_sizes, sound_last, sound_parted, parted_free_list, parted_chain_at, parted_sound}

-- what a rewrite of the chain at hd leaves, f being the view before and g after
pub record Rewritten (s : Settings) (f g : View) (cap hd : ℕ) (new free : List ℕ) (G : ℕ) : Type 0 where
  pub sound : SoundView s g cap
  pub filled_is : filled g ≡ G
  pub free_is : free_list g ≡ some free
  pub chains_are : (h : ℕ) → chain_at s g h ≡ set_at (chain_at s f) hd new h
  pub others_stay : (h : ℕ) → h ≢ hd → Same f g (chain_at s f h)

-- ---- any rewrite of the chain at hd, given the new chain

module _ (s : Settings) (f : View) (cap : ℕ) (k : SoundView s f cap) (bound : cap < 256 ^ link_bytes) (hd : ℕ) (mark : Bool) (total : ℕ) (ps : List (List ℕ))
    (room : filled_after (chain_at s f hd) (members_of (free_list f)) (filled f) (length ps) ≤ cap) where
  pub rewritten : 0 < hd → hd < filled_after (chain_at s f hd) (members_of (free_list f)) (filled f) (length ps)
      → Started s (upd_all f (effect s mark total ps (chain_at s f hd) (members_of (free_list f)) (filled f)))
      (filled_after (chain_at s f hd) (members_of (free_list f)) (filled f) (length ps)) hd (new_slots (chain_at s f hd) (members_of (free_list f)) (filled f) (length ps))
      → Rewritten s f (upd_all f (effect s mark total ps (chain_at s f hd) (members_of (free_list f)) (filled f))) cap hd
      (new_slots (chain_at s f hd) (members_of (free_list f)) (filled f) (length ps))
      (free_after (chain_at s f hd) (members_of (free_list f)) (length ps))
      (filled_after (chain_at s f hd) (members_of (free_list f)) (filled f) (length ps))
  rewritten p q new_chain =
      let free : List ℕ = members_of (free_list f) in
      let F : ℕ = filled f in
      let old : List ℕ = chain_at s f hd in
      let n : ℕ = length ps in
      let g : View = upd_all f (effect s mark total ps old free F) in
      let v : Parted s f F free (chain_at s f) = sound_parted s f cap k in
      let hi : s.size ≤ largest_size = (sound_sizes s f cap k).largest in
      let small : filled_after old free F n < 256 ^ link_bytes = omega arith in
      let hdr = header_after v hd mark total ps hi small (sound_last s f cap k) refl in
      let w : Parted s g (filled g) (free_after old free n) (set_at (chain_at s f) hd (new_slots old free F n)) =
      subst (λ (m : ℕ). Parted s g m (free_after old free n) (set_at (chain_at s f) hd (new_slots old free F n))) (sym hdr.1) (stored_parted v hd mark total ps hi small p q new_chain) in
      record {
        sound = parted_sound s g _ _ w hi hdr.0 cap (sound_open s f cap k).settings (omega (arith, hdr.1));
        filled_is = hdr.1;
        free_is = parted_free_list s g _ _ w hi hdr.0;
        chains_are = parted_chain_at s g _ _ w hi hdr.0;
        others_stay = λ h ne i m.
            unmoved v hd mark total ps hi small i (chain_members v h i m).0
            (omega (arith, others_out v hd n h i ne m)) (omega (arith, others_out v hd n h i ne m, occ_free_after old free F n i));
      }

-- ---- insert and replace

-- pieces joined are no longer than their slots
shaped_short : (E : ℕ) (ps : List (List ℕ)) → Shaped E ps → length (join ps) ≤ length ps * E
unfolding join
shaped_short E [] c = absurd c
shaped_short E (p ∷ []) c = omega (arith, length-append p [], one-mul E)
shaped_short E (p ∷ q ∷ ps) c = omega (arith, c.0, length-append p (join (q ∷ ps)), suc-mul (length (q ∷ ps)) E, shaped_short E (q ∷ ps) c.1)

cut_short : (s : Settings) (ps : List (List ℕ)) → Cut s ps → length (join ps) ≤ length ps * s.size
unfolding join
cut_short s [] c = absurd c
cut_short s (p ∷ []) c = omega (arith, c.1, length-append p [], one-mul s.size)
cut_short s (p ∷ q ∷ ps) c = omega (arith, c.1, length-append p (join (q ∷ ps)), suc-mul (length (q ∷ ps)) s.size, shaped_short s.size (q ∷ ps) c.2)

pub head_member : (l : List ℕ) → 0 < length l → 0 < occ (head_d l 0) l
unfolding head_d
head_member [] h = absurd (omega arith)
head_member (x ∷ l) h = mem_head x l

-- the pieces of a key and a content
abbrev pub cut_of : Settings → List ℕ → List ℕ → List (List ℕ)
cut_of s key content = pieces s (prefix s key ++ content)

-- the stores of a chain with this key, content and mark over the slots old
abbrev pub stores_of : Settings → View → List ℕ → List ℕ → Bool → List ℕ → List Store
stores_of s f key content mark old = effect s mark (length content) (cut_of s key content) old (members_of (free_list f)) (filled f)

-- the new chain's slots, the free list and FILLED afterwards
abbrev pub new_of : Settings → View → List ℕ → List ℕ → List ℕ → List ℕ
new_of s f key content old = new_slots old (members_of (free_list f)) (filled f) (length (cut_of s key content))

abbrev pub free_of : Settings → View → List ℕ → List ℕ → List ℕ → List ℕ
free_of s f key content old = free_after old (members_of (free_list f)) (length (cut_of s key content))

abbrev pub filled_of : Settings → View → List ℕ → List ℕ → List ℕ → ℕ
filled_of s f key content old = filled_after old (members_of (free_list f)) (filled f) (length (cut_of s key content))

-- a chain with this key, content and mark has been written over the slots old of the chain at hd, none for insert
pub record Written (s : Settings) (f : View) (cap hd : ℕ) (key content : List ℕ) (mark : Bool) (old : List ℕ) : Type 0 where
  pub after : Rewritten s f (upd_all f (stores_of s f key content mark old)) cap hd (new_of s f key content old) (free_of s f key content old) (filled_of s f key content old)
  pub holds : Holds s (upd_all f (stores_of s f key content mark old)) (filled_of s f key content old) hd (new_of s f key content old) key content mark
  pub new_in : In (filled_of s f key content old) (new_of s f key content old)
  pub free_in : In (filled_of s f key content old) (free_of s f key content old)

module _ (s : Settings) (f : View) (cap : ℕ) (k : SoundView s f cap) (whole : (i : ℕ) → i < cap → length (f i) ≡ s.size) (bound : cap * s.size < 256 ^ link_bytes)
    (hd : ℕ) (key content : List ℕ) (mark : Bool) (kt : key_test s key ≡ 0) (vt : value_test s content ≡ 0) where
  wrote : filled_of s f key content (chain_at s f hd) ≤ cap → head_d (new_of s f key content (chain_at s f hd)) 0 ≡ hd → Written s f cap hd key content mark (chain_at s f hd)
  wrote room is_head =
      let old : List ℕ = chain_at s f hd in
      let F : ℕ = filled f in
      let free : List ℕ = members_of (free_list f) in
      let ps : List (List ℕ) = cut_of s key content in
      let n : ℕ = length ps in
      let new : List ℕ = new_slots old free F n in
      let G : ℕ = filled_after old free F n in
      let g : View = upd_all f (stores_of s f key content mark old) in
      let z : Sizes s = sound_sizes s f cap k in
      let v : Parted s f F free (chain_at s f) = sound_parted s f cap k in
      let capSmall : cap < 256 ^ link_bytes = omega (arith, mul-le-mul_right cap z.least) in
      let small : G < 256 ^ link_bytes = omega arith in
      let len : length new ≡ n = length_new old free F n in
      let new_in : In G new = λ i m. after_in v hd n i (omega arith) in
      let c = pieces_cut s key content z kt vt in
      let few : n ≤ G - 1 = rw len at (pigeon G new new_in (λ i. omega (arith, after_once v hd n i))) in
      let fewer : n ≤ cap = omega arith in
      let area : n * s.size ≤ cap * s.size = mul-le-mul_right s.size fewer in
      let short : length content < 256 ^ total_bytes = omega (arith, cut_short s ps c.0, ap length c.1, length-append (prefix s key) content, area) in
      let hdIn : (0 < hd) × (hd < G) = subst (λ (h : ℕ). (0 < h) × (h < G)) is_head (new_in (head_d new 0) (head_member new (omega (arith, pieces_some s (prefix s key ++ content))))) in
      let holds : Holds s g G hd new key content mark = subst (λ (h : ℕ). Holds s g G h new key content mark) is_head
      (new_holds s f g G key content mark z (omega arith) short (length_prefix s key kt) new ps c.0 c.1 len new_in
      (λ i m. whole i (omega (arith, (new_in i m).1))) (chain_stored v hd mark (length content) ps z.largest small)) in
      record {
        after = rewritten s f cap k capSmall hd mark (length content) ps room hdIn.0 hdIn.1 (started s g G hd new holds.chain);
        holds = holds;
        new_in = new_in;
        free_in = λ i m. after_in v hd n i (omega arith);
      }

  -- the same, the old slots known by an equation
  pub written : (old : List ℕ) → chain_at s f hd ≡ old → filled_of s f key content old ≤ cap → head_d (new_of s f key content old) 0 ≡ hd → Written s f cap hd key content mark old
  written old e = subst (λ (o : List ℕ). filled_of s f key content o ≤ cap → head_d (new_of s f key content o) 0 ≡ hd → Written s f cap hd key content mark o) e wrote

-- ---- remove

keeps_filled : (old free : List ℕ) (F : ℕ) → filled_after old free F 0 ≡ F
unfolding filled_after
keeps_filled old free F = omega arith

module _ (s : Settings) (f : View) (cap : ℕ) (k : SoundView s f cap) (bound : cap < 256 ^ link_bytes) (hd : ℕ) (c : ChainAt s f (filled f) hd (chain_at s f hd)) where
  pub removed : Rewritten s f (upd_all f (effect s false 0 [] (chain_at s f hd) (members_of (free_list f)) (filled f))) cap hd
      [] (free_after (chain_at s f hd) (members_of (free_list f)) 0) (filled_after (chain_at s f hd) (members_of (free_list f)) (filled f) 0)
  unfolding new_slots left_over
  removed =
      let free : List ℕ = members_of (free_list f) in
      let F : ℕ = filled f in
      let old : List ℕ = chain_at s f hd in
      let g : View = upd_all f (effect s false 0 [] old free F) in
      let G : ℕ = filled_after old free F 0 in
      let same : G ≡ F = keeps_filled old free F in
      let v : Parted s f F free (chain_at s f) = sound_parted s f cap k in
      let room : G ≤ cap = omega (arith, (sound_open s f cap k).fits) in
      let h = chain_head s f F hd old c in
      rewritten s f cap k bound hd false 0 [] room h.0 (omega (arith, h.1))
      (free_idle s (g hd) (free_marked g G (head_d (free_after old free 0) 0) (free_after old free 0) (free_after_lem v hd false 0 [] (sound_sizes s f cap k).largest (omega arith)) hd
      (omega (arith, h.2, occ_free_after old free F 0 hd))))

-- Every store of the one effect fits its slot, and its slot the table (`effect_fits`).
use mathlib.Core.Path.{◌≡◌}
use Prim.Native.Nat.{ℕ, ◌+◌, ◌*◌, ◌≤◌, ◌<◌}
use native.Mathlib.Omega.{arith}
use native.Mathlib.Decide.{ℕ_discrete}
use mathlib.Core.Bool.{Bool}
use mathlib.Core.List.{List, [], ◌∷◌, head_d}
use lib.ListN.{length}
use Rattle.definition.specs.declared.Settings.{Settings}
use Rattle.definition.specs.Settings.{link_overhead, least_size}
use Rattle.definition.specs.Parts.{rest_stores, chain_stores, free_stores}
use Rattle.definition.specs.Effect.{new_slots, left_over, free_left, free_after, filled_after, header_store, header_stores, effect}
use Rattle.definition.specs.Calls.{capacity}
use Rattle.definition.specs.Sound.{occ}
use Rattle.laws.proofs.Views.{Fits}
use Rattle.laws.proofs.Counting.{mem_head, mem_tail, In}
use Rattle.laws.proofs.Stores.{fits_append, header_none, header_one, length_new, occ_free_after}
use Rattle.laws.proofs.Sizes.{Sizes, slot_inside}
use Rattle.laws.proofs.Parts.{Shaped, length_continuation, length_sized, length_head, length_free, length_header}
use Rattle.laws.proofs.NewChains.{Cut}

-- ---- the new chain

-- the slots of l lie within L bytes
abbrev pub Inside : ℕ → ℕ → List ℕ → Type 0
Inside E L l = (i : ℕ) → 0 < occ i l → i * E + E ≤ L

inside_tail : (E L x : ℕ) (l : List ℕ) → Inside E L (x ∷ l) → Inside E L l
inside_tail E L x l h i m = h i (mem_tail i x l m)

fits_rest : (E L : ℕ) (m : Bool) (l : List ℕ) (ps : List (List ℕ)) → link_overhead < E → Shaped E ps → length ps ≡ length l → Inside E L l → Fits E L (rest_stores m l ps)
unfolding rest_stores
fits_rest E L m [] ps h sh e k = tt
fits_rest E L m (x ∷ l) [] h sh e k = absurd sh
fits_rest E L m (x ∷ []) (p ∷ []) h sh e k = (omega (arith, length_sized m p, sh), k x (mem_head x []), tt)
fits_rest E L m (x ∷ []) (p ∷ q ∷ ps) h sh e k = absurd (omega arith)
fits_rest E L m (x ∷ y ∷ l) (p ∷ []) h sh e k = absurd (omega arith)
fits_rest E L m (x ∷ y ∷ l) (p ∷ q ∷ ps) h sh e k = (
  omega (arith, sh.0, length_continuation y p),
  k x (mem_head x (y ∷ l)),
  fits_rest E L m (y ∷ l) (q ∷ ps) h sh.1 (omega arith) (inside_tail E L x (y ∷ l) k),
)

pub fits_chain : (s : Settings) (L : ℕ) (mark : Bool) (total : ℕ) (new : List ℕ) (ps : List (List ℕ)) → Sizes s → Cut s ps → length new ≡ length ps
    → Inside s.size L new → Fits s.size L (chain_stores s mark total new ps)
unfolding chain_stores
fits_chain s L mark total [] ps z c e k = tt
fits_chain s L mark total (x ∷ l) [] z c e k = absurd c
fits_chain s L mark total (x ∷ []) (p ∷ []) z c e k = (omega (arith, z.least, length_sized mark p, c.1), k x (mem_head x []), tt)
fits_chain s L mark total (x ∷ []) (p ∷ q ∷ ps) z c e k = absurd (omega arith)
fits_chain s L mark total (x ∷ y ∷ l) (p ∷ []) z c e k = absurd (omega arith)
fits_chain s L mark total (x ∷ y ∷ l) (p ∷ q ∷ ps) z c e k = (
  omega (arith, z.roomy c.0, c.1, length_head s mark total y p),
  k x (mem_head x (y ∷ l)),
  fits_rest s.size L mark (y ∷ l) (q ∷ ps) (omega (arith, z.least)) c.2 (omega arith) (inside_tail s.size L x (y ∷ l) k),
)

-- ---- freed slots and the header

fits_free : (E L removed : ℕ) (l : List ℕ) → least_size ≤ E → Inside E L l → Fits E L (free_stores removed l)
unfolding free_stores
fits_free E L removed [] h k = tt
fits_free E L removed (x ∷ l) h k = (omega (arith, length_free removed), k x (mem_head x l), fits_free E L x l h (inside_tail E L x l k))

fits_header : (E L : ℕ) (old free : List ℕ) (F n : ℕ) → least_size ≤ E → E ≤ L → Fits E L (header_stores old free F n)
unfolding header_store
fits_header E L old free F n h k = go (ℕ_discrete n (length old))
  where
    go : Dec (n ≡ length old) → Fits E L (header_stores old free F n)
    go (yes e) = rw (header_none old free F n e) tt
    go (no e) = rw (header_one old free F n e) (omega (arith, length_header (head_d (free_after old free n) 0) (filled_after old free F n)), omega arith, tt)

-- ---- the whole effect

-- the pieces of a chain, or none at all, as for remove
abbrev pub CutOrNone : Settings → List (List ℕ) → Type 0
CutOrNone s [] = Unit {0}
CutOrNone s (p ∷ ps) = Cut s (p ∷ ps)

pub cut_any : (s : Settings) (ps : List (List ℕ)) → Cut s ps → CutOrNone s ps
cut_any s [] c = absurd c
cut_any s (p ∷ ps) c = c

fits_new : (s : Settings) (L : ℕ) (mark : Bool) (total : ℕ) (new : List ℕ) (ps : List (List ℕ)) → Sizes s → CutOrNone s ps → length new ≡ length ps
    → Inside s.size L new → Fits s.size L (chain_stores s mark total new ps)
unfolding chain_stores
fits_new s L mark total [] [] z c e k = tt
fits_new s L mark total (x ∷ l) [] z c e k = tt
fits_new s L mark total new (p ∷ ps) z c e k = fits_chain s L mark total new (p ∷ ps) z c e k

-- G is FILLED afterwards, or any bound on what is taken and left free
pub effect_fits : (s : Settings) (t : List ℕ) (mark : Bool) (total F G : ℕ) (old free : List ℕ) (ps : List (List ℕ)) → Sizes s → CutOrNone s ps
    → 0 < capacity s t → G ≤ capacity s t → In G (new_slots old free F (length ps)) → In G (free_after old free (length ps))
    → Fits s.size (length t) (effect s mark total ps old free F)
unfolding effect
effect_fits s t mark total F G old free ps z c pos room ni fi =
    let n : ℕ = length ps in
    fits_append s.size (length t) (chain_stores s mark total (new_slots old free F n) ps) _
    (fits_new s (length t) mark total (new_slots old free F n) ps z c (length_new old free F n) (λ i m. slot_inside s t i (omega (arith, (ni i m).1))))
    (fits_append s.size (length t) (free_stores (head_d (free_left old free n) 0) (left_over old n)) (header_stores old free F n)
    (fits_free s.size (length t) (head_d (free_left old free n) 0) (left_over old n) z.least
    (λ i m. slot_inside s t i (omega (arith, (fi i (omega (arith, occ_free_after old free F n i))).1))))
    (fits_header s.size (length t) old free F n z.least (omega (arith, slot_inside s t 0 pos))))

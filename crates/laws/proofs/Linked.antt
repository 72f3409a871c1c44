-- Slots joined by links, wherever in a slot the link stands: from a slot the links lead over a list and end (`Linked`). Such a list's
-- length can be read off the slots (`linked_length`), and stores to other slots leave it (`linked_upd`). A free list is one such list.
use mathlib.Core.Path.{◌≡◌, refl, sym, ap, ◌∙◌}
use mathlib.Core.Bool.{cond}
use mathlib.Core.List.{List, [], ◌∷◌, head_d}
use Prim.Native.Nat.{ℕ, zero, suc, ◌≤◌, ◌<◌}
use native.Mathlib.Omega.{arith}
use lib.ListN.{length}
use lib.Dec.{eqb}
use borrow.Author.Tests.{eq-eqb, ne_eqb}
use Rattle.definition.specs.Slots.{View, link_of}
use Rattle.definition.specs.Sound.{occ}
use Rattle.laws.proofs.Conditions.{cond_yes, cond_no}
use Rattle.laws.proofs.Counting.{hit_none, In, in_nil, in_cons}
use Rattle.laws.proofs.Views.{upd, upd_other}
use Rattle.laws.proofs.FreeLists.{FreeAt}

-- from slot a the links, which `next` reads in a slot, lead over l and end; each member lies from 1 up to F
abbrev pub Linked : (List ℕ → ℕ) → View → ℕ → ℕ → List ℕ → Type 0
Linked next f F a [] = a ≡ 0
Linked next f F a (x ∷ l) = (a ≡ x) × (0 < x) × (x < F) × Linked next f F (next (f x)) l

-- a free list's links
pub free_linked : (f : View) (F a : ℕ) (l : List ℕ) → FreeAt f F a l → Linked link_of f F a l
free_linked f F a [] r = r
free_linked f F a (x ∷ l) r = (r.0, r.1, r.2, free_linked f F (link_of (f x)) l r.4)

module _ (next : List ℕ → ℕ) where
  pub linked_in : (f : View) (F a : ℕ) (l : List ℕ) → Linked next f F a l → In F l
  linked_in f F a [] r = in_nil F
  linked_in f F a (x ∷ l) r = in_cons F x l r.1 r.2 (linked_in f F (next (f x)) l r.3)

  -- the first slot is the first member, 0 if there is none, and that is below F
  pub linked_head : (f : View) (F a : ℕ) (l : List ℕ) → Linked next f F a l → a ≡ head_d l 0
  unfolding head_d
  linked_head f F a [] r = r
  linked_head f F a (x ∷ l) r = r.0

  pub linked_below : (f : View) (F a : ℕ) (l : List ℕ) → 0 < F → Linked next f F a l → a < F
  linked_below f F a [] p r = omega (arith, r)
  linked_below f F a (x ∷ l) p r = omega (arith, r.0, r.2)

  -- a store to another slot
  pub linked_upd : (f : View) (F x : ℕ) (bs : List ℕ) (a : ℕ) (l : List ℕ) → occ x l ≡ 0 → Linked next f F a l → Linked next (upd f x bs) F a l
  unfolding occ
  linked_upd f F x bs a [] h r = r
  linked_upd f F x bs a (y ∷ l) h r =
      let k : upd f x bs y ≡ f y = upd_other f x y bs (λ e. hit_none x y (omega arith) (sym e)) in
      (r.0, r.1, r.2, rw k (linked_upd f F x bs (next (f y)) l (omega arith) r.3))

  -- the members counted by following the links, up to n: a loop's measure
  unfoldable pub link_count : View → ℕ → ℕ → ℕ
  link_count f zero a = 0
  link_count f (suc n) a = let more = suc (link_count f n (next (f a))) in cond (eqb a 0) 0 more

  pub linked_length : (f : View) (F n a : ℕ) (l : List ℕ) → Linked next f F a l → length l ≤ n → link_count f n a ≡ length l
  unfolding link_count
  linked_length f F zero a [] r h = refl
  linked_length f F zero a (x ∷ l) r h = absurd (omega arith)
  linked_length f F (suc n) a [] r h = cond_yes (eqb a 0) _ _ (eq-eqb a 0 r)
  linked_length f F (suc n) a (x ∷ l) r h =
      rw r.0 (cond_no (eqb x 0) _ _ (ne_eqb x 0 (omega (arith, r.1))) ∙ ap suc (linked_length f F n (next (f x)) l r.3 (omega arith)))

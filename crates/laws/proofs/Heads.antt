-- The slot of a call and the head in it: what the slot's test says (`slot_zero`, `slot_above`, `slot_good`), and that a head's parse tells
-- the first of the head's tests that refuses (`parse_fault`), or what starts there (`parse_part`).
use mathlib.Core.Path.{◌≡◌, refl, sym, ap, ◌∙◌}
use mathlib.Core.Logic.{◌≢◌}
use mathlib.Core.Bool.{Bool, true, false, cond}
use mathlib.Core.List.{List}
use mathlib.Core.Option.{Option}
use Prim.Native.Nat.{ℕ, zero, suc, ◌≤◌, ◌<◌}
use lib.Dec.{eqb, leb}
use borrow.Author.Tests.{eq-eqb, ne_eqb, le-leb, lt-leb}
use Rattle.definition.specs.declared.Settings.{Settings}
use Rattle.definition.specs.declared.PartKind.{PartKind}
use Rattle.definition.specs.Slots.{View, filled}
use Rattle.definition.specs.Chains.{Parse, refused, part, unless_refused, head_fault, start_part, head_parse}
use Rattle.definition.specs.Calls.{slot_test}
use Rattle.laws.proofs.Conditions.{or_left, or_right, or_no}
use Rattle.laws.proofs.Tests.{refuse_yes, refuse_no}

-- ---- the slot

module _ (f : View) (h : ℕ) where
  pub slot_zero : h ≡ 0 → slot_test f h ≡ 7
  unfolding slot_test
  slot_zero e = refuse_yes 7 _ (or_left (eqb h 0) (leb (filled f) h) (eq-eqb h 0 e))

  pub slot_above : filled f ≤ h → slot_test f h ≡ 7
  unfolding slot_test
  slot_above e = refuse_yes 7 _ (or_right (eqb h 0) (leb (filled f) h) (le-leb (filled f) h e))

  pub slot_good : h ≢ 0 → h < filled f → slot_test f h ≡ 0
  unfolding slot_test
  slot_good z b = refuse_no 7 _ (or_no (eqb h 0) (leb (filled f) h) (ne_eqb h 0 z) (lt-leb (filled f) h b))

-- ---- the head

-- the refusal of a look at a slot, 0 if there is none
abbrev pub fault_in : Parse → ℕ
fault_in (refused n) = n
fault_in (part k n) = 0

start_fault : (s : Settings) (b : List ℕ) → fault_in (start_part s b) ≡ 0
unfolding start_part
start_fault s b = go s.multipart _ _ _ _
  where
    go : (m : Bool) (k l : PartKind) (i j : ℕ) → fault_in (cond m (part k i) (part l j)) ≡ 0
    go true k l i j = refl
    go false k l i j = refl

module _ (s : Settings) (key : Option (List ℕ)) (mismatch : ℕ) (b : List ℕ) where
  -- what was found tells the head's fault
  pub parse_fault : (p : Parse) → p ≡ head_parse s key mismatch b → head_fault s key mismatch b ≡ fault_in p
  unfolding head_parse unless_refused
  parse_fault p e = go (head_fault s key mismatch b) ∙ ap fault_in (sym e)
    where
      go : (n : ℕ) → n ≡ fault_in (unless_refused n (start_part s b))
      go zero = sym (start_fault s b)
      go (suc n) = refl

  -- a part that was found is what starts there
  pub parse_part : (k : PartKind) (n : ℕ) → part k n ≡ head_parse s key mismatch b → part k n ≡ start_part s b
  unfolding head_parse unless_refused
  parse_part k n e = e ∙ ap (λ (m : ℕ). unless_refused m (start_part s b)) (parse_fault (part k n) e)

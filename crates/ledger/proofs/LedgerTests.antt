-- On a sound table the tests of a chain answer as the ledger's do (`chain_tests_lem`): the slot (7), then whether a chain starts there (8) and
-- whether the checked key differs (8). The others, 9 and 10, cannot refuse: a chain that starts is well formed (`Case`).
use mathlib.Core.Path.{◌≡◌, refl, sym, ap, ◌∙◌}
use Prim.Native.Nat.{ℕ, zero, suc, ◌-◌, ◌<◌}
use native.Mathlib.Omega.{arith}
use mathlib.Core.Bool.{false, ◌&&◌, not}
use mathlib.Core.List.{List, [], ◌∷◌, ◌++◌}
use mathlib.Core.Option.{Option, none, some}
use lib.Dec.{eqb, ltb}
use Rattle.definition.specs.declared.Settings.{Settings}
use Rattle.definition.specs.Tests.{refuse, first}
use Rattle.definition.specs.Settings.{word_bytes, prefix_len}
use Rattle.definition.specs.Slots.{View, size_of, filled, starts, count_of}
use Rattle.definition.specs.Chains.{walk, key_differs, head_fault}
use Rattle.definition.specs.Calls.{slot_test, chain_tests}
use Rattle.definition.specs.Sound.{chain_at, SoundView}
use Rattle.definition.specs.Ledger.{Chain, slots_in, absent_test, chain_test, ledger_key_test}
use Rattle.definition.specs.Run.{chain_on, ledger_view}
use Rattle.laws.proofs.Conditions.{cond_yes, cond_no, which, Which, is_yes, is_no}
use Rattle.laws.proofs.Tests.{refuse_yes, refuse_no, first_skip, first_stop, first_pass, first_cons, first_one}
use Rattle.laws.proofs.Chains.{ChainAt, chain_walk}
use Rattle.laws.proofs.Starts.{starts_at_in, chain_at_in}
use Rattle.laws.proofs.Passed.{slot_passed}

-- ---- the chain at a slot in use: there is none, or it is well formed and the walk finds it

pub data Case (s : Settings) (f : View) (h : ℕ) : Type 0 where
  absent : starts s (f h) ≡ false → chain_at s f h ≡ [] → Case s f h
  present : ChainAt s f (filled f) h (chain_at s f h) → head_fault s none 8 (f h) ≡ 0 → (walk s f (filled f) h).fault ≡ 0
      → (walk s f (filled f) h).slots ≡ chain_at s f h → Case s f h

pub cases : (s : Settings) (f : View) (cap : ℕ) → SoundView s f cap → (h : ℕ) → 0 < h → h < filled f → Case s f h
cases s f cap k h p q = go (which (starts s (f h)))
  where
    go : Which (starts s (f h)) → Case s f h
    go (is_no e) = absent e (chain_at_in s f h p q ∙ cond_no (starts s (f h)) _ _ e)
    go (is_yes e) =
        let a = first_pass (head_fault s none 8 (f h)) _ (k.formed h (starts_at_in s f h p q ∙ e)) in
        let b = first_pass (walk s f (filled f) h).fault [] a.1 in
        let c : chain_at s f h ≡ (walk s f (filled f) h).slots = chain_at_in s f h p q ∙ cond_yes (starts s (f h)) _ _ e in
        present (rw c (chain_walk s f (filled f) h p q a.0 b.0).0) a.0 b.0 (sym c)

-- ---- the head's tests

pub head_absent : (s : Settings) (key : Option (List ℕ)) (b : List ℕ) → starts s b ≡ false → head_fault s key 8 b ≡ 8
unfolding head_fault
head_absent s key b e =
    let r : refuse 8 (not (starts s b)) ≡ 8 = refuse_yes 8 (not (starts s b)) (ap not e) in
    first_stop (refuse 8 (not (starts s b))) _ (omega arith) ∙ r

-- a head that passes without a key differs with one only by the key
pub head_keyed : (s : Settings) (key : Option (List ℕ)) (b : List ℕ) → head_fault s none 8 b ≡ 0 → head_fault s key 8 b ≡ refuse 8 (key_differs s key b)
unfolding head_fault
head_keyed s key b e =
    let a = first_pass (refuse 8 (not (starts s b))) _ e in
    let c = first_pass (refuse 9 (not s.multipart && ltb (size_of b) (prefix_len s))) _ a.1 in
    let d = first_pass (refuse 8 (eqb (count_of s b) 0)) _ c.1 in
    let k = first_pass (refuse 8 (key_differs s none b)) _ d.1 in
    let l = first_pass (refuse 9 (not s.multipart && ltb (s.size - word_bytes) (size_of b))) _ k.1 in
    first_skip (refuse 8 (not (starts s b))) _ a.0 ∙ first_skip (refuse 9 (not s.multipart && ltb (size_of b) (prefix_len s))) _ c.0
    ∙ first_skip (refuse 8 (eqb (count_of s b) 0)) _ d.0 ∙ first_cons (refuse 8 (key_differs s key b)) _ [] (first_skip _ [] l.0) ∙ first_one (refuse 8 (key_differs s key b))

-- ---- the ledger's

-- the slots of the ledger's chain
pub slots_on : (s : Settings) (f : View) (h : ℕ) (l : List ℕ) → slots_in (chain_on s f h l) ≡ l
unfolding slots_in chain_on
slots_on s f h [] = refl
slots_on s f h (x ∷ l) = refl

key_on : (s : Settings) (f : View) (F h : ℕ) (key : Option (List ℕ)) (l : List ℕ) → ChainAt s f F h l
    → ledger_key_test s key (chain_on s f h l) ≡ refuse 8 (key_differs s key (f h))
unfolding ledger_key_test chain_on key_differs refuse
key_on s f F h key [] c = absurd c
key_on s f F h none (x ∷ l) c = refl
key_on s f F h (some k) (x ∷ l) c = refl

-- without a key it never refuses
pub key_none : (s : Settings) (c : Option Chain) → ledger_key_test s none c ≡ 0
unfolding ledger_key_test
key_none s none = refl
key_none s (some c) = refl

module _ (s : Settings) (f : View) (h : ℕ) where
  on_view : (l : List ℕ) → chain_at s f h ≡ l → chain_test (ledger_view s f) h ≡ first (slot_test f h ∷ absent_test (chain_on s f h l) ∷ [])
  unfolding chain_test ledger_view slot_test
  on_view l e = ap (λ (m : List ℕ). first (slot_test f h ∷ absent_test (chain_on s f h m) ∷ [])) e

  -- a slot that is none in use
  ledger_slot : (n : ℕ) → slot_test f h ≡ suc n → chain_test (ledger_view s f) h ≡ suc n
  ledger_slot n e = on_view (chain_at s f h) refl ∙ first_stop (slot_test f h) _ (omega arith) ∙ e

  -- no chain starts
  ledger_absent : slot_test f h ≡ 0 → chain_at s f h ≡ [] → chain_test (ledger_view s f) h ≡ 8
  unfolding chain_on absent_test
  ledger_absent e l = on_view [] l ∙ first_skip (slot_test f h) _ e ∙ first_one 8

  -- one does
  ledger_present : (F : ℕ) (l : List ℕ) → slot_test f h ≡ 0 → chain_at s f h ≡ l → ChainAt s f F h l → chain_test (ledger_view s f) h ≡ 0
  unfolding chain_on absent_test
  ledger_present F [] e l c = absurd c
  ledger_present F (x ∷ m) e l c = on_view (x ∷ m) l ∙ first_skip (slot_test f h) _ e ∙ first_one 0

-- ---- side by side

module _ (s : Settings) (f : View) (cap : ℕ) (k : SoundView s f cap) (h : ℕ) where
  -- the slot's and the head's tests, then tests that answer alike where the chain is there
  agree_head : (key : Option (List ℕ)) (r q : List ℕ) → (ChainAt s f (filled f) h (chain_at s f h) → (walk s f (filled f) h).fault ≡ 0
      → (walk s f (filled f) h).slots ≡ chain_at s f h → first (refuse 8 (key_differs s key (f h)) ∷ r) ≡ first q)
      → first (slot_test f h ∷ head_fault s key 8 (f h) ∷ r) ≡ first (chain_test (ledger_view s f) h ∷ q)
  agree_head key r q same = slot (slot_test f h) refl
    where
      look : slot_test f h ≡ 0 → Case s f h → first (head_fault s key 8 (f h) ∷ r) ≡ first (chain_test (ledger_view s f) h ∷ q)
      look e (absent a l) =
          let p : head_fault s key 8 (f h) ≡ 8 = head_absent s key (f h) a in
          let m : chain_test (ledger_view s f) h ≡ 8 = ledger_absent s f h e l in
          first_stop (head_fault s key 8 (f h)) r (omega arith) ∙ p ∙ sym m ∙ sym (first_stop (chain_test (ledger_view s f) h) q (omega arith))
      look e (present c a b l) =
          ap (λ (n : ℕ). first (n ∷ r)) (head_keyed s key (f h) a) ∙ same c b l
          ∙ sym (first_skip (chain_test (ledger_view s f) h) q (ledger_present s f h (filled f) (chain_at s f h) e refl c))

      slot : (n : ℕ) → slot_test f h ≡ n → first (slot_test f h ∷ head_fault s key 8 (f h) ∷ r) ≡ first (chain_test (ledger_view s f) h ∷ q)
      slot zero e = let b = slot_passed f h e in first_skip (slot_test f h) _ e ∙ look e (cases s f cap k h b.0 b.1)
      slot (suc n) e =
          let m : chain_test (ledger_view s f) h ≡ suc n = ledger_slot s f h n e in
          first_stop (slot_test f h) _ (omega arith) ∙ e ∙ sym m ∙ sym (first_stop (chain_test (ledger_view s f) h) q (omega arith))

  -- slot, head, chain and key
  pub chain_tests_lem : (key : Option (List ℕ)) (r q : List ℕ)
      → (ChainAt s f (filled f) h (chain_at s f h) → (walk s f (filled f) h).slots ≡ chain_at s f h → first r ≡ first q)
      → first (chain_tests s f h key ++ r) ≡ first (chain_test (ledger_view s f) h ∷ ledger_key_test s key (chain_on s f h (chain_at s f h)) ∷ q)
  chain_tests_lem key r q same =
      agree_head key ((walk s f (filled f) h).fault ∷ r) (ledger_key_test s key (chain_on s f h (chain_at s f h)) ∷ q)
      (λ c b l. ap (λ (n : ℕ). first (n ∷ (walk s f (filled f) h).fault ∷ r)) (sym (key_on s f (filled f) h key (chain_at s f h) c))
      ∙ first_cons (ledger_key_test s key (chain_on s f h (chain_at s f h))) _ q (first_skip (walk s f (filled f) h).fault r b ∙ same c l))

  -- the same of a call that checks no key
  pub chain_tests_only : (r q : List ℕ)
      → (ChainAt s f (filled f) h (chain_at s f h) → (walk s f (filled f) h).slots ≡ chain_at s f h → first r ≡ first q)
      → first (chain_tests s f h none ++ r) ≡ first (chain_test (ledger_view s f) h ∷ q)
  chain_tests_only r q same =
      chain_tests_lem none r q same
      ∙ first_cons (chain_test (ledger_view s f) h) _ q (first_skip (ledger_key_test s none (chain_on s f h (chain_at s f h))) q (key_none s (chain_on s f h (chain_at s f h))))

  -- slot and head alone, as where the count is changed
  pub head_tests : first (slot_test f h ∷ head_fault s none 8 (f h) ∷ []) ≡ first (chain_test (ledger_view s f) h ∷ [])
  unfolding key_differs
  head_tests = agree_head none [] [] (λ c b l. first_skip (refuse 8 false) [] (refuse_no 8 false refl))

  -- where the ledger's test passes the chain is there
  pub chain_there : chain_test (ledger_view s f) h ≡ 0 → ChainAt s f (filled f) h (chain_at s f h) × ((walk s f (filled f) h).slots ≡ chain_at s f h)
  chain_there e = slot (slot_test f h) refl
    where
      look : slot_test f h ≡ 0 → Case s f h → ChainAt s f (filled f) h (chain_at s f h) × ((walk s f (filled f) h).slots ≡ chain_at s f h)
      look z (absent a l) = absurd (omega (arith, ledger_absent s f h z l))
      look z (present c a b l) = (c, l)

      slot : (n : ℕ) → slot_test f h ≡ n → ChainAt s f (filled f) h (chain_at s f h) × ((walk s f (filled f) h).slots ≡ chain_at s f h)
      slot zero z = let b = slot_passed f h z in look z (cases s f cap k h b.0 b.1)
      slot (suc n) z = absurd (omega (arith, ledger_slot s f h n z))

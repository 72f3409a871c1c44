-- What the passed tests of a call say, on any table, sound or not: settings, length and header (`opened`), the slot (`slot_passed`), the
-- chain (`chain_passed`) and the free list (`free_passed`).
use mathlib.Core.Path.{◌≡◌, refl, ◌∙◌}
use mathlib.Core.Logic.{◌≢◌}
use Prim.Native.Nat.{ℕ, ◌-◌, ◌≤◌, ◌<◌}
use native.Mathlib.Omega.{arith}
use mathlib.Core.Bool.{false, ◌&&◌, ◌||◌, not}
use mathlib.Core.List.{List, [], ◌∷◌}
use mathlib.Core.Option.{Option, none, some}
use lib.ListN.{length}
use lib.Dec.{eqb, leb, ltb}
use borrow.Author.Tests.{eqb-false, ne_eqb, lt-leb, le-ltb, leb-false, ltb-false}
use Rattle.definition.specs.declared.Settings.{Settings}
use Rattle.definition.specs.Tests.{refuse, first}
use Rattle.definition.specs.Settings.{prefix_len, bad_settings}
use Rattle.definition.specs.Slots.{View, size_of, last_removed, filled, starts, count_of}
use Rattle.definition.specs.FreeList.{free_list, members_of}
use Rattle.definition.specs.Chains.{whole, walk, key_differs, head_fault}
use Rattle.definition.specs.Calls.{settings_test, buffer_test, header_test, slot_test, free_list_test, table_tests, chain_tests}
use Rattle.laws.proofs.Conditions.{cond_no, or_no, no_or}
use Rattle.laws.proofs.Tests.{refuse_no, passed, first_skip, first_pass, first_one}
use Rattle.laws.proofs.FreeLists.{FreeAt, free_walk}
use Rattle.laws.proofs.Chains.{ChainAt, chain_walk}
use Rattle.laws.proofs.Starts.{filled_pos}

-- ---- settings, length and header

-- what 1, 2 and 3 leave
pub record Opened (s : Settings) (f : View) (cap : ℕ) : Type 0 where
  pub settings : bad_settings s ≡ false
  pub buffer : 0 < cap
  pub removed : last_removed f < filled f
  pub fits : filled f ≤ cap

module _ (s : Settings) (f : View) (cap : ℕ) where
  pub opened : first (table_tests s f cap) ≡ 0 → Opened s f cap
  unfolding settings_test buffer_test header_test
  opened e =
      let a = first_pass (settings_test s) _ e in
      let b = first_pass (buffer_test cap) _ a.1 in
      let c = first_pass (header_test f cap) _ b.1 in
      let h = no_or (leb (filled f) (last_removed f)) (ltb cap (filled f)) (passed 3 _ (omega arith) c.0) in
      let fits : filled f ≤ cap = ltb-false cap (filled f) h.1 in
      record {
        settings = passed 1 (bad_settings s) (omega arith) a.0;
        buffer = omega (arith, filled_pos f);
        removed = leb-false (filled f) (last_removed f) h.0;
        fits = fits;
      }

  pub open_tests : bad_settings s ≡ false → last_removed f < filled f → filled f ≤ cap → first (table_tests s f cap) ≡ 0
  unfolding settings_test buffer_test header_test
  open_tests b r h =
      first_skip (settings_test s) _ (refuse_no 1 (bad_settings s) b)
      ∙ first_skip (buffer_test cap) _ (refuse_no 2 (eqb cap 0) (ne_eqb cap 0 (omega (arith, filled_pos f))))
      ∙ first_one (header_test f cap)
      ∙ refuse_no 3 _ (or_no (leb (filled f) (last_removed f)) (ltb cap (filled f)) (lt-leb (filled f) (last_removed f) r) (le-ltb cap (filled f) h))

-- ---- slot, chain and free list

pub slot_passed : (f : View) (h : ℕ) → slot_test f h ≡ 0 → (0 < h) × (h < filled f)
unfolding slot_test
slot_passed f h e =
    let a = no_or (eqb h 0) (leb (filled f) h) (passed 7 (eqb h 0 || leb (filled f) h) (omega arith) e) in
    let n : h ≢ 0 = eqb-false h 0 a.0 in
    (omega arith, leb-false (filled f) h a.1)

-- a head that passes with a checked key passes without
pub head_unkeyed : (s : Settings) (key : Option (List ℕ)) (b : List ℕ) → head_fault s key 8 b ≡ 0 → head_fault s none 8 b ≡ 0
unfolding head_fault key_differs
head_unkeyed s key b e =
    let a = first_pass (refuse 8 (not (starts s b))) _ e in
    let m = first_pass (refuse 9 (not s.multipart && ltb (size_of b) (prefix_len s))) _ a.1 in
    let c = first_pass (refuse 8 (eqb (count_of s b) 0)) _ m.1 in
    let k = first_pass (refuse 8 (key_differs s key b)) _ c.1 in
    first_skip (refuse 8 (not (starts s b))) _ a.0 ∙ first_skip (refuse 9 (not s.multipart && ltb (size_of b) (prefix_len s))) _ m.0
    ∙ first_skip (refuse 8 (eqb (count_of s b) 0)) _ c.0 ∙ first_skip (refuse 8 false) _ (refuse_no 8 false refl) ∙ k.1

-- the walk met a well_formed chain, of at most FILLED - 1 parts
pub chain_passed : (s : Settings) (f : View) (h : ℕ) (key : Option (List ℕ)) → first (chain_tests s f h key) ≡ 0
    → ChainAt s f (filled f) h (walk s f (filled f) h).slots × (length (walk s f (filled f) h).slots ≤ filled f - 1)
chain_passed s f h key e =
    let a = first_pass (slot_test f h) _ e in
    let b = first_pass (head_fault s key 8 (f h)) _ a.1 in
    let c = first_pass (walk s f (filled f) h).fault _ b.1 in
    let p = slot_passed f h a.0 in
    chain_walk s f (filled f) h p.0 p.1 (head_unkeyed s key (f h) b.0) c.0

-- on a fixed table a chain is its head alone
pub walk_fixed : (s : Settings) (f : View) (F h : ℕ) → s.multipart ≡ false → walk s f F h ≡ whole (h ∷ [])
unfolding walk
walk_fixed s f F h m = cond_no s.multipart _ (whole (h ∷ [])) m

free_some : (o : Option (List ℕ)) → free_list_test o ≡ 0 → o ≡ some (members_of o)
unfolding free_list_test members_of
free_some none e = absurd (omega arith)
free_some (some l) e = refl

pub free_passed : (f : View) → free_list_test (free_list f) ≡ 0 → FreeAt f (filled f) (last_removed f) (members_of (free_list f))
unfolding free_list
free_passed f e = (free_walk f (filled f) (filled f - 1) (last_removed f) (members_of (free_list f)) (free_some (free_list f) e)).0

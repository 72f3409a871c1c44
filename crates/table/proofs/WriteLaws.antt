-- Insert, replace and remove, each way out: refused by its tests; or, once they have passed, on any table, sound or not, the effect may
-- start (`…-starts`), and what it leaves is what the definition says (`…-done`).
use mathlib.Core.Path.{◌≡◌, refl, sym, ap, ap₂, ◌∙◌}
use mathlib.Core.Bool.{Bool, false}
use mathlib.Core.List.{List, [], ◌++◌, head_d}
use mathlib.Core.Option.{none}
use Prim.Native.Nat.{ℕ}
use lib.Dec.{eqb}
use lib.ListN.{length}
use Rattle.definition.specs.declared.Settings.{Settings}
use Rattle.definition.specs.declared.Refusal.{Refusal}
use Rattle.definition.specs.Tests.{number_of, first}
use Rattle.definition.specs.Slots.{view, store}
use Rattle.definition.specs.FreeList.{free_list}
use Rattle.definition.specs.Parts.{prefix, pieces}
use Rattle.definition.specs.Effect.{new_slots, effect}
use Rattle.definition.specs.Answers.{refusal, at, accepted}
use Rattle.definition.specs.Calls.{capacity, key_test, value_test, free_list_test, table_tests, value_tests, chain_tests, insert, replace, remove}
use Rattle.laws.proofs.Tests.{number_some, first_both, first_pass, first_one}
use Rattle.laws.proofs.Passed.{opened}
use Rattle.writes.specs.Steps.{clear_stores}
use Rattle.writes.specs.Ready.{Fit, Writable, Freeable}
use Rattle.writes.proofs.Accepted.{fit, ready_insert, ready_replace, freeing_remove, remove_stores, free_of, filled_of}
use Rattle.checks.specs.Stages.{insert_tests, replace_tests, remove_tests, chain_of, new_parts}
use Rattle.table.proofs.Outcomes.{refuses, accepts_to}

-- ---- a value written

module _ (s : Settings) (key content t : List ℕ) where
  -- the tests of the table and of the value passed
  value_fits : first (table_tests s (view s.size t) (capacity s t)) ≡ 0 → first (value_tests s key content) ≡ 0 → (key_test s key ≡ 0) × Fit s (prefix s key ++ content)
  value_fits o v =
      let k = first_pass (key_test s key) _ v in
      (k.0, fit s key content (opened _ _ _ o).settings k.0 (first_pass (value_test s content) _ k.1).0)

  -- what the effect leaves of the table, the old chain's slots being `old`
  abbrev written : Bool → List ℕ → List ℕ
  written mark old = store s.size t (effect s mark (length content) (pieces s (prefix s key ++ content)) old (free_of s t) (filled_of s t))

  pub insert_refused : (mark : Bool) (r : Refusal) → first (insert_tests s key content t) ≡ number_of r → (refusal (number_of r), t) ≡ insert s key content mark t
  unfolding insert
  insert_refused mark r e = refuses _ _ _ _ e (number_some r)

  module _ (e : first (insert_tests s key content t) ≡ 0) where
    pub insert_starts : Writable s false key content t [] (free_of s t) 0
    insert_starts =
        let o = first_both (table_tests s (view s.size t) (capacity s t)) _ e in
        let v = first_both (value_tests s key content) _ o.1 in
        let l = first_pass (free_list_test (free_list (view s.size t))) _ v.1 in
        let f = value_fits o.0 v.0 in
        record { keyed = f.0; fit = f.1; ready = ready_insert s t o.0 l.0 _ refl _ (sym (first_one _) ∙ l.1) }

    pub insert_done : (mark : Bool) (u : List ℕ) (h : ℕ) → (u ≡ written mark []) × (h ≡ head_d (new_slots [] (free_of s t) (filled_of s t) (new_parts s key content)) 0)
        → (at h, u) ≡ insert s key content mark t
    unfolding insert
    insert_done mark u h w = accepts_to _ _ (ap₂ (λ (n : ℕ) (b : List ℕ). (at n, b)) w.1 w.0) e

  module _ (h : ℕ) where
    pub replace_refused : (mark : Bool) (r : Refusal) → first (replace_tests s key content h t) ≡ number_of r → (refusal (number_of r), t) ≡ replace s key content mark h t
    unfolding replace
    replace_refused mark r e = refuses _ _ _ _ e (number_some r)

    module _ (e : first (replace_tests s key content h t) ≡ 0) where
      pub replace_starts : (same : Bool) → same ≡ eqb (new_parts s key content) (length (chain_of s t h)) → Writable s same key content t (chain_of s t h) (free_of s t) h
      replace_starts same stays =
          let o = first_both (table_tests s (view s.size t) (capacity s t)) _ e in
          let v = first_both (value_tests s key content) _ o.1 in
          let w = first_both (chain_tests s (view s.size t) h none) _ v.1 in
          let l = first_pass (free_list_test (free_list (view s.size t))) _ w.1 in
          let f = value_fits o.0 v.0 in
          record { keyed = f.0; fit = f.1; ready = ready_replace s t o.0 l.0 _ refl h w.0 same _ (sym (first_one _) ∙ l.1) stays }

      pub replace_done : (mark : Bool) (u : List ℕ) → u ≡ written mark (chain_of s t h) → (accepted, u) ≡ replace s key content mark h t
      unfolding replace
      replace_done mark u w = accepts_to _ _ (ap (λ (b : List ℕ). (accepted, b)) w) e

-- ---- a chain freed

module _ (s : Settings) (h : ℕ) (t : List ℕ) where
  pub remove_refused : (r : Refusal) → first (remove_tests s h t) ≡ number_of r → (refusal (number_of r), t) ≡ remove s h t
  unfolding remove
  remove_refused r e = refuses _ _ _ _ e (number_some r)

  module _ (e : first (remove_tests s h t) ≡ 0) where
    -- the tests of the table, of the chain and of the free list, each passed
    passes : (first (table_tests s (view s.size t) (capacity s t)) ≡ 0) × (first (chain_tests s (view s.size t) h none) ≡ 0) × (free_list_test (free_list (view s.size t)) ≡ 0)
    passes =
        let o = first_both (table_tests s (view s.size t) (capacity s t)) _ e in
        let w = first_both (chain_tests s (view s.size t) h none) _ o.1 in
        (o.0, w.0, sym (first_one _) ∙ w.1)

    pub remove_starts : Freeable s t (chain_of s t h) (free_of s t) h
    remove_starts = freeing_remove s t passes.0 passes.2 _ refl h passes.1

    pub remove_done : (u : List ℕ) → u ≡ store s.size t (clear_stores false (chain_of s t h) (free_of s t) (filled_of s t)) → (accepted, u) ≡ remove s h t
    unfolding remove
    remove_done u w =
        accepts_to _ _ (ap (λ (b : List ℕ). (accepted, b)) (w ∙ ap (store s.size t) (remove_stores s t passes.0 passes.2 _ refl h passes.1))) e

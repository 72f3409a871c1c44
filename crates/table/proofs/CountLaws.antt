-- The change of a count and the length of the free list, each way out: refused by the checks of the table, of the slot or of the head,
-- or answered as the definition says.
use mathlib.Core.Path.{◌≡◌, refl, sym, ap, ◌∙◌}
use mathlib.Core.Bool.{true, false, not}
use mathlib.Core.List.{List, [], ◌∷◌}
use mathlib.Core.Option.{Option, none, some}
use Prim.Native.Nat.{ℕ, ◌+◌, ◌*◌, ◌≤◌}
use native.Mathlib.Omega.{arith}
use lib.IntN.{ℤ}
use lib.ListN.{length}
use Rattle.std.specs.Prelude.{Ok, Err, Result, Some, None}
use Rattle.std.specs.Prelude.{Option as Left}
use Rattle.definition.specs.declared.Settings.{Settings}
use Rattle.definition.specs.declared.Refusal.{Refusal}
use Rattle.definition.specs.Numbers.{bytes, put}
use Rattle.definition.specs.Tests.{number_of, first}
use Rattle.definition.specs.Settings.{start_overhead}
use Rattle.definition.specs.Slots.{view, store}
use Rattle.definition.specs.FreeList.{free_list}
use Rattle.definition.specs.Chains.{head_fault}
use Rattle.definition.specs.Answers.{Answer, refusal, count, members, changed_of, free_count_of}
use Rattle.definition.specs.Calls.{capacity, table_tests, uncounted_test, slot_test, new_count, counted, Change, decision, change, free_count}
use Rattle.laws.proofs.Tests.{number_some, refuse_yes, refuse_no, first_skip, first_pass, first_past, first_one, first_refuses}
use Rattle.laws.proofs.Sizes.{slot_inside}
use Rattle.laws.proofs.Overheads.{start_fits}
use Rattle.laws.proofs.Passed.{opened, slot_passed}
use Rattle.laws.proofs.Counts.{count_store_lem}
use Rattle.walks.specs.Met.{FreeIs}
use Rattle.counts.specs.Counts.{CountIs, stepped_to}
use Rattle.checks.proofs.CheckLaws.{first_refusal}
use Rattle.table.proofs.Outcomes.{refuses, accepts, answer_refuses, answer_accepts}

-- ---- the change of a count

stepped_last : (o : Option ℕ) → None ≡ stepped_to o → o ≡ none
stepped_last none e = refl
stepped_last (some n) e = absurd (let z : ◌≡◌ {A = ℕ} 0 1 = cc in omega arith)

stepped_count : (o : Option ℕ) (n : ℕ) → Some n ≡ stepped_to o → o ≡ some n
stepped_count none n e = absurd (let z : ◌≡◌ {A = ℕ} 0 1 = cc in omega arith)
stepped_count (some m) n e = cc

module _ (s : Settings) (z : ℤ) (h : ℕ) (t : List ℕ) where
  pub change_closed : (r : Refusal) → first (table_tests s (view s.size t) (capacity s t)) ≡ number_of r → (refusal (number_of r), t) ≡ change s z h t
  unfolding change
  change_closed r e = refuses (number_of r) _ t _ (first_refusal r _ _ e) (number_some r)

  module _ (o : first (table_tests s (view s.size t) (capacity s t)) ≡ 0) where
    pub change_uncounted : s.counted ≡ false → (refusal 5, t) ≡ change s z h t
    unfolding change uncounted_test
    change_uncounted e = refuses 5 _ t _ (first_past _ _ o ∙ first_refuses 5 _ _ (refuse_yes 5 _ (ap not e)) (omega arith)) (omega arith)

    module _ (y : s.counted ≡ true) where
      -- the slot and the head decide
      rest : first (decision s (Change z h) t).tests ≡ first (slot_test (view s.size t) h ∷ head_fault s none 8 (view s.size t h) ∷ [])
      unfolding uncounted_test
      rest = first_past _ _ o ∙ first_skip _ _ (refuse_no 5 _ (ap not y))

      pub change_refused : (r : Refusal) → CountIs (Err r) s (view s.size t) h → (refusal (number_of r), t) ≡ change s z h t
      unfolding change
      change_refused r e = refuses (number_of r) _ t _ (rest ∙ e) (number_some r)

      module _ (c : ℕ) (e : CountIs (Ok c) s (view s.size t) h) where
        -- the count may be stored: its slot lies within the table
        pub change_inside : h * s.size + s.size ≤ length t
        change_inside = slot_inside s t h (omega (arith, (slot_passed (view s.size t) h (first_pass _ _ e.0).0).1, (opened s (view s.size t) (capacity s t) o).fits))

        -- the answer and the table where the new count is n
        abbrev stepped : Option ℕ → Answer × List ℕ
        stepped n = let out = counted s h (view s.size t h) n in (out.0, store s.size t out.1)

        changed : (n : Option ℕ) → new_count c z ≡ n → stepped n ≡ change s z h t
        unfolding change
        changed n q = ap stepped (sym q ∙ ap (λ (i : ℕ). new_count i z) e.1) ∙ accepts _ t _ (rest ∙ e.0)

        pub change_last : (left : Left ℕ) → left ≡ stepped_to (new_count c z) → ((n : ℕ) → left ≡ Some n → ⊥) → (changed_of (Ok left), t) ≡ change s z h t
        unfolding counted store
        change_last None q g = changed none (stepped_last _ q)
        change_last (Some n) q g = absurd (g n refl)

        pub change_stored : (n : ℕ) → Some n ≡ stepped_to (new_count c z)
            → (u : List ℕ) → u ≡ put t (h * s.size + start_overhead s) (bytes 4 n) → (count n, u) ≡ change s z h t
        unfolding counted
        change_stored n q u w =
            let g = (opened s (view s.size t) (capacity s t) o).settings in
            ap (λ (x : List ℕ). (count n, x)) (w ∙ sym (count_store_lem s t h n (omega (arith, start_fits s g)) change_inside))
            ∙ changed (some n) (stepped_count _ n q)

-- ---- the length of the free list

module _ (s : Settings) (t : List ℕ) where
  pub free_closed : (r : Refusal) → first (table_tests s (view s.size t) (capacity s t)) ≡ number_of r → refusal (number_of r) ≡ free_count s t
  unfolding free_count
  free_closed r e = answer_refuses (number_of r) _ _ (first_refusal r _ _ e) (number_some r)

  pub free_decides : first (table_tests s (view s.size t) (capacity s t)) ≡ 0 → (r : Result ℕ Refusal) → FreeIs r (free_list (view s.size t)) → free_count_of r ≡ free_count s t
  unfolding free_count
  free_decides o (Ok n) e = ap members e.1 ∙ answer_accepts _ _ (first_past _ _ o ∙ first_one _ ∙ e.0)
  free_decides o (Err r) e = answer_refuses (number_of r) _ _ (first_past _ _ o ∙ first_one _ ∙ e) (number_some r)

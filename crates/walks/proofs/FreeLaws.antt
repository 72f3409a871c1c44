-- The walk of the free list counts its members: after n members, at slot `at`, what is still to be walked gives the same count and
-- the same fault as the whole list (`Counting`); each way out and the turn keep it.
use mathlib.Core.Path.{◌≡◌, refl, sym, ap, ◌∙◌}
use mathlib.Core.Logic.{◌≢◌}
use mathlib.Core.Bool.{true, false}
use mathlib.Core.List.{List}
use mathlib.Core.Option.{Option, none, some}
use Prim.Native.Nat.{ℕ, suc, ◌+◌, ◌-◌, ◌≤◌, ◌<◌}
use native.Mathlib.Omega.{arith}
use lib.ListN.{length}
use Rattle.definition.specs.Slots.{View, is_free, link_of}
use Rattle.definition.specs.FreeList.{push, free_from, members_of}
use Rattle.definition.specs.Calls.{free_list_test}
use Rattle.laws.proofs.Turns.{free_end, free_limit, free_above, free_unmarked, free_next}

-- 0 for a fault, else one more than the members, n of them passed before
pub code : ℕ → Option (List ℕ) → ℕ
code n none = 0
code n (some l) = suc (n + length l)

code_push : (n x : ℕ) (o : Option (List ℕ)) → code n (push x o) ≡ code (n + 1) o
unfolding code push
code_push n x none = refl
code_push n x (some l) = omega arith

pub record Counting (f : View) (F start at n : ℕ) : Type 0 where
  pub most : n ≤ F - 1
  pub is : code n (free_from f F (F - 1 - n) at) ≡ code 0 (free_from f F (F - 1) start)

pub start : (f : View) (F a : ℕ) → Counting f F a a 0
start f F a = let e : F - 1 - 0 ≡ F - 1 = omega arith in record { most = omega arith; is = rw e refl }

is_none : (o : Option (List ℕ)) → 0 ≡ code 0 o → free_list_test o ≡ 11
unfolding code free_list_test
is_none none e = refl
is_none (some l) e = absurd (omega arith)

is_some : (n : ℕ) (o : Option (List ℕ)) → suc n ≡ code 0 o → (free_list_test o ≡ 0) × (length (members_of o) ≡ n)
unfolding code free_list_test members_of
is_some n none e = absurd (omega arith)
is_some n (some l) e = (refl, omega arith)

module _ (f : View) (F a at n : ℕ) (c : Counting f F a at n) where
  pub ends : at ≡ 0 → (free_list_test (free_from f F (F - 1) a) ≡ 0) × (length (members_of (free_from f F (F - 1) a)) ≡ n)
  unfolding code
  ends e = is_some n (free_from f F (F - 1) a) (let z : suc n ≡ suc (n + 0) = omega arith in z ∙ sym (ap (code n) (free_end f F (F - 1 - n) at e)) ∙ c.is)

  -- the list ends, with n members
  pub passes : at ≡ 0 → free_list_test (free_from f F (F - 1) a) ≡ 0
  passes e = (ends e).0

  pub members : at ≡ 0 → length (members_of (free_from f F (F - 1) a)) ≡ n
  members e = (ends e).1

  stops : free_from f F (F - 1 - n) at ≡ none → free_list_test (free_from f F (F - 1) a) ≡ 11
  unfolding code
  stops e = is_none (free_from f F (F - 1) a) (sym (ap (code n) e) ∙ c.is)

  module _ (nz : at ≢ 0) where
    -- FILLED - 1 members and no end
    pub limit : F - 1 ≤ n → free_list_test (free_from f F (F - 1) a) ≡ 11
    limit h = let k : F - 1 - n ≡ 0 = omega arith in stops (rw k (free_limit f F 0 at nz))

    module _ (more : n < F - 1) where
      step : F - 1 - n ≡ suc (F - 1 - (n + 1))
      step = omega arith

      -- a member not below FILLED, or not marked free
      pub above : F ≤ at → free_list_test (free_from f F (F - 1) a) ≡ 11
      above h = stops (rw step (free_above f F (F - 1 - (n + 1)) at nz h))

      pub unmarked : is_free (f at) ≡ false → free_list_test (free_from f F (F - 1) a) ≡ 11
      unmarked m = stops (rw step (free_unmarked f F (F - 1 - (n + 1)) at nz m))

      -- a member: on along its link
      pub turn : (next : ℕ) → at < F → is_free (f at) ≡ true → next ≡ link_of (f at) → Counting f F a next (n + 1)
      turn next b m e =
          record {
            most = omega arith;
            is =
                ap (λ (x : ℕ). code (n + 1) (free_from f F (F - 1 - (n + 1)) x)) e
                ∙ sym (code_push n at (free_from f F (F - 1 - (n + 1)) (link_of (f at))))
                ∙ ap (code n) (sym (rw step (free_next f F (F - 1 - (n + 1)) at nz b m)))
                ∙ c.is;
          }

-- each way out, and the turn
pub ruleset free_walk = (passes, members, limit, above, unmarked, turn)

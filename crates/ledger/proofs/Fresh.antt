-- A fresh table is sound (`fresh_sound`): its first 16 bytes are zero, it has room for one slot or more, and the settings are good. What
-- the other bytes are does not matter. So the theorems are about something.
use mathlib.Core.Path.{◌≡◌, refl, sym, ap, ◌∙◌}
use Prim.Native.Nat.{ℕ, ◌+◌, ◌≤◌}
use native.Mathlib.Omega.{arith}
use native.Mathlib.Decide.{dec_lt}
use mathlib.Core.Bool.{false}
use mathlib.Core.List.{List, [], ◌∷◌}
use lib.ListN.{take, drop, replicate}
use lib.Seq.{take-take}
use Rattle.definition.specs.declared.Settings.{Settings}
use Rattle.definition.specs.Numbers.{le, num}
use Rattle.definition.specs.Settings.{link_bytes, bad_settings}
use Rattle.definition.specs.Slots.{View, view, last_removed, filled}
use Rattle.definition.specs.FreeList.{free_from, free_list}
use Rattle.definition.specs.Calls.{capacity, free_list_test, table_tests}
use Rattle.definition.specs.Sound.{starts_at, Sound}
use Rattle.laws.proofs.Conditions.{yes-no}
use Rattle.laws.proofs.Lists.{drop_take}
use Rattle.laws.proofs.Tests.{first_past, first_one}
use Rattle.laws.proofs.Views.{view_zero}
use Rattle.laws.proofs.Sizes.{sizes}
use Rattle.laws.proofs.Starts.{starts_at_zero, starts_at_above}
use Rattle.laws.proofs.Passed.{open_tests}

-- sixteen zeros at the front of slot 0: no free slot, and FILLED reads as 1
fresh_header : (f : View) → take (link_bytes + link_bytes) (f 0) ≡ replicate (link_bytes + link_bytes) 0 → (last_removed f ≡ 0) × (filled f ≡ 1)
unfolding last_removed filled num le
fresh_header f e =
    let a : num 0 link_bytes (f 0) ≡ 0 = ap le (sym (take-take link_bytes (link_bytes + link_bytes) (f 0) (omega arith)) ∙ ap (take link_bytes) e) in
    let b : num link_bytes link_bytes (f 0) ≡ 0 = ap le (sym (drop_take link_bytes (link_bytes + link_bytes) (f 0)) ∙ ap (drop link_bytes) e) in
    (a, rw b refl)

pub fresh_sound : (s : Settings) (t : List ℕ) → bad_settings s ≡ false → 1 ≤ capacity s t → take 16 t ≡ replicate 16 0 → Sound s t
unfolding free_list free_from free_list_test
fresh_sound s t b c e =
    let f : View = view s.size t in
    let front : take 16 (f 0) ≡ take 16 t = ap (take 16) (view_zero s.size t) ∙ take-take 16 s.size t (omega (arith, (sizes s b).least)) in
    let h = fresh_header f (front ∙ e) in
    record {
      accepted = first_past (table_tests s f (capacity s t)) (free_list_test (free_list f) ∷ []) (open_tests s f (capacity s t) b (omega (arith, h.0, h.1)) (omega (arith, h.1)))
          ∙ first_one (free_list_test (free_list f)) ∙ rw (h.1, h.0) refl;
      formed = λ i q. elim (dec_lt 0 i) [
        | yes p ↦ yes-no (starts_at s f i) q (starts_at_above s f i (omega (arith, h.1)))
        | no p ↦ (let z : i ≡ 0 = omega arith in yes-no (starts_at s f i) q (ap (starts_at s f) z ∙ starts_at_zero s f))
      ];
      once = λ i p q. absurd (omega (arith, h.1));
    }

-- The slot of a count change and its head, each way out.
use Rattle.std.specs.Prelude.{Ok, Err}
use mathlib.Core.Path.{◌≡◌, ◌∙◌}
use mathlib.Core.List.{[], ◌∷◌}
use mathlib.Core.Option.{none}
use Prim.Native.Nat.{ℕ}
use Rattle.definition.specs.declared.Settings.{Settings}
use Rattle.definition.specs.declared.Refusal.{Refusal}
use Rattle.definition.specs.declared.PartKind.{PartKind}
use Rattle.definition.specs.Tests.{number_of, first}
use Rattle.definition.specs.Slots.{View, count_of}
use Rattle.definition.specs.Chains.{Parse, refused, part, head_fault, head_parse}
use Rattle.definition.specs.Calls.{slot_test}
use Rattle.laws.proofs.Tests.{number_some, first_skip, first_one, first_refuses}
use Rattle.laws.proofs.Heads.{fault_in, parse_fault}
use Rattle.counts.specs.Counts.{CountIs}

module _ (s : Settings) (f : View) (h : ℕ) where
  pub slot_refused : (r : Refusal) → slot_test f h ≡ number_of r → CountIs (Err r) s f h
  slot_refused r e = first_refuses (number_of r) _ _ e (number_some r)

  -- the slot passes, and the head decides
  module _ (slot : slot_test f h ≡ 0) where
    decides : (p : Parse) → p ≡ head_parse s none 8 (f h) → first (slot_test f h ∷ head_fault s none 8 (f h) ∷ []) ≡ fault_in p
    decides p e = first_skip _ _ slot ∙ first_one _ ∙ parse_fault s none 8 (f h) p e

    pub head_refused : (r : Refusal) → refused (number_of r) ≡ head_parse s none 8 (f h) → CountIs (Err r) s f h
    head_refused r e = decides (refused (number_of r)) e

    pub head_counted : (k : PartKind) (n c : ℕ) → part k n ≡ head_parse s none 8 (f h) → c ≡ count_of s (f h) → CountIs (Ok c) s f h
    head_counted k n c e q = (decides (part k n) e, q)

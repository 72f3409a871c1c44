-- What a walk's answer says of what the definition's walk meets: the values where it is accepted, the number where it is refused.
use Rattle.std.specs.Prelude.{◌≡◌, List, ℕ, length, Result, Ok, Err}
use Rattle.std.proofs.Math.Option.{Option}
use Rattle.definition.specs.declared.Settings.{Settings}
use Rattle.definition.specs.declared.Refusal.{Refusal}
use Rattle.definition.specs.Tests.{number_of, first}
use Rattle.definition.specs.FreeList.{members_of}
use Rattle.definition.specs.Slots.{View, filled}
use Rattle.definition.specs.Chains.{Walk, walk, rest_body, body_of}
use Rattle.definition.specs.Calls.{chain_tests, free_list_test}
use Rattle.walks.specs.declared.Extent.{Extent}

-- of a free list
abbrev pub FreeIs : Result ℕ Refusal → Option (List ℕ) → Type 0
FreeIs (Ok n) o = (free_list_test o ≡ 0) × (n ≡ length (members_of o))
FreeIs (Err r) o = free_list_test o ≡ number_of r

-- of a chain: its fault, its parts, the bytes of prefix and content
abbrev pub WalkedIs : Result Extent Refusal → ℕ → ℕ → ℕ → Type 0
WalkedIs (Ok x) fault parts bytes = (fault ≡ 0) × (x.parts ≡ parts) × (x.bytes ≡ bytes)
WalkedIs (Err r) fault parts bytes = fault ≡ number_of r

-- of the later parts of a chain, as a walk over this view met them
abbrev pub RestIs : Result Extent Refusal → View → Walk → Type 0
RestIs r f w = WalkedIs r w.fault (length w.slots) (length (rest_body f w.slots))

-- of a whole chain
abbrev pub ChainIs : Result Extent Refusal → Settings → View → Walk → Type 0
ChainIs r s f w = WalkedIs r w.fault (length w.slots) (length (body_of s f w.slots))

-- of a call's tests on the chain at slot h
abbrev pub ChainTested : Result Extent Refusal → Settings → View → ℕ → Option (List ℕ) → Type 0
ChainTested r s f h key = WalkedIs r (first (chain_tests s f h key)) (length (walk s f (filled f) h).slots) (length (body_of s f (walk s f (filled f) h).slots))

-- Room: once the earlier checks pass, insert and replace answer 12 exactly when the new slots needed exceed the free slots plus the unused
-- slots at the end (`insert_room`, `replace_room`); and where they answer 12, the earlier checks have passed and the slots needed do exceed
-- those (`insert_twelve`, `replace_twelve`). On any table, sound or not.
use mathlib.Core.Path.{◌≡◌, refl, sym, ap, ◌∙◌}
use Prim.Native.Nat.{ℕ, zero, suc, ◌+◌, ◌-◌, ◌≤◌, ◌<◌}
use native.Mathlib.Nat.{sub-zero}
use native.Mathlib.Omega.{arith}
use native.Mathlib.Decide.{dec_lt}
use mathlib.Core.Bool.{Bool, false}
use mathlib.Core.List.{List, [], ◌∷◌, ◌++◌, head_d}
use mathlib.Core.Option.{none}
use lib.ListN.{length}
use lib.Dec.{ltb}
use borrow.Author.Tests.{lt-ltb, le-ltb}
use Rattle.definition.specs.declared.Settings.{Settings}
use Rattle.definition.specs.Tests.{first}
use Rattle.definition.specs.Slots.{View, view, filled}
use Rattle.definition.specs.FreeList.{free_list, members_of}
use Rattle.definition.specs.Chains.{walk}
use Rattle.definition.specs.Parts.{prefix, pieces}
use Rattle.definition.specs.Effect.{new_slots}
use Rattle.definition.specs.Answers.{Answer, refusal, at, accepted}
use Rattle.definition.specs.Calls.{capacity, room_test, unless, Supply, supply_of, Writing, Insert, Replace, decide, insert, replace}
use Rattle.laws.proofs.Tests.{refuse_yes, refuse_no, first_past, first_one}
use Rattle.ledger.proofs.Refused.{unless_refused_lem, at_granted, accepted_granted}
use Rattle.ledger.proofs.Numbers.{end, also, first_is, table_then, value_then, chain_then, free_is}

-- the slots that a writer may take: the free ones, and the unused ones at the end
unfoldable pub spare : Settings → List ℕ → ℕ
spare s t = let f = view s.size t in length (members_of (free_list f)) + (capacity s t - filled f)

-- the new slots that a content needs: as many as its parts, less those of the chain that it replaces
unfoldable pub needed : Settings → List ℕ → List ℕ → List ℕ → ℕ
needed s key content old = length (pieces s (prefix s key ++ content)) - length old

-- the checks of a call that come before the room: its tests, were there always room. The mark is in none of them
abbrev ample : Supply → Supply
ample p = record { free = p.free; table = p.table; list = p.list; room = λ need. [] }

abbrev checks_of : Settings → Writing → List ℕ → List ℕ
checks_of s w t = (decide s (ample (supply_of s t)) (view s.size t) w).tests

abbrev pub insert_checks : Settings → List ℕ → List ℕ → List ℕ → List ℕ
insert_checks s key content t = checks_of s (Insert key content false) t

abbrev pub replace_checks : Settings → List ℕ → List ℕ → ℕ → List ℕ → List ℕ
replace_checks s key content h t = checks_of s (Replace key content false h) t

-- 12 exactly when the slots needed exceed the spare ones; else this answer
pub record TwelveExactly (need spared : ℕ) (else answer : Answer) : Type 0 where
  pub short : spared < need → answer ≡ refusal 12
  pub enough : need ≤ spared → answer ≡ else
  pub only : answer ≡ refusal 12 → spared < need

-- a call whose last test is the room's
exactly : (cap F : ℕ) (free : List ℕ) (need : ℕ) (old : List ℕ) (out : Answer × List ℕ) (n : ℕ) → (out.0 ≡ refusal 12 → ⊥) → n ≡ room_test cap F free need
    → TwelveExactly need (length free + (cap - F)) out.0 (unless n old out).0
unfolding room_test unless
exactly cap F free need old out n other e = record {
  short = when_short;
  enough = when_enough;
  only = λ q. elim (dec_lt (length free + (cap - F)) need) [ yes p ↦ p | no p ↦ absurd (other (sym (when_enough (omega arith)) ∙ q)) ];
}
  where
    when_short : length free + (cap - F) < need → (unless n old out).0 ≡ refusal 12
    when_short p = ap (λ (m : ℕ). (unless m old out).0) (e ∙ refuse_yes 12 (ltb (length free + (cap - F)) need) (lt-ltb (length free + (cap - F)) need p))

    when_enough : need ≤ length free + (cap - F) → (unless n old out).0 ≡ out.0
    when_enough p = ap (λ (m : ℕ). (unless m old out).0) (e ∙ refuse_no 12 (ltb (length free + (cap - F)) need) (le-ltb (length free + (cap - F)) need p))

pub insert_room : (s : Settings) (key content : List ℕ) (mark : Bool) (t : List ℕ) → first (insert_checks s key content t) ≡ 0
    → TwelveExactly (needed s key content []) (spare s t)
    (at (head_d (new_slots [] (members_of (free_list (view s.size t))) (filled (view s.size t)) (length (pieces s (prefix s key ++ content)))) 0))
    (insert s key content mark t).0
unfolding insert spare needed
insert_room s key content mark t e =
    let f : View = view s.size t in
    let n : ℕ = length (pieces s (prefix s key ++ content)) in
    let test : ℕ → ℕ = room_test (capacity s t) (filled f) (members_of (free_list f)) in
    exactly (capacity s t) (filled f) (members_of (free_list f)) _ t _ _ (at_granted _ 12)
    (first_past (insert_checks s key content t) (test n ∷ []) e ∙ first_one (test n) ∙ ap test (sym (sub-zero n)))

pub replace_room : (s : Settings) (key content : List ℕ) (mark : Bool) (h : ℕ) (t : List ℕ) → first (replace_checks s key content h t) ≡ 0
    → TwelveExactly (needed s key content (walk s (view s.size t) (filled (view s.size t)) h).slots) (spare s t) accepted
    (replace s key content mark h t).0
unfolding replace spare needed
replace_room s key content mark h t e =
    let f : View = view s.size t in
    exactly (capacity s t) (filled f) (members_of (free_list f)) _ t _ _ (accepted_granted 12)
    (first_past (replace_checks s key content h t) _ e ∙ first_one _)

-- ---- 12 is answered for no other reason

-- a list of tests gives n by its last one, where the others never give n
last_gives : (ns : List ℕ) (m n : ℕ) → 0 < n → (first ns ≡ n → ⊥) → first (ns ++ (m ∷ [])) ≡ n → (first ns ≡ 0) × (m ≡ n)
unfolding first
last_gives [] m n p other e = (refl, sym (first_one m) ∙ e)
last_gives (zero ∷ ns) m n p other e = last_gives ns m n p other e
last_gives (suc k ∷ ns) m n p other e = absurd (other e)

-- no number but 12 is 12
abbrev NotTwelve : ℕ → Type 0
NotTwelve n = n ≡ 12 → ⊥

room_short : (cap F : ℕ) (free : List ℕ) (need : ℕ) → room_test cap F free need ≡ 12 → length free + (cap - F) < need
unfolding room_test
room_short cap F free need e = elim (dec_lt (length free + (cap - F)) need) [
  | yes p ↦ p
  | no p ↦ absurd (let z = refuse_no 12 (ltb (length free + (cap - F)) need) (le-ltb (length free + (cap - F)) need (omega arith)) in omega (arith, z, e))
]

pub insert_twelve : (s : Settings) (key content : List ℕ) (mark : Bool) (t : List ℕ) → (insert s key content mark t).0 ≡ refusal 12
    → (first (insert_checks s key content t) ≡ 0) × (spare s t < needed s key content [])
unfolding insert spare needed
insert_twelve s key content mark t e =
    let f : View = view s.size t in
    let P : ℕ → Type 0 = NotTwelve in
    let z : P 0 = λ q. omega arith in
    let none_before = first_is P z (insert_checks s key content t) (table_then P z s f (capacity s t) _ (λ q. omega arith) (λ q. omega arith) (λ q. omega arith)
    (value_then P z s key content _ (λ q. omega arith) (λ q. omega arith) (also (free_is P z (free_list f) (λ q. omega arith)) end))) in
    let r = last_gives (insert_checks s key content t) _ 12 (omega arith) none_before (unless_refused_lem _ t _ 12 (at_granted _) e).1 in
    (r.0, omega (arith, room_short (capacity s t) (filled f) (members_of (free_list f)) _ r.1))

pub replace_twelve : (s : Settings) (key content : List ℕ) (mark : Bool) (h : ℕ) (t : List ℕ) → (replace s key content mark h t).0 ≡ refusal 12
    → (first (replace_checks s key content h t) ≡ 0) × (spare s t < needed s key content (walk s (view s.size t) (filled (view s.size t)) h).slots)
unfolding replace spare needed
replace_twelve s key content mark h t e =
    let f : View = view s.size t in
    let P : ℕ → Type 0 = NotTwelve in
    let z : P 0 = λ q. omega arith in
    let none_before = first_is P z (replace_checks s key content h t) (table_then P z s f (capacity s t) _ (λ q. omega arith) (λ q. omega arith) (λ q. omega arith)
    (value_then P z s key content _ (λ q. omega arith) (λ q. omega arith)
    (chain_then P z s f h none _ (λ q. omega arith) (λ q. omega arith) (λ q. omega arith) (λ q. omega arith) (also (free_is P z (free_list f) (λ q. omega arith)) end)))) in
    let r = last_gives (replace_checks s key content h t) _ 12 (omega arith) none_before (unless_refused_lem _ t _ 12 accepted_granted e).1 in
    (r.0, room_short (capacity s t) (filled f) (members_of (free_list f)) _ r.1)

-- A slot's piece of prefix and content, and what is still to be copied of a chain's later parts.
use Rattle.std.specs.Prelude.{◌≡◌, Bool, false, cond, List, ℕ, ◌+◌, ◌*◌, ◌≤◌, ◌<◌, length, take, drop}
use Rattle.std.proofs.Math.Option.{none}
use Rattle.definition.specs.declared.Settings.{Settings}
use Rattle.definition.specs.Numbers.{put}
use Rattle.definition.specs.Tests.{first}
use Rattle.definition.specs.Settings.{word_bytes, link_overhead, head_overhead}
use Rattle.definition.specs.Slots.{view, filled, is_continuation, size_of, head_link, link_of}
use Rattle.definition.specs.Chains.{sized_body, rest_body, content_of, walk}
use Rattle.definition.specs.Calls.{capacity, table_tests, chain_tests}
use Rattle.laws.proofs.Chains.{RestAt}

-- what the slot where a chain starts holds of prefix and content, and the slot that it links to, 0 if there is none
unfoldable pub start_piece : Settings → List ℕ → List ℕ
start_piece s b = cond s.multipart (drop (head_overhead s) b) (sized_body b)

unfoldable pub start_next : Settings → List ℕ → ℕ
start_next s b = cond s.multipart (head_link s b) 0

-- the same of a later part
unfoldable pub part_piece : List ℕ → List ℕ
part_piece b = cond (is_continuation b) (drop link_overhead b) (sized_body b)

unfoldable pub part_next : List ℕ → ℕ
part_next b = cond (is_continuation b) (link_of b) 0

-- a size word that counts no more than the slot holds, where one is read
abbrev pub SizeFits : List ℕ → Type 0
SizeFits b = word_bytes + size_of b ≤ length b

abbrev pub StartFits : Settings → List ℕ → Type 0
StartFits s b = s.multipart ≡ false → SizeFits b

abbrev pub PartFits : List ℕ → Type 0
PartFits b = is_continuation b ≡ false → SizeFits b

-- the parts from a slot on: their slots, linked within the table, or none where nothing is left
pub record Parts (s : Settings) (t : List ℕ) (at : ℕ) (l : List ℕ) : Type 0 where
  pub F : ℕ
  pub mark : Bool
  pub after : Bool
  pub rest : RestAt s (view s.size t) F mark after at l
  pub inside : F * s.size ≤ length t

-- the content of the chain in slot `at`
abbrev pub content_at : Settings → List ℕ → ℕ → List ℕ
content_at s t at = content_of s (view s.size t) (walk s (view s.size t) (filled (view s.size t)) at).slots

-- out comes to be T once n bytes of the parts from slot `at` on, after the first `from`, are laid into it at `to`
pub record Copying (s : Settings) (t T : List ℕ) (at from n : ℕ) (out : List ℕ) (to : ℕ) : Type 0 where
  pub slots : List ℕ
  pub parts : 0 < n → Parts s t at slots
  pub enough : from + n ≤ length (rest_body (view s.size t) slots)
  pub room : to + n ≤ length out
  pub left : put out to (take n (drop from (rest_body (view s.size t) slots))) ≡ T

-- a table and a chain whose tests all pass, n bytes from place `from` on in its content, and room for them
pub record Copyable (s : Settings) (t : List ℕ) (at from n : ℕ) (out : List ℕ) : Type 0 where
  pub table : first (table_tests s (view s.size t) (capacity s t)) ≡ 0
  pub chain : first (chain_tests s (view s.size t) at none) ≡ 0
  pub enough : from + n ≤ length (content_at s t at)
  pub room : n ≤ length out

use Rattle.std.proofs.Common.{rules, tests, ◌==◌, ◌≡◌, ◌≢◌, ◌<◌, [], ℕ, List, Option, None, Some, IfSome, IfNone, length}
use Rattle.std.specs.Prelude.{MatchOption}
use Rattle.std.specs.List.{All, HoldsAt, AllWithin, slice_index_or}
use Rattle.std.proofs.lemmas.Iterator.{IsFirst-from_position}
use Rattle.std.proofs.lemmas.Iterator.Splits.{YieldsList-from_slice_split}
use Rattle.std.proofs.lemmas.List.Elements.{All-from_all_within}
use Rattle.lines.specs.Words.{parts_of}
use Rattle.lines.proofs.words.which.Goals as goal

-- what `position` says of the names: none is the word, or the one at the place is, and none before it
abbrev IsFirstPlace : Option ℕ → List ℕ → List (List ℕ) → Type 0
IsFirstPlace o word names =
    MatchOption o (AllWithin (λ name. name ≢ word) names 0 (length names)) (λ i. (i < length names) × HoldsAt (λ name. name ≡ word) names i × AllWithin (λ name. name ≢ word) names 0 i)

found : (o : Option ℕ) (word : List ℕ) (names : List (List ℕ)) → IsFirstPlace o word names → IfSome o (λ i. slice_index_or names i [] ≡ word)
found None word names first = tt
found (Some i) word names first = first.1 []

missing : (o : Option ℕ) (word : List ℕ) (names : List (List ℕ)) → IsFirstPlace o word names → IfNone o (All (λ name. name ≢ word) names)
missing None word names first = All-from_all_within (λ name. name ≢ word) names first
missing (Some i) word names first = tt

pub returns : goal.returns
returns c =
    let word = c.args.word.now in
    let names = parts_of c.args.names.now c.args.separator in
    let first = IsFirst-from_position c.position.new.self _ c.position.result (λ name. name ≡ word) (λ name. name ≢ word) c.position.ensures.ran
    (YieldsList-from_slice_split _ (λ b. b == c.args.separator) c.args.names.now c.split.ensures.rest c.split.ensures.done c.split.ensures.closure (λ x r q k. search (rules, tests)))
    (λ x q k. search (rules, tests)) (λ x q k. search (rules, tests)) in
    record { found = found c.position.result word names first; missing = missing c.position.result word names first }

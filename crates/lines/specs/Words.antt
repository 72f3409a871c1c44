-- Texts cut at a separator.
use Rattle.std.specs.Prelude.{◌==◌, ◌≡◌, ℕ, List, [], ◌++◌, slice_index_or}
use Rattle.std.specs.List.{slice_split}

-- what stands between the separators of a text, in order
abbrev pub parts_of : List ℕ → ℕ → List (List ℕ)
parts_of text separator = slice_split (λ b. b == separator) text

-- the part at a place, from 0 on; empty where there is none
abbrev pub part_at : List ℕ → ℕ → ℕ → List ℕ
part_at text place separator = slice_index_or (parts_of text separator) place []

-- a text is some front and then this
abbrev pub EndsIn : List ℕ → List ℕ → Type 0
EndsIn text end = (front : List ℕ) × (text ≡ front ++ end)

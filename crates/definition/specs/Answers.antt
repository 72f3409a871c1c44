-- Answers. Document 01, "The form each place takes": for each case of each answer, 01's number and values.
use Rattle.std.specs.Prelude.{ℕ, Bool, List, Option, Some, None, Result, Ok, Err}
use Rattle.definition.specs.declared.Refusal.{Refusal}
use Rattle.definition.specs.declared.Part.{Part}
use Rattle.definition.specs.declared.Record.{Record}
use Rattle.definition.specs.Tests.{number_of}
use Rattle.definition.specs.Chains.{Parse, refused, part}

-- what a call answers
pub data Answer : Type 0 where
  -- any call, refused: the refusal's number
  refusal : ℕ → Answer
  -- insert: the head's slot
  at : ℕ → Answer
  -- replace and remove
  accepted : Answer
  -- change: the count that was stored
  count : ℕ → Answer
  -- change: nothing is left, and nothing is written
  last_reference_answer : Answer
  -- copying read, and the fixed read's companion: content length, compressed mark, count, slots visited
  found : ℕ → Bool → ℕ → ℕ → Answer
  -- fixed read: the content, a part of the table
  content : List ℕ → Answer
  -- free count: the members of the free list
  members : ℕ → Answer

abbrev pub parse_of : Result Part Refusal → Parse
parse_of (Ok p) = part p.kind p.bytes
parse_of (Err r) = refused (number_of r)

-- insert: the head's slot
abbrev pub inserted_of : Result ℕ Refusal → Answer
inserted_of (Ok h) = at h
inserted_of (Err r) = refusal (number_of r)

-- replace and remove
abbrev pub written_of : Result Unit Refusal → Answer
written_of (Ok u) = accepted
written_of (Err r) = refusal (number_of r)

-- change: the count that was stored, or none where this was the last reference
abbrev pub changed_of : Result (Option ℕ) Refusal → Answer
changed_of (Ok (Some n)) = count n
changed_of (Ok None) = last_reference_answer
changed_of (Err r) = refusal (number_of r)

-- copying read, and the fixed read's companion
abbrev pub found_of : Result Record Refusal → Answer
found_of (Ok r) = found r.len r.mark r.count r.visits
found_of (Err r) = refusal (number_of r)

-- free count: the members of the free list
abbrev pub free_count_of : Result ℕ Refusal → Answer
free_count_of (Ok n) = members n
free_count_of (Err r) = refusal (number_of r)

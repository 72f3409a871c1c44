-- Chains: the head's tests, the walk over the parts, and what a chain holds. Document 01, "Numbers the station sees",
-- refusals 8, 9 and 10 and the paragraph on the order of the checks. All tests read marks, sizes, links, counts and keys, never content.
use Rattle.std.specs.Prelude.{ℕ, zero, suc, ◌-◌, Bool, true, false, cond, ◌&&◌, ◌||◌, not, List, [], ◌∷◌, ◌++◌, length, take, drop, eqb, leb, ltb}
use Rattle.std.proofs.Math.Option.{Option, none, some}
use Rattle.definition.specs.declared.Settings.{Settings}
use Rattle.definition.specs.declared.PartKind.{PartKind}
use Rattle.definition.specs.declared.PartKind.TheVariants.{Head, Continuation, Last}
use Rattle.definition.specs.Numbers.{same_bytes}
use Rattle.definition.specs.Tests.{refuse, first}
use Rattle.definition.specs.Settings.{word_bytes, link_overhead, prefix_len, head_overhead}
use Rattle.definition.specs.Slots.{View, is_free, is_continuation, is_head, size_of, link_of, head_link, total_of, starts, count_of, key_of, mark_of, partial_key}

-- what a look at a slot finds: a refusal, or a part with its link and the bytes of prefix and content that it holds
pub data Parse : Type 0 where
  refused : ℕ → Parse
  part : PartKind → ℕ → Parse

-- the part, unless a test refuses it
unfoldable pub unless_refused : ℕ → Parse → Parse
unless_refused zero p = p
unless_refused (suc n) p = refused (suc n)

-- ---- the head

-- the key that a call checks, if it checks one, is not the stored one; an unkeyed table ignores it
unfoldable pub key_differs : Settings → Option (List ℕ) → List ℕ → Bool
key_differs s none b = false
key_differs s (some key) b = s.keyed && not (same_bytes (key_of s b) (partial_key key))

-- the head's tests: its mark (8), a size below the prefix (9), the count (8), the checked key (`mismatch`: 8), a size too large (9)
unfoldable pub head_fault : Settings → Option (List ℕ) → ℕ → List ℕ → ℕ
head_fault s key mismatch b =
    first (refuse 8 (not (starts s b))
    ∷ refuse 9 (not s.multipart && ltb (size_of b) (prefix_len s))
    ∷ refuse 8 (eqb (count_of s b) 0)
    ∷ refuse mismatch (key_differs s key b)
    ∷ refuse 9 (not s.multipart && ltb (s.size - word_bytes) (size_of b))
    ∷ [])

-- the slot where a chain starts: a head, full to the slot's end, or a plain slot, which is a last part too
unfoldable pub start_part : Settings → List ℕ → Parse
start_part s b = cond s.multipart (part (Head (head_link s b)) (s.size - head_overhead s)) (part (Last 0) (size_of b))

unfoldable pub head_parse : Settings → Option (List ℕ) → ℕ → List ℕ → Parse
head_parse s key mismatch b = unless_refused (head_fault s key mismatch b) (start_part s b)

-- ---- later parts

-- the one judge of a last part, given the head's mark and whether the head came right before it: its size is at most E - 2.
-- 01 ignores its top bit and lets it be short, so neither is asked
unfoldable pub last_fault : Settings → Bool → Bool → List ℕ → ℕ
last_fault s mark after_head b = refuse 9 (ltb (s.size - word_bytes) (size_of b))

-- a free slot or a head met as a later part (10); a continuation, full to the slot's end; else a last part
unfoldable pub later_parse : Settings → Bool → Bool → List ℕ → Parse
later_parse s mark after_head b =
    cond (is_free b || is_head b) (refused 10)
    (cond (is_continuation b) (part (Continuation (link_of b)) (s.size - link_overhead))
    (unless_refused (last_fault s mark after_head b) (part (Last 0) (size_of b))))

-- ---- the walk

-- what a walk met: the slots passed, in chain order, and the first fault's number, 0 if there is none
pub record Walk : Type 0 where
  pub slots : List ℕ
  pub fault : ℕ

abbrev pub stopped : ℕ → Walk
stopped n = record { slots = []; fault = n }

abbrev pub whole : List ℕ → Walk
whole l = record { slots = l; fault = 0 }

-- a walk that passed slot x first
abbrev pub passed : ℕ → Walk → Walk
passed x w = record { slots = x ∷ w.slots; fault = w.fault }

unfoldable pub is_last : PartKind → Bool
is_last (Head l) = false
is_last (Continuation l) = false
is_last (Last l) = true

-- what was found at slot x decides: stop, end, or go on
unfoldable pub onward : ℕ → Parse → Walk → Walk
onward x (refused n) rest = stopped n
onward x (part k n) rest = cond (is_last k) (whole (x ∷ [])) (passed x rest)

-- the later parts from slot at on, when n more may come: the limit is tested before a part is looked at, then the link, then the part
unfoldable pub parts_from : Settings → View → ℕ → Bool → Bool → ℕ → ℕ → Walk
parts_from s f F mark after_head zero at = stopped 10
parts_from s f F mark after_head (suc n) at =
    let rest = parts_from s f F mark false n (link_of (f at)) in
    cond (eqb at 0 || leb F at) (stopped 10) (onward at (later_parse s mark after_head (f at)) rest)

-- ---- what a chain holds

-- the bytes that a plain slot or a last part counts
unfoldable pub sized_body : List ℕ → List ℕ
sized_body b = take (size_of b) (drop word_bytes b)

-- the bytes of later parts: continuations to their slots' ends, then the last part
unfoldable pub rest_body : View → List ℕ → List ℕ
rest_body f [] = []
rest_body f (x ∷ []) = sized_body (f x)
rest_body f (x ∷ y ∷ l) = drop link_overhead (f x) ++ rest_body f (y ∷ l)

-- prefix and content of the chain on these slots
unfoldable pub body_of : Settings → View → List ℕ → List ℕ
body_of s f [] = []
body_of s f (h ∷ l) = cond s.multipart (drop (head_overhead s) (f h) ++ rest_body f l) (sized_body (f h))

unfoldable pub content_of : Settings → View → List ℕ → List ℕ
content_of s f l = drop (prefix_len s) (body_of s f l)

-- ---- the whole chain

-- a head's total is this content length
unfoldable pub total_good : Settings → List ℕ → ℕ → Bool
total_good s b n = eqb (total_of b) n

-- the later parts of the chain at h, then, last, its total (10)
unfoldable pub with_total : Settings → View → ℕ → Walk → Walk
with_total s f h rest =
    let l = h ∷ rest.slots in
    record { slots = l; fault = first (rest.fault ∷ refuse 10 (not (total_good s (f h) (length (content_of s f l)))) ∷ []) }

-- the chain at a head that passed its tests: at most FILLED - 1 parts, the head the first
unfoldable pub walk : Settings → View → ℕ → ℕ → Walk
walk s f F h =
    cond s.multipart
    (with_total s f h (parts_from s f F (mark_of s (f h)) true (F - 2) (head_link s (f h))))
    (whole (h ∷ []))

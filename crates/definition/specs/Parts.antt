-- Writing a chain: prefix and content cut into parts, and the bytes of each part. Document 01, "Steps of each call", Write and
-- Free a slot. The arithmetic is over E and the head's overhead; with 4,096 and 18 it gives 01's 4,078, 4,086 and 4,094.
use Rattle.std.specs.Prelude.{ℕ, zero, suc, ◌+◌, ◌-◌, Bool, cond, List, [], ◌∷◌, ◌++◌, length, take, drop, leb}
use Rattle.definition.specs.declared.Settings.{Settings}
use Rattle.definition.specs.Numbers.{bytes}
use Rattle.definition.specs.Settings.{word_bytes, link_bytes, total_bytes, count_bytes, link_overhead, head_overhead}
use Rattle.definition.specs.Slots.{Store, free_mark, continuation_mark, head_mark, compressed_mark, partial_key}

-- ---- what is written, and how it is cut

-- the prefix of a new record: a count of 1 if counted, then the partial key if keyed
unfoldable pub prefix : Settings → List ℕ → List ℕ
prefix s key = cond s.counted (bytes count_bytes 1) [] ++ cond s.keyed (partial_key key) []

-- continuations of E - 10 while more than E - 2 remain, then a last part; n bounds the number of continuations
unfoldable pub cut_rest : ℕ → ℕ → List ℕ → List (List ℕ)
cut_rest E zero body = body ∷ []
cut_rest E (suc n) body =
    let more = take (E - link_overhead) body ∷ cut_rest E n (drop (E - link_overhead) body) in
    cond (leb (length body) (E - word_bytes)) (body ∷ []) more

-- a head of E - o, o being its overhead, then the rest
unfoldable pub cut : ℕ → ℕ → List ℕ → List (List ℕ)
cut E o body = take (E - o) body ∷ cut_rest E (length body) (drop (E - o) body)

-- one plain slot on a fixed table, a cut on a multipart one: refusal 6 lets only the lengths through that ask for it
unfoldable pub pieces : Settings → List ℕ → List (List ℕ)
pieces s body = cond s.multipart (cut s.size (head_overhead s) body) (body ∷ [])

-- ---- the bytes of each kind of slot

-- plain, and last part: size word, with the compressed mark as its top bit, then the piece
unfoldable pub sized_part : Bool → List ℕ → List ℕ
sized_part mark p = bytes word_bytes (length p + cond mark 0x8000 0) ++ p

-- continuation: mark, link, piece
unfoldable pub continuation_part : ℕ → List ℕ → List ℕ
continuation_part next p = continuation_mark ++ (bytes link_bytes next ++ p)

-- a head's content length as it stands in the slot
unfoldable pub stored_total : Settings → ℕ → List ℕ
stored_total s total = bytes total_bytes total

-- head: mark, content length, link, piece
unfoldable pub head_part : Settings → Bool → ℕ → ℕ → List ℕ → List ℕ
head_part s mark total next p = cond mark compressed_mark head_mark ++ (stored_total s total ++ (bytes link_bytes next ++ p))

-- free slot: mark, link; its other bytes stay
unfoldable pub free_slot : ℕ → List ℕ
free_slot next = free_mark ++ bytes link_bytes next

-- ---- stores

-- later parts: slot by slot, each but the last linked to the next slot
unfoldable pub rest_stores : Bool → List ℕ → List (List ℕ) → List Store
rest_stores mark [] ps = []
rest_stores mark (x ∷ l) [] = []
rest_stores mark (x ∷ []) (p ∷ ps) = (x, sized_part mark p) ∷ []
rest_stores mark (x ∷ y ∷ l) (p ∷ ps) = (x, continuation_part y p) ∷ rest_stores mark (y ∷ l) ps

-- a whole chain of these pieces in these slots: a plain slot, or a head and later parts
unfoldable pub chain_stores : Settings → Bool → ℕ → List ℕ → List (List ℕ) → List Store
chain_stores s mark total [] ps = []
chain_stores s mark total (x ∷ l) [] = []
chain_stores s mark total (x ∷ []) (p ∷ ps) = (x, sized_part mark p) ∷ []
chain_stores s mark total (x ∷ y ∷ l) (p ∷ ps) = (x, head_part s mark total y p) ∷ rest_stores mark (y ∷ l) ps

-- slots freed one after another, LAST_REMOVED being `removed` before
unfoldable pub free_stores : ℕ → List ℕ → List Store
free_stores removed [] = []
free_stores removed (x ∷ l) = (x, free_slot removed) ∷ free_stores x l

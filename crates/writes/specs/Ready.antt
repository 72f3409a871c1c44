-- What holds once a call's tests have passed, sound table or not: the writing loop asks this and nothing else.
use Rattle.std.specs.Prelude.{◌≡◌, Bool, false, ℕ, ◌-◌, ◌*◌, ◌≤◌, ◌<◌, length, eqb, ltb}
use mathlib.Core.List.{List, ◌++◌, head_d}
use Rattle.definition.specs.declared.Settings.{Settings}
use Rattle.definition.specs.declared.Header.{Header}
use Rattle.definition.specs.Settings.{word_bytes, bad_settings}
use Rattle.definition.specs.Slots.{view, header_of, link_of}
use Rattle.definition.specs.Parts.{prefix, pieces}
use Rattle.definition.specs.Effect.{filled_after}
use Rattle.definition.specs.Calls.{key_test}
use Rattle.definition.specs.Sound.{occ}
use Rattle.laws.proofs.Linked.{Linked}
use Rattle.laws.proofs.Distinct.{Apart}
use Rattle.writes.specs.Steps.{next_part}

-- settings and a body, prefix and content, that passed 1 and 6: the body asks for parts just where the table is multipart
pub record Fit (s : Settings) (body : List ℕ) : Type 0 where
  pub good : bad_settings s ≡ false
  pub kind : s.multipart ≡ ltb (s.size - word_bytes) (length body)

-- the old chain's slots from `at` on, the free ones from LAST_REMOVED on and the unused ones from FILLED on are enough for the body;
-- `same` says that as many are written as there were, so that none is taken or freed
pub record Ready (s : Settings) (same : Bool) (body t old free : List ℕ) (at : ℕ) (h : Header) : Type 0 where
  pub old_links : Linked (next_part s) (view s.size t) h.filled at old
  pub free_links : Linked link_of (view s.size t) h.filled h.removed free
  pub once : Apart old free
  pub some : 0 < h.filled
  pub room : filled_after old free h.filled (length (pieces s body)) * s.size ≤ length t
  pub stays : same ≡ eqb (length (pieces s body)) (length old)

-- the slots `old` from `at` on can be freed, LAST_REMOVED being the first of `free`
pub record Freeing (s : Settings) (t old free : List ℕ) (at : ℕ) (h : Header) : Type 0 where
  pub good : bad_settings s ≡ false
  pub links : Linked (next_part s) (view s.size t) h.filled at old
  pub top : h.removed ≡ head_d free 0
  pub once : (i : ℕ) → occ i old ≤ 1
  pub some : 0 < h.filled
  pub room : h.filled * s.size ≤ length t

-- ---- the same as a call starts it: the header is the table's own, and the body is the prefix of this key, then the content

pub record Writable (s : Settings) (same : Bool) (key content t old free : List ℕ) (at : ℕ) : Type 0 where
  pub keyed : key_test s key ≡ 0
  pub fit : Fit s (prefix s key ++ content)
  pub ready : Ready s same (prefix s key ++ content) t old free at (header_of (view s.size t))

abbrev pub Freeable : Settings → List ℕ → List ℕ → List ℕ → ℕ → Type 0
Freeable s t old free at = Freeing s t old free at (header_of (view s.size t))

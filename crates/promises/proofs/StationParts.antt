-- The C function of the fixed read answers a place in the caller's table: the bytes there are the content that the fixed read hands back
-- (`part_is_content`), and they lie within the table (`part_inside`). On a sound table they are the content that the plain ledger answers
-- (`part_is_ledgers`).
use Prim.{tt}
use Prim.Native.Nat.{ℕ, zero, suc, ◌+◌, ◌^◌, ◌≤◌, ◌<◌}
use native.Mathlib.Omega.{arith}
use mathlib.Core.Path.{◌≡◌, refl, sym, ap, ◌∙◌, subst}
use mathlib.Core.Bool.{Bool, cond}
use mathlib.Core.List.{List}
use mathlib.Core.Option.{Option}
use lib.Dec.{eqb}
use lib.ListN.{length, take, drop}
use contract.Lifetimes.{Lfts}
use denote.Ref.{Bor}
use Rattle.definition.specs.declared.Settings.{Settings}
use Rattle.definition.specs.Answers.{Answer, refusal, at, accepted, count, last_reference_answer, found, content, members}
use Rattle.definition.specs.Settings.{link_bytes}
use Rattle.definition.specs.Calls.{capacity, unless, checked_key, content_start, look_fixed, read_fixed, find_fixed}
use Rattle.definition.specs.Sound.{Sound}
use Rattle.definition.specs.Ledger.{ReadFixed, Look, ledger_step}
use Rattle.definition.specs.Run.{ledger_of, run}
use Rattle.ledger.proofs.OneCall.{call_agrees}
use Rattle.laws.proofs.FixedParts.{fixed_part}
use Rattle.station.specs.declared.answers.PyltarkaSettings.{PyltarkaSettings}
use Rattle.station.specs.declared.answers.PyltarkaPart.{PyltarkaPart}
use Rattle.station.specs.Forms.{settings_of, told}
use Rattle.station.proofs.pyltarka_read_fixed.Reads as read-fixed-code

-- a refusal with a number above 0, or what a read tells: no other answer is one of the fixed read's companion
abbrev OfFixed : Answer → Type 0
OfFixed (refusal n) = 0 < n
OfFixed (at h) = ⊥
OfFixed accepted = ⊥
OfFixed (count n) = ⊥
OfFixed last_reference_answer = ⊥
OfFixed (found n m c v) = Unit {0}
OfFixed (content b) = ⊥
OfFixed (members n) = ⊥

look_kind : (m : ℕ) (old : List ℕ) (len : ℕ) (mark : Bool) (c v : ℕ) (b : List ℕ) → OfFixed (unless m old (found len mark c v, b)).0
unfolding unless
look_kind zero old len mark c v b = tt
look_kind (suc m) old len mark c v b = omega arith

module _ (s : Settings) (t : List ℕ) (h : ℕ) (key : Option (List ℕ)) where
  kind : OfFixed (find_fixed s key h t)
  unfolding find_fixed look_fixed
  kind = look_kind _ _ _ _ _ _ _

  -- where the companion is accepted, with this answer
  placed : (a : Answer) → a ≡ find_fixed s key h t → OfFixed a → (told a).number ≡ 0
      → (cond (eqb (told a).number 0) (content_start s h) 0 + (told a).len ≤ length t)
      × (take (told a).len (drop (cond (eqb (told a).number 0) (content_start s h) 0) t) ≡ read_fixed s key h t)
  unfolding content_start
  placed (refusal n) e k z = absurd (omega arith)
  placed (at i) e k z = absurd k
  placed accepted e k z = absurd k
  placed (count n) e k z = absurd k
  placed last_reference_answer e k z = absurd k
  placed (found len mark c v) e k z = let p = fixed_part s t h key len mark c v e in (p.inside, p.is)
  placed (content b) e k z = absurd k
  placed (members n) e k z = absurd k

module _ (κ : Lfts 2) (table : Bor (List ℕ)) (s : PyltarkaSettings) (h : ℕ) (checked : Bool) (key : Bor (List ℕ)) (r : PyltarkaPart)
    (e : read-fixed-code.Post κ (table, (s, (h, (checked, (key, tt))))) r (table, (s, (h, (checked, (key, tt)))))) (z : r.number ≡ 0) where
  both : (r.offset + r.length ≤ length table.now) × (take r.length (drop r.offset table.now) ≡ read_fixed (settings_of s) (checked_key checked key.now) h table.now)
  both =
      let k = checked_key checked key.now in
      let a = find_fixed (settings_of s) k h table.now in
      let p = placed (settings_of s) table.now h k a refl (kind (settings_of s) table.now h k) (sym (ap (λ (x : PyltarkaPart). x.number) e) ∙ z) in
      subst (λ (x : PyltarkaPart). (x.offset + x.length ≤ length table.now) × (take x.length (drop x.offset table.now) ≡ read_fixed (settings_of s) k h table.now)) (sym e) p

  pub part_inside : r.offset + r.length ≤ length table.now
  part_inside = both.0

  pub part_is_content : take r.length (drop r.offset table.now) ≡ read_fixed (settings_of s) (checked_key checked key.now) h table.now
  part_is_content = both.1

  pub part_is_ledgers : Sound (settings_of s) table.now → length table.now < 256 ^ link_bytes
      → content (take r.length (drop r.offset table.now))
      ≡ (ledger_step (settings_of s) (capacity (settings_of s) table.now) (Look (ReadFixed (checked_key checked key.now) h)) (ledger_of (settings_of s) table.now)).answer
  unfolding run
  part_is_ledgers k bound = ap content part_is_content ∙ (call_agrees (settings_of s) (Look (ReadFixed (checked_key checked key.now) h)) table.now k bound).answers

-- Refused: on any table, sound or not, a refused call leaves the table and the output as they were and answers its number, all else empty
-- (`refused_leaves`). One statement over all calls. The fixed read hands back a part of the table and no number: it is refused where its
-- companion is, and then the part is empty. Said by the call's own answer: `refused_itself`.
use mathlib.Core.Path.{◌≡◌, refl, ap}
use Prim.Native.Nat.{ℕ, zero, suc, ◌<◌}
use native.Mathlib.Omega.{arith}
use mathlib.Core.Bool.{Bool}
use mathlib.Core.List.{List, []}
use mathlib.Core.Option.{Option, none, some}
use Rattle.definition.specs.declared.Settings.{Settings}
use Rattle.definition.specs.Slots.{View, view, store}
use Rattle.definition.specs.Answers.{Answer, refusal, at, accepted, found, content, members}
use Rattle.definition.specs.Calls.{unless, answer_unless, Supply, counted, Writing, Insert, Replace, Remove, Change, decide, decision, supply_of, read, look_fixed, read_fixed, find_fixed, free_count}
use Rattle.definition.specs.Ledger.{Read, ReadFixed, FindFixed, FreeCount, Call, Write, Look, Outcome, wrote, told}
use Rattle.definition.specs.Run.{run}

-- the call that tells a call's refusal: the call itself, for the fixed read its companion
unfoldable pub teller : Call → Call
teller (Write w) = Write w
teller (Look (Read k h out)) = Look (Read k h out)
teller (Look (ReadFixed k h)) = Look (FindFixed k h)
teller (Look (FindFixed k h)) = Look (FindFixed k h)
teller (Look FreeCount) = Look FreeCount

-- what a call refused with n leaves of the table t: the number, the table, and the output that was lent, if one was
unfoldable pub refused_with : ℕ → Call → List ℕ → Outcome (List ℕ)
refused_with n (Write w) t = record { answer = refusal n; after = t; output = [] }
refused_with n (Look (Read k h out)) t = record { answer = refusal n; after = t; output = out }
refused_with n (Look (ReadFixed k h)) t = record { answer = content []; after = t; output = [] }
refused_with n (Look (FindFixed k h)) t = record { answer = refusal n; after = t; output = [] }
refused_with n (Look FreeCount) t = record { answer = refusal n; after = t; output = [] }

-- ---- refused where a test refuses

-- an answer that is no refusal
abbrev pub Granted : Answer → Type 0
Granted a = (n : ℕ) → a ≡ refusal n → ⊥

-- where a call answers a refusal, its tests gave that number, and what was there stays
pub unless_refused_lem : (m : ℕ) (old : List ℕ) (out : Answer × List ℕ) (n : ℕ) → Granted out.0 → (unless m old out).0 ≡ refusal n
    → (unless m old out ≡ (refusal n, old)) × (m ≡ n) × (0 < n)
unfolding unless
unless_refused_lem zero old out n g e = absurd (g n e)
unless_refused_lem (suc m) old out n g e = let q : suc m ≡ n = cc in (ap (λ (a : Answer). (a, old)) e, q, omega arith)

-- a call that leaves nothing but its answer is refused as one that leaves bytes
pub answer_alone : (m : ℕ) (a : Answer) (old : List ℕ) → answer_unless m a ≡ (unless m old (a, old)).0
unfolding unless answer_unless
answer_alone zero a old = refl
answer_alone (suc m) a old = refl

pub at_granted : (h : ℕ) → Granted (at h)
at_granted h n e = let z : ◌≡◌ {A = ℕ} 0 1 = cc in omega arith

pub accepted_granted : Granted accepted
accepted_granted n e = let z : ◌≡◌ {A = ℕ} 0 1 = cc in omega arith

counted_granted : (s : Settings) (h : ℕ) (b : List ℕ) (o : Option ℕ) → Granted (counted s h b o).0
unfolding counted
counted_granted s h b none n e = let z : ◌≡◌ {A = ℕ} 0 1 = cc in omega arith
counted_granted s h b (some c) n e = let z : ◌≡◌ {A = ℕ} 0 1 = cc in omega arith

-- the answer that a writing call comes to
pub decided_granted : (s : Settings) (p : Supply) (f : View) (w : Writing) → Granted (decide s p f w).answer
decided_granted s p f (Insert k c m) = at_granted _
decided_granted s p f (Replace k c m h) = accepted_granted
decided_granted s p f (Remove h) = accepted_granted
decided_granted s p f (Change d h) = counted_granted s h _ _

pub found_granted : (len : ℕ) (mark : Bool) (c visits : ℕ) → Granted (found len mark c visits)
found_granted len mark c visits n e = let z : ◌≡◌ {A = ℕ} 0 1 = cc in omega arith

pub members_granted : (m : ℕ) → Granted (members m)
members_granted m n e = let z : ◌≡◌ {A = ℕ} 0 1 = cc in omega arith

pub refused_leaves : (s : Settings) (c : Call) (t : List ℕ) (n : ℕ) → (run s (teller c) t).answer ≡ refusal n
    → run s c t ≡ refused_with n c t
unfolding teller refused_with run read read_fixed find_fixed look_fixed free_count
refused_leaves s (Write w) t n e = ap (λ (r : Answer × List ℕ). wrote r) (unless_refused_lem _ t ((decision s w t).answer, store s.size t (decision s w t).stores) n (decided_granted s (supply_of s t) (view s.size t) w) e).0
refused_leaves s (Look (Read k h out)) t n e = ap (λ (r : Answer × List ℕ). told t r) (unless_refused_lem _ out _ n (found_granted _ _ _ _) e).0
refused_leaves s (Look (ReadFixed k h)) t n e = ap (λ (r : Answer × List ℕ). told t (content r.1, [])) (unless_refused_lem _ [] _ n (found_granted _ _ _ _) e).0
refused_leaves s (Look (FindFixed k h)) t n e = ap (λ (r : Answer × List ℕ). told t (r.0, [])) (unless_refused_lem _ [] _ n (found_granted _ _ _ _) e).0
refused_leaves s (Look FreeCount) t n e = ap (λ (a : Answer). told t (a, [])) e

-- by its own answer; the fixed read's is never a refusal
pub refused_itself : (s : Settings) (c : Call) (t : List ℕ) (n : ℕ) → (run s c t).answer ≡ refusal n → run s c t ≡ refused_with n c t
unfolding teller run
refused_itself s (Write w) t n e = refused_leaves s (Write w) t n e
refused_itself s (Look (Read k h out)) t n e = refused_leaves s (Look (Read k h out)) t n e
refused_itself s (Look (ReadFixed k h)) t n e = absurd (let z : ◌≡◌ {A = ℕ} 0 1 = cc in omega arith)
refused_itself s (Look (FindFixed k h)) t n e = refused_leaves s (Look (FindFixed k h)) t n e
refused_itself s (Look FreeCount) t n e = refused_leaves s (Look FreeCount) t n e

-- The frame. On any table, sound or not, a call that writes changes no byte but those in its stores' places, and none where it is refused
-- (`framed`); so no call changes the table's length, nor a byte after the last whole slot, nor slot 0 past its first 16 bytes (`frame`).
-- In which slots these places are, and how long, is said in Spared.
use mathlib.Core.Path.{◌≡◌, refl, sym, ap, ◌∙◌}
use mathlib.Core.Logic.{◌≢◌}
use Prim.Native.Nat.{ℕ, zero, suc, ◌+◌, ◌-◌, ◌*◌, ◌/◌, ◌≤◌, ◌<◌, min}
use native.Mathlib.Nat.{div-lt_iff_lt-mul, mul-le-mul_right, suc-mul}
use native.Mathlib.Omega.{arith}
use native.Mathlib.Decide.{dec_lt, ℕ_discrete}
use mathlib.Core.List.{List, [], ◌∷◌}
use lib.ListN.{length, take, drop, get_or, length-take, length-drop}
use lib.Seq.{take_all, take-length, get_or-take, get_or-drop, ext_get_or}
use Rattle.definition.specs.declared.Settings.{Settings}
use Rattle.definition.specs.Tests.{first}
use Rattle.definition.specs.Slots.{view, Store, store}
use Rattle.definition.specs.Answers.{Answer}
use Rattle.definition.specs.Calls.{capacity, unless, Writing, Decision, decision, carry_out, write}
use Rattle.definition.specs.Ledger.{Call, Write, Look}
use Rattle.definition.specs.Run.{run}
use Rattle.laws.proofs.Views.{apart, view_zero, Fits, length_store}
use Rattle.laws.proofs.Untouched.{Untouched, store_keeps}
use Rattle.ledger.proofs.Laid.{Short, Laid, laid}

-- ---- the frame of a call that writes

-- what is kept where d is what a call comes to, t being the table before and u after
pub record Framed (s : Settings) (d : Decision) (t u : List ℕ) : Type 0 where
  pub long : length u ≡ length t
  -- where a test refuses, every byte
  pub refused : first d.tests ≢ 0 → u ≡ t
  -- where none does, each byte that lies in no store's place
  pub untouched : first d.tests ≡ 0 → (p : ℕ) → Untouched s.size d.stores p → get_or u p 0 ≡ get_or t p 0

-- what a refused call leaves, and one that is not
pub unless_left : (n : ℕ) (t : List ℕ) (out : Answer × List ℕ) → (n ≢ 0 → (unless n t out).1 ≡ t) × (n ≡ 0 → (unless n t out).1 ≡ out.1)
unfolding unless
unless_left zero t out = ((λ ne. absurd (ne refl)), (λ e. refl))
unless_left (suc n) t out = ((λ ne. refl), (λ e. absurd (omega arith)))

pub carried : (s : Settings) (d : Decision) (t : List ℕ) → (first d.tests ≡ 0 → Laid s t d.stores) → Framed s d t (carry_out s d t).1
carried s d t laid = record {
  long = elim (ℕ_discrete (first d.tests) 0) [
    | yes e ↦ ap length (left.1 e) ∙ length_store s.size t d.stores (laid e).fits
    | no ne ↦ ap length (left.0 ne)
  ];
  refused = left.0;
  untouched = λ e p u. ap (λ (x : List ℕ). get_or x p 0) (left.1 e) ∙ store_keeps s.size t d.stores (laid e).fits p u;
}
  where
    left : (first d.tests ≢ 0 → (carry_out s d t).1 ≡ t) × (first d.tests ≡ 0 → (carry_out s d t).1 ≡ store s.size t d.stores)
    left = unless_left (first d.tests) t (d.answer, store s.size t d.stores)

pub framed : (s : Settings) (w : Writing) (t : List ℕ) → Framed s (decision s w t) t (write s w t).1
framed s w t = carried s (decision s w t) t (laid s w t)

-- ---- what no call changes

-- t being the table before and u after
pub record Kept (s : Settings) (t u : List ℕ) : Type 0 where
  pub long : length u ≡ length t
  -- the bytes after the last whole slot
  pub rest : drop (capacity s t * s.size) u ≡ drop (capacity s t * s.size) t
  -- slot 0 past its first 16 bytes
  pub first_slot : drop 16 (view s.size u 0) ≡ drop 16 (view s.size t 0)

kept_same : (s : Settings) (t : List ℕ) → Kept s t t
kept_same s t = record { long = refl; rest = refl; first_slot = refl }

-- bytes from k up to n that are the same one by one
part_same : (t u : List ℕ) (k n : ℕ) → length u ≡ length t → ((p : ℕ) → k ≤ p → p < n → get_or u p 0 ≡ get_or t p 0) → drop k (take n u) ≡ drop k (take n t)
part_same t u k n l h = ext_get_or 0 (drop k (take n u)) (drop k (take n t)) (simp (length-drop, length-take) (rw l refl)) each
  where
    each : (i : ℕ) → i < length (drop k (take n u)) → get_or (drop k (take n u)) i 0 ≡ get_or (drop k (take n t)) i 0
    each i b =
        let c : k + i < n = (let e : length (drop k (take n u)) ≡ min n (length u) - k = simp (length-drop, length-take) refl in omega (arith, e, b)) in
        get_or-drop k (take n u) i 0 ∙ get_or-take n u (k + i) 0 c ∙ h (k + i) (omega arith) c ∙ sym (get_or-take n t (k + i) 0 c) ∙ sym (get_or-drop k (take n t) i 0)

-- a slot within L bytes ends with the last whole slot at the latest
slot_ends : (E L i : ℕ) → 0 < E → i * E + E ≤ L → i * E + E ≤ L / E * E
slot_ends E L i p h = elim (dec_lt (L / E) (suc i)) [
  | yes q ↦ absurd (omega (arith, (div-lt_iff_lt-mul p).0 q, suc-mul i E))
  | no q ↦ (let k : suc i ≤ L / E = omega arith in omega (arith, mul-le-mul_right E k, suc-mul i E))
]

past_slots : (E L : ℕ) (ws : List Store) → 0 < E → Fits E L ws → (p : ℕ) → L / E * E ≤ p → Untouched E ws p
past_slots E L [] z h p b = tt
past_slots E L (w ∷ ws) z h p b = ((λ q. omega (arith, h.0, slot_ends E L w.0 z h.1)), past_slots E L ws z h.2 p b)

past_header : (E : ℕ) (ws : List Store) → Short 16 0 ws → (p : ℕ) → 16 ≤ p → p < E → Untouched E ws p
past_header E [] h p a b = tt
past_header E (w ∷ ws) h p a b = (go (ℕ_discrete w.0 0), past_header E ws h.1 p a b)
  where
    go : Dec (w.0 ≡ 0) → w.0 * E ≤ p → w.0 * E + length w.1 ≤ p
    go (yes e) q = (let z : w.0 * E ≡ 0 = rw e (omega arith) in omega (arith, z, h.0 e))
    go (no e) q = absurd (omega (arith, apart E w.0 0 (omega arith)))

carried_kept : (s : Settings) (d : Decision) (t u : List ℕ) → (first d.tests ≡ 0 → Laid s t d.stores) → Framed s d t u → Kept s t u
unfolding capacity
carried_kept s d t u laid f = go (ℕ_discrete (first d.tests) 0)
  where
    k : ℕ
    k = length t / s.size * s.size

    go : Dec (first d.tests ≡ 0) → Kept s t u
    go (no ne) = rw (f.refused ne) (kept_same s t)
    go (yes e) =
        let l = laid e in
        let after : drop k (take (length t) u) ≡ drop k (take (length t) t) =
        part_same t u k (length t) f.long (λ p a b. f.untouched e p (past_slots s.size (length t) d.stores (omega (arith, l.sizes.least)) l.fits p a)) in
        let front : drop 16 (take s.size u) ≡ drop 16 (take s.size t) =
        part_same t u 16 s.size f.long (λ p a b. f.untouched e p (past_header s.size d.stores l.spares p a b)) in
        record {
          long = f.long;
          rest = ap (drop k) (sym (take_all (length t) u (omega (arith, f.long)))) ∙ after ∙ ap (drop k) (take-length t);
          first_slot = ap (drop 16) (view_zero s.size u) ∙ front ∙ sym (ap (drop 16) (view_zero s.size t));
        }

pub frame : (s : Settings) (c : Call) (t : List ℕ) → Kept s t (run s c t).after
unfolding run
frame s (Write w) t = carried_kept s (decision s w t) t _ (laid s w t) (framed s w t)
frame s (Look c) t = kept_same s t

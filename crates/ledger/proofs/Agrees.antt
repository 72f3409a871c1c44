-- A call on a table and on the ledger that it holds, side by side (`Agrees`): a sound table afterwards, of the same length, with the
-- ledger that the ledger's step gives, the same answer and output, and every other chain's slots as they were. Here are the laws that
-- each call is shown by: a refusal on both sides, an answer that changes nothing, and stores (`ledger_after` is the ledger after them).
use mathlib.Core.Path.{◌≡◌, refl, sym, ap, ap₂, ◌∙◌, subst, fun_ext}
use mathlib.Core.Logic.{◌≢◌}
use Prim.Native.Nat.{ℕ, zero, suc, ◌<◌}
use native.Mathlib.Omega.{arith}
use mathlib.Core.Bool.{Bool, cond}
use mathlib.Core.List.{List, [], ◌∷◌}
use mathlib.Core.Option.{Option, some}
use lib.ListN.{length}
use lib.Dec.{eqb}
use borrow.Author.Tests.{eq-eqb, ne_eqb}
use Rattle.definition.specs.declared.Settings.{Settings}
use Rattle.definition.specs.Slots.{View, view, Store, store}
use Rattle.definition.specs.FreeList.{members_of}
use Rattle.definition.specs.Answers.{Answer}
use Rattle.definition.specs.Calls.{capacity, unless}
use Rattle.definition.specs.Sound.{occ, chain_at, SoundView, Sound}
use Rattle.definition.specs.Ledger.{Chain, Ledger, Outcome, wrote, told, with_chain, new_chain}
use Rattle.definition.specs.Run.{chain_on, ledger_view, ledger_of}
use Rattle.laws.proofs.Conditions.{cond_yes, cond_no, by_order}
use Rattle.laws.proofs.Views.{upd_all, Fits, length_store, view_store}
use Rattle.laws.proofs.Chains.{Same, content_frame}
use Rattle.laws.proofs.Sizes.{capacity_same}
use Rattle.laws.proofs.NewChains.{Holds}
use Rattle.ledger.proofs.Invariant.{set_at, set_at_same, set_at_other, own_head}
use Rattle.ledger.proofs.SoundTables.{sound_parted}
use Rattle.ledger.proofs.Rewritten.{Rewritten}

-- a call's outcome on the table t and on its ledger, hd being the head whose chain the call may change
pub record Agrees (s : Settings) (t : List ℕ) (hd : ℕ) (o : Outcome (List ℕ)) (l : Outcome Ledger) : Type 0 where
  pub sound : Sound s o.after
  pub long : length o.after ≡ length t
  pub answers : o.answer ≡ l.answer
  pub ledgers : ledger_of s o.after ≡ l.after
  pub outputs : o.output ≡ l.output
  -- no byte in a slot of a chain other than hd's changes
  pub keeps : (j : ℕ) → j ≢ hd → Same (view s.size t) (view s.size o.after) (chain_at s (view s.size t) j)

-- ---- calls that write

-- the same refusal on both sides leaves both as they were
pub agree_unless : (s : Settings) (t : List ℕ) (hd n m : ℕ) (o : Answer × List ℕ) (l : Answer × Ledger) → n ≡ m → Sound s t
    → (m ≡ 0 → Agrees s t hd (wrote o) (wrote l)) → Agrees s t hd (wrote (unless n t o)) (wrote (unless m (ledger_of s t) l))
unfolding unless
agree_unless s t hd n m o l e k h = subst (λ (j : ℕ). Agrees s t hd (wrote (unless j t o)) (wrote (unless m (ledger_of s t) l))) (sym e) (go m h)
  where
    go : (j : ℕ) → (j ≡ 0 → Agrees s t hd (wrote o) (wrote l)) → Agrees s t hd (wrote (unless j t o)) (wrote (unless j (ledger_of s t) l))
    go zero g = g refl
    go (suc j) g = record { sound = k; long = refl; answers = refl; ledgers = refl; outputs = refl; keeps = λ x ne i m. refl }

-- stores that fit, on the table and on its view
pub agree_stores : (s : Settings) (t : List ℕ) (hd : ℕ) (ws : List Store) (a : Answer) (L : Ledger) → Fits s.size (length t) ws
    → SoundView s (upd_all (view s.size t) ws) (capacity s t) → ledger_view s (upd_all (view s.size t) ws) ≡ L
    → ((j : ℕ) → j ≢ hd → Same (view s.size t) (upd_all (view s.size t) ws) (chain_at s (view s.size t) j))
    → Agrees s t hd (wrote (a, store s.size t ws)) (wrote (a, L))
agree_stores s t hd ws a L fit k e keep =
    let l : length (store s.size t ws) ≡ length t = length_store s.size t ws fit in
    let vs : view s.size (store s.size t ws) ≡ upd_all (view s.size t) ws = view_store s.size t ws fit in
    record {
      sound = rw (vs, capacity_same s t (store s.size t ws) l) k;
      long = l;
      answers = refl;
      ledgers = rw vs e;
      outputs = refl;
      keeps = λ j ne i m. rw vs (keep j ne i m);
    }

-- ---- calls that only answer

pub agree_same : (s : Settings) (t : List ℕ) (a b : Answer × List ℕ) → Sound s t → a ≡ b → Agrees s t 0 (told t a) (told (ledger_of s t) b)
agree_same s t a b k e = record {
  sound = k;
  long = refl;
  answers = ap (λ (r : Answer × List ℕ). r.0) e;
  ledgers = refl;
  outputs = ap (λ (r : Answer × List ℕ). r.1) e;
  keeps = λ x ne i m. refl;
}

-- the same refusal on both sides, or the same answer
pub unless_alike : (n m : ℕ) (out : List ℕ) (a b : Answer × List ℕ) → n ≡ m → (m ≡ 0 → a ≡ b) → unless n out a ≡ unless m out b
unfolding unless
unless_alike n zero out a b e h = ap (λ (j : ℕ). unless j out a) e ∙ h refl
unless_alike n (suc m) out a b e h = ap (λ (j : ℕ). unless j out a) e

-- ---- the ledger after a rewrite

-- a chain whose slots stay holds what it held
pub chain_on_frame : (s : Settings) (f g : View) (h : ℕ) (l : List ℕ) → (0 < length l → 0 < occ h l) → Same f g l → chain_on s g h l ≡ chain_on s f h l
unfolding chain_on
chain_on_frame s f g h [] r e = refl
chain_on_frame s f g h (x ∷ l) r e =
    let k : g h ≡ f h = e h (r (omega arith)) in
    rw (k, content_frame s f g (x ∷ l) e) refl

pub ledger_after : (s : Settings) (f g : View) (cap hd : ℕ) (new free : List ℕ) (G : ℕ) (c : Option Chain) → SoundView s f cap
    → Rewritten s f g cap hd new free G → chain_on s g hd new ≡ c → ledger_view s g ≡ with_chain (ledger_view s f) hd c free G
unfolding ledger_view with_chain members_of
ledger_after s f g cap hd new free G c k r e =
    λ i. record { chains = fun_ext each i; free = ap members_of r.free_is i; filled = r.filled_is i }
  where
    away : (h : ℕ) → h ≢ hd → chain_on s g h (chain_at s g h) ≡ cond (eqb h hd) c (chain_on s f h (chain_at s f h))
    away h ne =
        ap (chain_on s g h) (r.chains_are h ∙ set_at_other (chain_at s f) hd new h ne)
        ∙ chain_on_frame s f g h (chain_at s f h) (own_head (sound_parted s f cap k) h) (r.others_stay h ne)
        ∙ sym (cond_no (eqb h hd) c (chain_on s f h (chain_at s f h)) (ne_eqb h hd ne))

    each : (h : ℕ) → chain_on s g h (chain_at s g h) ≡ cond (eqb h hd) c (chain_on s f h (chain_at s f h))
    each h =
        by_order hd h (λ b. away h (omega arith))
        (λ q. ap₂ (λ (a : ℕ) (b : List ℕ). chain_on s g a b) q (r.chains_are h ∙ ap (set_at (chain_at s f) hd new) q ∙ set_at_same (chain_at s f) hd new)
        ∙ e ∙ sym (cond_yes (eqb h hd) c (chain_on s f h (chain_at s f h)) (eq-eqb h hd q)))
        (λ b. away h (omega arith))

-- a chain that holds what was lent is the ledger's new chain
pub holds_chain : (s : Settings) (g : View) (G h : ℕ) (l key content : List ℕ) (mark : Bool) → Holds s g G h l key content mark
    → chain_on s g h l ≡ new_chain s key content mark l
unfolding chain_on new_chain
holds_chain s g G h [] key content mark r = absurd r.chain
holds_chain s g G h (x ∷ l) key content mark r =
    λ i. some (record { slots = x ∷ l; key = r.keys i; content = r.contents i; mark = r.marks i; count = r.counts i })

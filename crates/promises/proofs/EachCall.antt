-- What demands 1 and 3 say of one call (`Promised`), said of the code: of each call of the table (`code_promised`) and of each C function
-- (`station_promised`), an answer being there what came back says. In C's own words: where `number` is not 0, table and output are as they
-- were and all else that came back is zero (`station_refused`). A fixed read of the table tells no refusal itself: where its companion
-- answers one, it hands back an empty part (`code_refused_told`). Refusals, frame and room are said of any table, sound or not; that the slots
-- of other chains stay, of a sound one. No bound on the table's length is asked for.
use mathlib.Core.Path.{◌≡◌, refl, sym, ap, ap₂, ◌∙◌, subst}
use mathlib.Core.Logic.{◌≢◌}
use mathlib.Core.Bool.{Bool}
use mathlib.Core.List.{List, [], ◌++◌, head_d}
use Prim.Native.Nat.{ℕ, suc, ◌<◌}
use lib.ListN.{length}
use Rattle.definition.specs.declared.Settings.{Settings}
use Rattle.definition.specs.Tests.{first}
use Rattle.definition.specs.Slots.{view, filled}
use Rattle.definition.specs.FreeList.{free_list, members_of}
use Rattle.definition.specs.Chains.{walk}
use Rattle.definition.specs.Parts.{prefix, pieces}
use Rattle.definition.specs.Effect.{new_slots}
use Rattle.definition.specs.Answers.{Answer, refusal, at, accepted}
use Rattle.definition.specs.Calls.{answer_unless, Writing, Insert, Replace, decision, insert, replace}
use Rattle.definition.specs.Sound.{Sound, occ, chain_at}
use Rattle.definition.specs.Ledger.{Call, Write, Outcome, target}
use Rattle.definition.specs.Run.{ledger_of, run}
use Rattle.ledger.proofs.Frame.{Framed, framed, Kept, frame}
use Rattle.ledger.proofs.Spared.{SparedBy, call_spares}
use Rattle.ledger.proofs.OtherChains.{others_kept}
use Rattle.ledger.proofs.Refused.{teller, refused_with, refused_leaves, refused_itself}
use Rattle.ledger.proofs.Room.{spare, needed, insert_checks, replace_checks, TwelveExactly, insert_room, replace_room, insert_twelve, replace_twelve}
use Rattle.station.specs.declared.answers.PyltarkaSettings.{PyltarkaSettings}
use Rattle.station.specs.Forms.{settings_of}
use Rattle.promises.proofs.Performed.{Performed, call_of, start_of, outcome_of, performed_is}
use Rattle.promises.proofs.Exported.{Exported, Returned, inserted, number, changed, copied, part, listed, said_by, form_of, returned_of, exported_is, in_form}
use Rattle.promises.proofs.Exported as exported

-- of the call c on the table t, any bytes, o being what it left
pub record Promised (s : Settings) (c : Call) (t : List ℕ) (o : Outcome (List ℕ)) : Type 0 where
  -- where it answers a refusal, table and output are as they were, and it answers nothing else
  pub refused_leaves : (n : ℕ) → o.answer ≡ refusal n → o ≡ refused_with n c t
  -- a call that writes changes no byte outside the places of its stores, and none where a test refuses
  pub in_its_stores : (w : Writing) → c ≡ Write w → Framed s (decision s w t) t o.after
  -- no call changes the table's length, a byte after the last whole slot, or slot 0 past its first 16 bytes
  pub kept : Kept s t o.after
  -- a call that looks changes no byte of the table; one that writes none outside the chain that it finds, the members that it takes from the
  -- free list, the slots that it takes from FILLED up and the header, and of a freed slot, the header and a count only ten, 16 and four bytes
  pub spares : SparedBy s c t o.after
  -- on a sound table none changes a byte in a slot of a chain other than the one that it is about
  pub keeps_others : Sound s t → (j : ℕ) → j ≢ target s c (ledger_of s t)
      → (i : ℕ) → 0 < occ i (chain_at s (view s.size t) j) → view s.size o.after i ≡ view s.size t i
  -- where the earlier checks pass, 12 is answered exactly when the new slots needed exceed the free and the unused ones
  pub insert_room : (key content : List ℕ) (mark : Bool) → c ≡ Write (Insert key content mark) → first (insert_checks s key content t) ≡ 0
      → TwelveExactly (needed s key content []) (spare s t)
      (at (head_d (new_slots [] (members_of (free_list (view s.size t))) (filled (view s.size t)) (length (pieces s (prefix s key ++ content)))) 0)) o.answer
  pub replace_room : (key content : List ℕ) (mark : Bool) (h : ℕ) → c ≡ Write (Replace key content mark h) → first (replace_checks s key content h t) ≡ 0
      → TwelveExactly (needed s key content (walk s (view s.size t) (filled (view s.size t)) h).slots) (spare s t) accepted o.answer
  -- and it is answered for no other reason
  pub insert_twelve : (key content : List ℕ) (mark : Bool) → c ≡ Write (Insert key content mark) → o.answer ≡ refusal 12
      → (first (insert_checks s key content t) ≡ 0) × (spare s t < needed s key content [])
  pub replace_twelve : (key content : List ℕ) (mark : Bool) (h : ℕ) → c ≡ Write (Replace key content mark h) → o.answer ≡ refusal 12
      → (first (replace_checks s key content h t) ≡ 0)
      × (spare s t < needed s key content (walk s (view s.size t) (filled (view s.size t)) h).slots)

-- the definition keeps it all
promised : (s : Settings) (c : Call) (t : List ℕ) → Promised s c t (run s c t)
unfolding run insert replace
promised s c t = record {
  refused_leaves = refused_itself s c t;
  in_its_stores = λ w e. rw e (framed s w t);
  kept = frame s c t;
  spares = call_spares s c t;
  keeps_others = others_kept s c t;
  insert_room = λ key content mark e h. rw e (insert_room s key content mark t h);
  replace_room = λ key content mark h e k. rw e (replace_room s key content mark h t k);
  insert_twelve = λ key content mark e q. insert_twelve s key content mark t (rw e at q);
  replace_twelve = λ key content mark h e q. replace_twelve s key content mark h t (rw e at q);
}

-- ---- the table's calls

pub code_promised : {s : Settings} (p : Performed s) → Promised s (call_of p) (start_of p) (outcome_of p)
code_promised {s} p = subst (Promised s (call_of p) (start_of p)) (sym (performed_is p)) (promised s (call_of p) (start_of p))

-- q, which tells of p, answered n: p again, of a fixed read its companion with the same arguments on a table of the same bytes
pub code_refused_told : {s : Settings} (p q : Performed s) → call_of q ≡ teller (call_of p) → start_of q ≡ start_of p → (n : ℕ) → (outcome_of q).answer ≡ refusal n
    → outcome_of p ≡ refused_with n (call_of p) (start_of p)
code_refused_told {s} p q c t n e =
    let asked : outcome_of q ≡ run s (teller (call_of p)) (start_of p) = performed_is q ∙ ap₂ (run s) c t in
    performed_is p ∙ refused_leaves s (call_of p) (start_of p) n (ap (λ (o : Outcome (List ℕ)). o.answer) (sym asked) ∙ e)

-- ---- the C functions

pub station_promised : {s : PyltarkaSettings} (p : Exported s) → Promised (settings_of s) (exported.call_of p) (exported.start_of p) (exported.outcome_of p)
station_promised {s} p =
    subst (Promised (settings_of s) (exported.call_of p) (exported.start_of p)) (sym (exported_is p)) (promised (settings_of s) (exported.call_of p) (exported.start_of p))

-- the member that tells a refusal
abbrev pub number_member : Returned → ℕ
number_member (inserted r) = r.number
number_member (number n) = n
number_member (changed r) = r.number
number_member (copied r) = r.number
number_member (part r) = r.number
number_member (listed r) = r.number

refused_by : (n m : ℕ) (a : Answer) → n ≡ suc m → answer_unless n a ≡ refusal (suc m)
unfolding answer_unless
refused_by n m a e = rw e refl

said_refused : (r : Returned) (n : ℕ) → number_member r ≡ suc n → said_by r ≡ refusal (suc n)
said_refused (inserted r) n e = refused_by _ n _ e
said_refused (number r) n e = refused_by _ n _ e
said_refused (changed r) n e = refused_by _ n _ e
said_refused (copied r) n e = refused_by _ n _ e
said_refused (part r) n e = refused_by _ n _ e
said_refused (listed r) n e = refused_by _ n _ e

said_is : {s : PyltarkaSettings} (p : Exported s) → (exported.outcome_of p).answer ≡ said_by (returned_of p)
said_is (exported.Inserting κ table after key value mark r e) = refl
said_is (exported.Replacing κ table after h key value mark r e) = refl
said_is (exported.Removing κ table after h r e) = refl
said_is (exported.Changing κ table after h step r e) = refl
said_is (exported.Reading κ table h checked key output after r e) = refl
said_is (exported.ReadingFixed κ table h checked key r e) = refl
said_is (exported.Counting κ table r e) = refl

pub station_refused : {s : PyltarkaSettings} (p : Exported s) (n : ℕ) → number_member (returned_of p) ≡ suc n
    → (returned_of p ≡ form_of (settings_of s) (exported.call_of p) (refusal (suc n))) × (exported.outcome_of p ≡ refused_with (suc n) (exported.call_of p) (exported.start_of p))
station_refused {s} p n e =
    let a : (exported.outcome_of p).answer ≡ refusal (suc n) = said_is p ∙ said_refused (returned_of p) n e in
    (in_form p ∙ ap (form_of (settings_of s) (exported.call_of p)) a, (station_promised p).refused_leaves (suc n) a)

-- The reads and the free count on a sound table answer as the ledger does (`read_agrees`, `read_fixed_agrees`, `find_fixed_agrees`,
-- `free_count_agrees`): content, mark, count and visits are the chain's, with or without a checked key, and refusals are the same.
use mathlib.Core.Path.{◌≡◌, refl, sym, ap, ap₂, ◌∙◌}
use Prim.Native.Nat.{ℕ}
use native.Mathlib.Omega.{arith}
use mathlib.Core.List.{List, [], ◌∷◌}
use mathlib.Core.Option.{Option}
use lib.ListN.{length}
use Rattle.definition.specs.declared.Settings.{Settings}
use Rattle.definition.specs.Tests.{refuse, first}
use Rattle.definition.specs.Slots.{View, view, filled, count_of, mark_of}
use Rattle.definition.specs.FreeList.{free_list, members_of}
use Rattle.definition.specs.Chains.{Walk, content_of}
use Rattle.definition.specs.Answers.{Answer, found, content, members}
use Rattle.definition.specs.Calls.{capacity, checked_key_test, output_test, table_tests, answer_unless, read, fixed_tests, look_fixed, read_fixed, find_fixed, free_count}
use Rattle.definition.specs.Sound.{chain_at, Sound}
use Rattle.definition.specs.Ledger.{Read, ReadFixed, FindFixed, FreeCount, Look, told, chain_test, content_in, found_in, ledger_fixed, ledger_step}
use Rattle.definition.specs.Run.{chain_on, ledger_view, ledger_of}
use Rattle.laws.proofs.Tests.{passed, first_pass, first_cons, first_past}
use Rattle.laws.proofs.Chains.{ChainAt}
use Rattle.laws.proofs.Passed.{walk_fixed}
use Rattle.ledger.proofs.SoundTables.{sound_tests}
use Rattle.ledger.proofs.Agrees.{Agrees, agree_same, unless_alike}
use Rattle.ledger.proofs.LedgerTests.{chain_tests_lem, chain_there}

-- ---- the chain that a ledger has of a table

content_on : (s : Settings) (f : View) (F h : ℕ) (l : List ℕ) → ChainAt s f F h l → content_in (chain_on s f h l) ≡ content_of s f l
unfolding content_in chain_on
content_on s f F h [] c = absurd c
content_on s f F h (x ∷ l) c = refl

found_on : (s : Settings) (f : View) (F h : ℕ) (l : List ℕ) → ChainAt s f F h l
    → found_in (chain_on s f h l) ≡ found (length (content_of s f l)) (mark_of s (f h)) (count_of s (f h)) (length l)
unfolding found_in chain_on
found_on s f F h [] c = absurd c
found_on s f F h (x ∷ l) c = refl

-- ---- the copying read

pub read_agrees : (s : Settings) (t : List ℕ) (key : Option (List ℕ)) (h : ℕ) (out : List ℕ) → Sound s t
    → Agrees s t 0 (told t (read s key h t out)) (ledger_step s (capacity s t) (Look (Read key h out)) (ledger_of s t))
unfolding read ledger_step ledger_view
read_agrees s t key h out k =
    let f : View = view s.size t in
    let cap : ℕ = capacity s t in
    let l : List ℕ = chain_at s f h in
    agree_same s t _ _ k (unless_alike _ _ out _ _
    (first_past (table_tests s f cap) _ (sound_tests s f cap k)
    ∙ first_cons (checked_key_test s key) _ _ (chain_tests_lem s f cap k h key _ _ (λ c d.
    ap (λ (b : List ℕ). first (output_test b out ∷ [])) (ap (content_of s f) d ∙ sym (content_on s f (filled f) h l c)))))
    (λ e.
    let a = first_pass (checked_key_test s key) _ e in
    let b = first_pass (chain_test (ledger_of s t) h) _ a.1 in
    let there = chain_there s f cap k h b.0 in
    rw (there.1, content_on s f (filled f) h l there.0, found_on s f (filled f) h l there.0) refl))

-- ---- the fixed read and its companion

look_agrees : (s : Settings) (t : List ℕ) (key : Option (List ℕ)) (h : ℕ) → Sound s t → look_fixed s key h t ≡ ledger_fixed s key h (ledger_of s t)
unfolding look_fixed fixed_tests ledger_fixed ledger_view
look_agrees s t key h k =
    let f : View = view s.size t in
    let cap : ℕ = capacity s t in
    let l : List ℕ = chain_at s f h in
    unless_alike _ _ [] _ _
    (first_cons (refuse 1 s.multipart) _ _ (first_past (table_tests s f cap) _ (sound_tests s f cap k)
    ∙ first_cons (checked_key_test s key) _ _ (chain_tests_lem s f cap k h key [] [] (λ c d. refl))))
    (λ e.
    let m = first_pass (refuse 1 s.multipart) _ e in
    let a = first_pass (checked_key_test s key) _ m.1 in
    let b = first_pass (chain_test (ledger_of s t) h) _ a.1 in
    let there = chain_there s f cap k h b.0 in
    let one : h ∷ [] ≡ l = sym (ap (λ (w : Walk). w.slots) (walk_fixed s f (filled f) h (passed 1 s.multipart (omega arith) m.0))) ∙ there.1 in
    ap (λ (r : List ℕ). (found (length (content_of s f r)) (mark_of s (f h)) (count_of s (f h)) (length r), content_of s f r)) one
    ∙ sym (ap₂ (λ (a : Answer) (b : List ℕ). (a, b)) (found_on s f (filled f) h l there.0) (content_on s f (filled f) h l there.0)))

pub read_fixed_agrees : (s : Settings) (t : List ℕ) (key : Option (List ℕ)) (h : ℕ) → Sound s t
    → Agrees s t 0 (told t (content (read_fixed s key h t), [])) (ledger_step s (capacity s t) (Look (ReadFixed key h)) (ledger_of s t))
unfolding read_fixed ledger_step
read_fixed_agrees s t key h k = agree_same s t _ _ k (ap (λ (r : Answer × List ℕ). (content r.1, [])) (look_agrees s t key h k))

pub find_fixed_agrees : (s : Settings) (t : List ℕ) (key : Option (List ℕ)) (h : ℕ) → Sound s t
    → Agrees s t 0 (told t (find_fixed s key h t, [])) (ledger_step s (capacity s t) (Look (FindFixed key h)) (ledger_of s t))
unfolding find_fixed ledger_step
find_fixed_agrees s t key h k = agree_same s t _ _ k (ap (λ (r : Answer × List ℕ). (r.0, [])) (look_agrees s t key h k))

-- ---- the free count

pub free_count_agrees : (s : Settings) (t : List ℕ) → Sound s t
    → Agrees s t 0 (told t (free_count s t, [])) (ledger_step s (capacity s t) (Look FreeCount) (ledger_of s t))
unfolding free_count ledger_step ledger_view answer_unless
free_count_agrees s t k =
    let f : View = view s.size t in
    agree_same s t _ _ k
    (ap (λ (n : ℕ). (answer_unless n (members (length (members_of (free_list f)))), [])) k.accepted)

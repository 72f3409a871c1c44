-- Demand 3, one call: from a sound table every call, with any arguments, refused ones among them, gives a sound table of the same length,
-- whose ledger is the step of the ledger before, with the same answer and output; and no byte in a slot of another chain changes
-- (`call_agrees`). One statement for fixed and multipart, counted or not, keyed or not, and every entry size. The table is shorter than
-- 2 ^ 64 bytes, as FILLED is stored in eight.
use Prim.Native.Nat.{ℕ, ◌^◌, ◌<◌}
use mathlib.Core.List.{List}
use lib.ListN.{length}
use Rattle.definition.specs.declared.Settings.{Settings}
use Rattle.definition.specs.Settings.{link_bytes}
use Rattle.definition.specs.Calls.{capacity, Insert, Replace, Remove, Change, insert, replace, remove, change}
use Rattle.definition.specs.Sound.{Sound}
use Rattle.definition.specs.Ledger.{Read, ReadFixed, FindFixed, FreeCount, Call, Write, Look, target, ledger_step}
use Rattle.definition.specs.Run.{ledger_of, run}
use Rattle.ledger.proofs.Agrees.{Agrees}
use Rattle.ledger.proofs.WritesAgree.{insert_agrees, replace_agrees, remove_agrees}
use Rattle.ledger.proofs.ReadsAgree.{read_agrees, read_fixed_agrees, find_fixed_agrees, free_count_agrees}
use Rattle.ledger.proofs.ChangeAgrees.{change_agrees}

pub call_agrees : (s : Settings) (c : Call) (t : List ℕ) → Sound s t → length t < 256 ^ link_bytes
    → Agrees s t (target s c (ledger_of s t)) (run s c t) (ledger_step s (capacity s t) c (ledger_of s t))
unfolding run target insert replace remove change
call_agrees s (Write (Insert key content mark)) t k bound = insert_agrees s t key content mark k bound
call_agrees s (Write (Replace key content mark h)) t k bound = replace_agrees s t key content mark h k bound
call_agrees s (Write (Remove h)) t k bound = remove_agrees s t h k bound
call_agrees s (Write (Change step h)) t k bound = change_agrees s t step h k
call_agrees s (Look (Read key h out)) t k bound = read_agrees s t key h out k
call_agrees s (Look (ReadFixed key h)) t k bound = read_fixed_agrees s t key h k
call_agrees s (Look (FindFixed key h)) t k bound = find_fixed_agrees s t key h k
call_agrees s (Look FreeCount) t k bound = free_count_agrees s t k

-- A table as demand 3 sees it: the ledger that it holds, and what each call leaves of it.
use Rattle.std.specs.Prelude.{ℕ, List, [], ◌∷◌}
use Rattle.std.proofs.Math.Option.{Option, none, some}
use Rattle.definition.specs.declared.Settings.{Settings}
use Rattle.definition.specs.Slots.{View, view, filled, key_of, mark_of, count_of}
use Rattle.definition.specs.FreeList.{free_list, members_of}
use Rattle.definition.specs.Chains.{content_of}
use Rattle.definition.specs.Answers.{Answer, content}
use Rattle.definition.specs.Calls.{write, read, read_fixed, find_fixed, free_count}
use Rattle.definition.specs.Sound.{chain_at}
use Rattle.definition.specs.Ledger.{Chain, Ledger, Looking, Read, ReadFixed, FindFixed, FreeCount, Call, Write, Look, Outcome, wrote, told}

-- the chain at h on these slots, none where no chain starts
unfoldable pub chain_on : Settings → View → ℕ → List ℕ → Option Chain
chain_on s f h [] = none
chain_on s f h (x ∷ l) =
    some (record { slots = x ∷ l; key = key_of s (f h); content = content_of s f (x ∷ l); mark = mark_of s (f h); count = count_of s (f h) })

-- the ledger that these slots hold
unfoldable pub ledger_view : Settings → View → Ledger
ledger_view s f = record { chains = λ h. chain_on s f h (chain_at s f h); free = members_of (free_list f); filled = filled f }

abbrev pub ledger_of : Settings → List ℕ → Ledger
ledger_of s t = ledger_view s (view s.size t)

-- a looking call on a table: its answer, and the output afterwards
abbrev pub look : Settings → Looking → List ℕ → Answer × List ℕ
look s (Read k h out) t = read s k h t out
look s (ReadFixed k h) t = (content (read_fixed s k h t), [])
look s (FindFixed k h) t = (find_fixed s k h t, [])
look s FreeCount t = (free_count s t, [])

-- a call on a table
unfoldable pub run : Settings → Call → List ℕ → Outcome (List ℕ)
run s (Write w) t = wrote (write s w t)
run s (Look c) t = told t (look s c t)

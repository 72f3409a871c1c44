use Rattle.std.proofs.Common.{sym, subst, arith, refl, Bor, List, ℕ}
use Rattle.lines.specs.Words.{EndsIn}
use Rattle.lines.proofs.Cuts.{nth_end}
use Rattle.lines.proofs.words.rest.Goals as goal

pub returns : goal.returns
returns c =
    subst (λ (part : Bor (List ℕ)). EndsIn c.args.text.now part.now) (sym c.unwrap_or.ensures)
    (nth_end _ c.args.text.now c.args.place c.splitn.result c.nth.result c.nth.new.self _ c.splitn.ensures.done c.splitn.ensures.rest (omega (arith, c.splitn.ensures.count, c.saturating_add.ensures)) refl c.nth.ensures.ran)

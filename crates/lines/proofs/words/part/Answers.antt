use Rattle.std.proofs.Common.{rules, tests, ◌==◌, ◌≡◌, ◌∙◌, ap, [], ℕ, List, Bor, Option, None, Some, refl}
use Rattle.std.specs.Option.{option_map, unwrap_or}
use Rattle.std.proofs.lemmas.Option.{unwrap_or-slice_get}
use Rattle.std.proofs.lemmas.Iterator.Consumers.{nth_from_yields_List}
use Rattle.std.proofs.lemmas.Iterator.Splits.{YieldsList-from_slice_split}
use Rattle.lines.proofs.words.part.Goals as goal

now-unwrap_or : (o : Option (Bor (List ℕ))) (d : Bor (List ℕ)) → (unwrap_or o d).now ≡ unwrap_or (option_map (λ x. x.now) o) d.now
now-unwrap_or None d = refl
now-unwrap_or (Some x) d = refl

pub returns : goal.returns
returns c =
    let picked = nth_from_yields_List c.nth.result c.nth.new.self c.args.place c.nth.ensures.ran
    (YieldsList-from_slice_split _ (λ b. b == c.args.separator) c.args.text.now c.split.ensures.rest c.split.ensures.done c.split.ensures.closure (λ x r q k. search (rules, tests))) in
    ap (λ x. x.now) c.unwrap_or.ensures ∙ now-unwrap_or c.nth.result _ ∙ ap (λ o. unwrap_or o []) picked ∙ unwrap_or-slice_get _ c.args.place []

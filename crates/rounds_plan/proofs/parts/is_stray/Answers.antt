use Rattle.std.proofs.Common.{◌≡◌, ◌-◌, ◌==◌, ◌∙◌, ap, arith, drop, length, not}
use Rattle.std.specs.List.{list_any}
use Rattle.std.proofs.lemmas.List.{length-drop, take_all}
use Rattle.std.proofs.lemmas.Grind.{common_steps}
use Rattle.rounds_plan.proofs.parts.is_stray.Goals as goal

pub returns : goal.returns
returns c =
    let words = c.args.state.now.words in
    let long : length words ≡ 8 = grind (arith, common_steps, c.type_inv.state) in
    record {
      exact = c.is_any_set.ensures.exact
          ∙ ap (list_any (λ w. not (w == 0))) (take_all (8 - c.args.fields) (drop c.args.fields words) (omega (arith, long, length-drop c.args.fields words)));
    }

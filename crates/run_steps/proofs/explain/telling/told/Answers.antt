use Rattle.std.proofs.Common.{◌∙◌, ap, sym}
use Rattle.std.specs.Option.{option_map}
use Rattle.run_steps.specs.explain.Telling.{told_text}
use Rattle.run_steps.proofs.explain.Way.{opens_as}
use Rattle.run_steps.proofs.explain.telling.told.Goals as goal

pub returns-clause-text : goal.returns-clause-text
returns-clause-text c =
    c.in_ok-text.ensures.text
    ∙ ap (λ w. told_text (option_map (λ n. n.now) c.args.names) c.args.show w.plan w.stop c.args.steps.now) (sym (opens_as c.args.plan c.args.stop c.in_ok-world.world c.in_ok-world.ensures.exact))

use Rattle.std.proofs.Common.{◌∙◌, ap}
use Rattle.std.specs.Option.{unwrap_or}
use Rattle.std.proofs.lemmas.Option.{unwrap_or-slice_get}
use Rattle.rounds_plan.specs.Configs.{blank}
use Rattle.run_naive.proofs.opening.opening_of.Goals as goal

pub returns-in-None : goal.returns-in-None
returns-in-None c = record { exact = ap (λ o. unwrap_or o blank) c.in-None.ensures.opening ∙ unwrap_or-slice_get c.args.plan.now.opening c.args.node blank }

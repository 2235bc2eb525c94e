use Rattle.std.proofs.Common.{◌∙◌, [], ap}
use Rattle.std.specs.Option.{unwrap_or}
use Rattle.run_steps.proofs.explain.Looking.{mapped_or, name_known}
use Rattle.run_steps.proofs.explain.sentences.name_of.Goals as goal

pub returns : goal.returns
returns c =
    ap (λ s. s.now) c.unwrap_or.ensures ∙ mapped_or (λ s. s.now) c.name.result _ ∙ ap (λ o. unwrap_or o []) c.name.ensures.name ∙ name_known c.args.names.now c.args.node

use Rattle.std.proofs.Common.{ap, ◌∙◌, is_some}
use Rattle.rule_lang.specs.View.{items_of}
use Rattle.rule_check.specs.WellFormed.{nests}
use Rattle.rule_check.proofs.Searches.{any_next}
use Rattle.rule_check.proofs.well_formed.some_nest.Goals as goal

pub returns : goal.returns
returns c = record { exact = c.is_some.ensures ∙ ap is_some c.first_nest.ensures.exact ∙ any_next (λ n. nests n.body) 0 (items_of c.args.items.now) }

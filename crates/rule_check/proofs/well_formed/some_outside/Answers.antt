use Rattle.std.proofs.Common.{ap, ◌∙◌, is_some}
use Rattle.rule_lang.specs.View.{items_of}
use Rattle.rule_check.specs.WellFormed.{looks_outside}
use Rattle.rule_check.proofs.Searches.{any_next}
use Rattle.rule_check.proofs.well_formed.some_outside.Goals as goal

pub returns : goal.returns
returns c = record { exact = c.is_some.ensures ∙ ap is_some c.first_outside.ensures.exact ∙ any_next (λ n. looks_outside n.body) 0 (items_of c.args.items.now) }

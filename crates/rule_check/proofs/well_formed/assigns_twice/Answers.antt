use Rattle.std.proofs.Common.{ap, ◌∙◌}
use Rattle.rule_lang.specs.View.{items_of}
use Rattle.rule_check.specs.WellFormed.{has_twice}
use Rattle.rule_check.proofs.Repeats.{assigned_names}
use Rattle.rule_check.proofs.well_formed.assigns_twice.Goals as goal

pub returns : goal.returns
returns c = record { exact = c.is_some.ensures ∙ c.in_ok-repeat.ensures.found ∙ ap has_twice (assigned_names (items_of c.args.items.now)) }

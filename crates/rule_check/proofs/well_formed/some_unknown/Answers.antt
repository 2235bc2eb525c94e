use Rattle.std.proofs.Common.{ap, ◌∙◌, is_some}
use Rattle.rule_lang.specs.View.{items_of}
use Rattle.rule_check.specs.WellFormed.{is_unknown}
use Rattle.rule_check.specs.Fields.{field_names}
use Rattle.rule_check.proofs.Searches.{any_next}
use Rattle.rule_check.proofs.well_formed.some_unknown.Goals as goal

pub returns : goal.returns
returns c = record { exact = c.is_some.ensures ∙ ap is_some c.first_unknown.ensures.exact ∙ any_next (is_unknown (field_names c.args.fields.now)) 0 (items_of c.args.items.now) }

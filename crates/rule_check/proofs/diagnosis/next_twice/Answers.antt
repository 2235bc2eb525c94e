use Rattle.std.proofs.Common.{◌∙◌, ap}
use Rattle.rule_lang.specs.View.{items_of}
use Rattle.rule_check.specs.declared.fault.CheckFault.TheVariants.{NextTwice}
use Rattle.rule_check.specs.WellFormed.{has_twice, next_names}
use Rattle.rule_check.specs.Items.{rules_of}
use Rattle.rule_check.proofs.Repeats.{assigned_names}
use Rattle.rule_check.proofs.Agreed.{holds, fails}
use Rattle.rule_check.proofs.diagnosis.next_twice.Goals as goal

pub returns-in-Some-clause-agrees : goal.returns-in-Some-clause-agrees
returns-in-Some-clause-agrees c =
    let items = items_of c.args.items.now in
    holds (has_twice (next_names (rules_of items))) NextTwice c.in_ok-repeat.repeat c.in-Some.repeat (c.in_ok-repeat.ensures.found ∙ ap has_twice (assigned_names items)) c.in-Some.is

pub returns-in-None-clause-agrees : goal.returns-in-None-clause-agrees
returns-in-None-clause-agrees c =
    let items = items_of c.args.items.now in
    fails (has_twice (next_names (rules_of items))) NextTwice c.in_ok-repeat.repeat (c.in_ok-repeat.ensures.found ∙ ap has_twice (assigned_names items)) c.in-None.is

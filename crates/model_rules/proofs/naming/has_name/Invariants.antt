use Rattle.std.proofs.Common.{◌≡◌, drop}
use Rattle.rule_check.specs.WellFormed.{is_among}
use Rattle.model_rules.specs.Models.{bare}
use Rattle.model_rules.specs.ScopeView.{named}
use Rattle.model_rules.proofs.naming.has_name.Given as goal

abbrev pub invariant-loop-other : goal.invariant-loop-other
invariant-loop-other l = is_among (bare (named (drop l.other-index l.names))) l.name ≡ is_among (bare (named l.names)) l.name

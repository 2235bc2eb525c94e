use Rattle.std.proofs.Common.{◌≡◌, drop}
use Rattle.model_rules.specs.Models.{bare}
use Rattle.model_rules.specs.ScopeView.{named}
use Rattle.model_rules.specs.Naming.{stray}
use Rattle.model_rules.proofs.naming.first_stray.Given as goal

abbrev pub invariant-loop-name : goal.invariant-loop-name
invariant-loop-name l = stray (bare (named l.others)) (named (drop l.name-index l.names)) ≡ stray (bare (named l.others)) (named l.names)

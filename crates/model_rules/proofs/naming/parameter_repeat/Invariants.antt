use Rattle.std.proofs.Common.{◌≡◌, ◌++◌, drop, take}
use Rattle.std.specs.Prelude.{map}
use Rattle.model_text.specs.View.{name_of}
use Rattle.model_rules.specs.Models.{bare}
use Rattle.model_rules.specs.ScopeView.{named}
use Rattle.model_rules.specs.Naming.{repeat_after}
use Rattle.model_rules.proofs.naming.parameter_repeat.Given as goal

abbrev pub invariant-loop-k : goal.invariant-loop-k
invariant-loop-k l = repeat_after (bare (named l.names) ++ bare (map name_of (take l.k l.parameters))) (map name_of (drop l.k l.parameters)) ≡ repeat_after (bare (named l.names)) (map name_of l.parameters)

use Rattle.std.proofs.Common.{◌≡◌, drop, take, []}
use Rattle.model_rules.specs.Models.{bare}
use Rattle.model_rules.specs.ScopeView.{named}
use Rattle.model_rules.specs.Naming.{repeat_after}
use Rattle.model_rules.proofs.naming.first_repeat.Given as goal

abbrev pub invariant-loop-k : goal.invariant-loop-k
invariant-loop-k l = repeat_after (bare (named (take l.k l.names))) (named (drop l.k l.names)) ≡ repeat_after [] (named l.names)

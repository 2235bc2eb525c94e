use Rattle.std.proofs.Common.{◌≡◌, drop}
use Rattle.model_rules.specs.Models.{bare}
use Rattle.model_rules.specs.ScopeView.{named, givens_of}
use Rattle.model_rules.specs.Naming.{unknown_given}
use Rattle.model_rules.proofs.naming.given_stray.Given as goal

abbrev pub invariant-loop-k : goal.invariant-loop-k
invariant-loop-k l = unknown_given (bare (named l.constants)) l.k (givens_of (drop l.k l.given)) ≡ unknown_given (bare (named l.constants)) 0 (givens_of l.given)

use Rattle.std.proofs.Common.{◌≡◌, drop}
use Rattle.model_rules.specs.Models.{given_value}
use Rattle.model_rules.specs.ScopeView.{givens_of}
use Rattle.model_rules.proofs.known.given_for.Given as goal

abbrev pub invariant-loop-one : goal.invariant-loop-one
invariant-loop-one l = given_value (givens_of (drop l.one-index l.given)) l.name ≡ given_value (givens_of l.given) l.name

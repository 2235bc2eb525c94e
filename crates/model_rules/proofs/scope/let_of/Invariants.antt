use Rattle.std.proofs.Common.{◌≡◌, drop}
use Rattle.model_rules.specs.ScopeView.{knowns_of}
use Rattle.model_rules.specs.Refusals.{let_for}
use Rattle.model_rules.proofs.scope.let_of.Given as goal

abbrev pub invariant-loop-known : goal.invariant-loop-known
invariant-loop-known l = let_for (knowns_of (drop l.known-index l.lets)) l.name ≡ let_for (knowns_of l.lets) l.name

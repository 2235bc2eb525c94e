use denote.Shadow.{shadow}
use denote.Text.{Utf8}
use Rattle.model_rules.specs.ScopeView.{givens_of}
use Rattle.app_calls.proofs.NameLines.{AreSetTo}
use Rattle.app_calls.proofs.models.constants.constants_of.Given as goal

abbrev pub invariant-loop-value : goal.invariant-loop-value
invariant-loop-value l = record {
  text : shadow (Utf8 l.rest);
  set : AreSetTo l.names l.values (givens_of l.constants.items) l.rest l.value-index;
}

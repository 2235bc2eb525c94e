use Rattle.std.proofs.Common.{◌≡◌, drop}
use Rattle.std.specs.List.{list_any}
use Rattle.model_rules.specs.Terms.{looks}
use Rattle.model_rules.specs.TermView.{terms_of}
use Rattle.model_rules.proofs.names.some_looks.Given as goal

abbrev pub invariant-loop-term : goal.invariant-loop-term
invariant-loop-term l = list_any looks (terms_of (drop l.term-index l.terms)) ≡ list_any looks (terms_of l.terms)

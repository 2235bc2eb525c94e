use Rattle.rule_lang.specs.View.{items_of}
use Rattle.std.proofs.Common.{◌≡◌, drop}
use Rattle.std.specs.List.{position_from}
use Rattle.rule_check.specs.WellFormed.{looks_outside}
use Rattle.rule_check.specs.Causes.{is_next, first_next}
use Rattle.rule_check.proofs.well_formed.first_outside.Given as goal

abbrev pub invariant-loop-k : goal.invariant-loop-k
invariant-loop-k l = position_from (is_next (λ n. looks_outside n.body)) l.k (items_of (drop l.k l.items)) ≡ first_next (λ n. looks_outside n.body) (items_of l.items)

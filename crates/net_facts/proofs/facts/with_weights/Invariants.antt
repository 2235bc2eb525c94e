use Rattle.std.proofs.Common.{List, ℕ, take, ◌++◌}
use Rattle.net_facts.specs.Facts.{IsRangeOf}
use Rattle.net_facts.proofs.facts.with_weights.Given as goal

abbrev pub invariant-loop-weight : goal.invariant-loop-weight
invariant-loop-weight l = (numbers : List ℕ) → IsRangeOf numbers l.fn.range → IsRangeOf (numbers ++ take l.weight-index l.weights) l.range

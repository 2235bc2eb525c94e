use Rattle.std.proofs.Common.{◌≡◌, ◌+◌, drop}
use Rattle.model_rules.specs.Meaning.{draw_number}
use Rattle.model_rules.proofs.drawing.number_for.Given as goal

abbrev pub invariant-loop-k : goal.invariant-loop-k
invariant-loop-k l = draw_number (drop l.k l.draws) l.at + l.k ≡ draw_number l.draws l.at

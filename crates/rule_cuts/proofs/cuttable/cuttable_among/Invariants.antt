use Rattle.std.specs.Prelude.{zip}
use Rattle.std.specs.List.{filter}
use Rattle.std.proofs.Common.{◌≡◌, length, map, take}
use Rattle.rule_cuts.specs.Operations.{can_pass}
use Rattle.rule_cuts.specs.Cuttable.{placed_of}
use Rattle.rule_cuts.proofs.cuttable.cuttable_among.Given as goal

abbrev pub invariant-loop-operation : goal.invariant-loop-operation
invariant-loop-operation l = map placed_of l.found.items ≡ filter (λ p. can_pass l.limits p.0) (take (length l.yielded) (zip l.operations l.places))

use Rattle.std.specs.Prelude.{All, ◌≤◌}
use Rattle.std.proofs.Common.{take}
use Rattle.app_why.proofs.bounds.greatest.Given as goal

abbrev pub invariant-loop-number : goal.invariant-loop-number
invariant-loop-number l = record {
  first : l.fn.first ≤ l.greatest;
  each : All (λ number. number ≤ l.greatest) (take l.number-index l.numbers);
}

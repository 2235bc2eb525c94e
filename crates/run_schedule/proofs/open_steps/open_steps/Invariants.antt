use Rattle.std.proofs.Common.{◌≡◌, ℕ, ◌<◌, [], true}
use Rattle.std.specs.List.{All}
use Rattle.run_schedule.specs.Walks.{RestsAt, is_open}
use Rattle.run_schedule.proofs.open_steps.open_steps.Given as goal

abbrev pub invariant-loop-node : goal.invariant-loop-node
invariant-loop-node l =
    record {
      opens : All (λ step. is_open l.walk step ≡ true) l.found.items;
      none : l.found.items ≡ [] → (u : ℕ) → u < l.node → RestsAt l.walk u;
    }

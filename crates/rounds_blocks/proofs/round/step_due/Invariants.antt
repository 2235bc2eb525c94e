use Rattle.std.proofs.Common.{◌≡◌, ℕ, length}
use Rattle.rounds_blocks.specs.Rounds.{HaveWords}
use Rattle.rounds_blocks.specs.Walks.{HasNext, HoldsOfDue}
use Rattle.rounds_blocks.proofs.round.step_due.Given as goal

-- the nodes of the first batches have their next states
abbrev pub invariant-loop-at : goal.invariant-loop-at
invariant-loop-at l = record {
  rules : l.block.rules ≡ l.fn.block.rules;
  nodes : HaveWords (length l.task.network.now) l.to;
  done : HoldsOfDue (HasNext l.fn.block.rules l.task l.to) l.task l.first l.at;
  kept : (u : ℕ) → HasNext l.fn.block.rules l.task l.initial.to u → HasNext l.fn.block.rules l.task l.to u;
}

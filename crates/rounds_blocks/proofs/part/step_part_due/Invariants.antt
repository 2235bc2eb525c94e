use Rattle.std.proofs.Common.{◌≡◌, ℕ}
use Rattle.rounds_blocks.specs.Rounds.{HasWordFrom, next_word}
use Rattle.rounds_blocks.specs.Walks.{HoldsOfDue}
use Rattle.rounds_blocks.proofs.part.step_part_due.Given as goal

-- the nodes of the first batches have their next words
abbrev pub invariant-loop-at : goal.invariant-loop-at
invariant-loop-at l = record {
  rules : l.block.rules ≡ l.fn.block.rules;
  done : HoldsOfDue (HasWordFrom l.low (next_word l.fn.block.rules l.task.network.now l.task.round l.task.from.now) l.part) l.task l.first l.at;
  kept : (u : ℕ) → HasWordFrom l.low (next_word l.fn.block.rules l.task.network.now l.task.round l.task.from.now) l.initial.part u
      → HasWordFrom l.low (next_word l.fn.block.rules l.task.network.now l.task.round l.task.from.now) l.part u;
}

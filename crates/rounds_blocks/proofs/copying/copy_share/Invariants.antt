use Rattle.std.proofs.Common.{ℕ, ◌≤◌, ◌-◌}
use Rattle.rounds_blocks.specs.Rounds.{HasWordInside}
use Rattle.rounds_blocks.specs.Walks.{HoldsOfDue}
use Rattle.rounds_blocks.proofs.copying.copy_share.Given as goal

-- the first batches are copied
abbrev pub invariant-loop-at : goal.invariant-loop-at
invariant-loop-at l = record {
  from : l.share.first ≤ l.at;
  copied : (word : ℕ → ℕ) → HoldsOfDue (HasWordInside l.low word l.source) l.task l.share.first l.share.behind → HoldsOfDue (HasWordInside l.low word l.part) l.task l.share.first l.at;
  kept : (word : ℕ → ℕ) (u : ℕ) → HoldsOfDue (HasWordInside l.low word l.source) l.task l.share.first l.share.behind → HasWordInside l.low word l.initial.part u → HasWordInside l.low word l.part u;
}

abbrev pub decreases-loop-at : goal.decreases-loop-at
decreases-loop-at l = l.share.behind - l.at

use Rattle.std.proofs.Common.{◌≡◌, ◌<◌, ◌≤◌, ◌-◌, ℕ, length, slice_index, slice_index_or}
use Rattle.rounds_code.specs.Block.{Lane}
use Rattle.rounds_blocks.specs.Gathered.{gathered_first}
use Rattle.rounds_blocks.proofs.alone.gather_alone.Given as goal

-- the neighbours in the first slots are gathered
abbrev pub invariant-loop-at : goal.invariant-loop-at
invariant-loop-at l = record {
  late : l.first ≤ l.at;
  rules : l.block.rules ≡ l.fn.block.rules;
  count : length l.block.lanes ≡ length l.batch.nodes;
  lanes : (i : ℕ) (d : Lane) → i < length l.batch.nodes
      → slice_index_or l.block.lanes i d ≡ gathered_first l.fn.block.rules l.network l.round l.from l.at (slice_index l.batch.nodes i);
}

abbrev pub decreases-loop-at : goal.decreases-loop-at
decreases-loop-at l = length l.neighbours - l.at

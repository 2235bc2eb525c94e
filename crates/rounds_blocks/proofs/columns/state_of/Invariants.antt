use Rattle.std.proofs.Common.{◌≡◌, ◌<◌, ◌≤◌, ℕ, length, slice_index}
use Rattle.rounds_code.specs.Steps.{lane}
use Rattle.rounds_code.specs.Block.{column_words}
use Rattle.rounds_blocks.proofs.columns.state_of.Given as goal

-- the first words are those of the columns
abbrev pub invariant-loop-k : goal.invariant-loop-k
invariant-loop-k l = record {
  long : length l.words ≡ 8;
  read : (j : ℕ) → j < l.k → slice_index l.words j ≡ lane (column_words l.columns) l.node j;
  rest : (j : ℕ) → l.k ≤ j → slice_index l.words j ≡ 0;
}

use Rattle.std.proofs.Common.{◌≡◌, ◌<◌, ℕ, length, map, slice_index, slice_index_or}
use Rattle.std.specs.Global.{Vec}
use Rattle.rounds_blocks.proofs.columns.columns_of.Given as goal

-- the first columns are made
abbrev pub invariant-loop-field : goal.invariant-loop-field
invariant-loop-field l = record {
  count : length l.columns.items ≡ l.field;
  made : (k : ℕ) (d : Vec ℕ) → k < l.field → (slice_index_or l.columns.items k d).items ≡ map (λ state. slice_index state.words k) l.states;
}

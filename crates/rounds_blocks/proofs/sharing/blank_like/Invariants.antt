use Rattle.std.proofs.Common.{◌≡◌, ◌<◌, ℕ, length, slice_index_or}
use Rattle.std.specs.Global.{Vec}
use Rattle.rounds_blocks.proofs.sharing.blank_like.Given as goal

-- the first columns are made
abbrev pub invariant-loop-column : goal.invariant-loop-column
invariant-loop-column l = record {
  count : length l.blank.items ≡ l.column-index;
  long : (k : ℕ) (d e : Vec ℕ) → k < l.column-index → length (slice_index_or l.blank.items k d).items ≡ length (slice_index_or l.columns k e).items;
}

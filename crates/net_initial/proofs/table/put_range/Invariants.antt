use Rattle.std.proofs.Common.{◌≡◌, ◌<◌, ℕ, ◌&&◌, nat_le, nat_lt, length, slice_index_or, Some, None, if◌then◌else◌}
use Rattle.net_initial.proofs.table.put_range.Given as goal

abbrev pub invariant-loop-node : goal.invariant-loop-node
invariant-loop-node l = record {
  long : length l.table ≡ length l.fn.table;
  put : (u : ℕ) → u < length l.fn.table
      → slice_index_or l.table u None ≡ (if (nat_le l.first u && nat_le u l.last) && nat_lt u l.node then Some l.value else slice_index_or l.fn.table u None);
}

use Rattle.std.proofs.Common.{◌≡◌, ◌<◌, ℕ, length, slice_index_or, Some, None}
use Rattle.net_initial.proofs.table.put_every.Given as goal

abbrev pub invariant-loop-node : goal.invariant-loop-node
invariant-loop-node l = record {
  long : length l.table ≡ length l.fn.table;
  put : (u : ℕ) → u < l.node → slice_index_or l.table u None ≡ Some l.value;
}

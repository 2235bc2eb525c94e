use Rattle.std.proofs.Common.{◌≡◌, ◌<◌, ℕ, length, take, slice_index_or, slice_get, None}
use Rattle.std.specs.Option.{option_or}
use Rattle.net_initial.proofs.table.put_each.Given as goal

abbrev pub invariant-loop-node : goal.invariant-loop-node
invariant-loop-node l = record {
  long : length l.table ≡ length l.fn.table;
  put : (u : ℕ) → u < length l.fn.table
      → slice_index_or l.table u None ≡ option_or (slice_get (take l.node l.values) u) (slice_index_or l.fn.table u None);
}

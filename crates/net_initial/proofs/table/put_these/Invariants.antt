use Rattle.std.proofs.Common.{◌≡◌, ◌<◌, ℕ, ◌==◌, length, take, slice_index_or, Some, None, if◌then◌else◌}
use Rattle.std.specs.List.{list_any}
use Rattle.net_initial.proofs.table.put_these.Given as goal

abbrev pub invariant-loop-node : goal.invariant-loop-node
invariant-loop-node l = record {
  long : length l.table ≡ length l.fn.table;
  put : (u : ℕ) → u < length l.fn.table
      → slice_index_or l.table u None ≡ (if list_any (λ w. w == u) (take l.node-index l.nodes) then Some l.value else slice_index_or l.fn.table u None);
}

use Rattle.std.proofs.Common.{◌≡◌, ◌<◌, ℕ, length, take, slice_index_or, None}
use Rattle.net_initial.specs.Opened.{opened_value}
use Rattle.net_initial.proofs.table.put_openings.Given as goal

abbrev pub invariant-loop-opening : goal.invariant-loop-opening
invariant-loop-opening l = record {
  long : length l.table ≡ length l.fn.table;
  put : (u : ℕ) → u < length l.fn.table → slice_index_or l.table u None ≡ opened_value (take l.opening-index l.openings) l.field u (slice_index_or l.fn.table u None);
}

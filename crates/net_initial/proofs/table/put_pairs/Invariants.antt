use Rattle.std.proofs.Common.{◌≡◌, ◌<◌, ℕ, false, length, take, slice_index_or, None}
use Rattle.net_initial.specs.Opened.{is_undefined, given}
use Rattle.net_initial.proofs.table.put_pairs.Given as goal

abbrev pub invariant-loop-pair : goal.invariant-loop-pair
invariant-loop-pair l = record {
  long : length l.table ≡ length l.fn.table;
  fits : is_undefined (length l.fn.table) (take l.pair-index l.pairs) ≡ false;
  given : (u : ℕ) → u < length l.fn.table → slice_index_or l.table u None ≡ given (take l.pair-index l.pairs) u;
}

use Rattle.std.proofs.Common.{◌≡◌, ℕ, ◌/◌, ◌<◌, ◌≤◌, length, get_or}
use Rattle.large_pack.specs.Keys.{IsFirstKey}
use Rattle.large_pack.proofs.keyed_rows.offsets.Given as goal

abbrev pub invariant-loop-node : goal.invariant-loop-node
invariant-loop-node l = record {
  bound : l.place ≤ length l.keys;
  before : (k : ℕ) (d : ℕ) → k < l.place → get_or l.keys k d / 4294967296 < l.node;
  count : length l.offsets.items ≡ l.node;
  firsts : (u : ℕ) → u < l.node → IsFirstKey l.keys u (get_or l.offsets.items u 0);
}

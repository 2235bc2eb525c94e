use Rattle.std.proofs.Common.{ℕ, ◌-◌, ◌/◌, ◌<◌, ◌≤◌, length, get_or}
use Rattle.large_pack.proofs.keyed_rows.first_from.Given as goal

abbrev pub invariant-loop-place : goal.invariant-loop-place
invariant-loop-place l = record {
  bound : l.place ≤ length l.keys;
  before : (k : ℕ) (d : ℕ) → k < l.place → get_or l.keys k d / 4294967296 < l.node;
}

abbrev pub decreases-loop-place : goal.decreases-loop-place
decreases-loop-place l = length l.keys - l.place

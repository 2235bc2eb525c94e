use Rattle.std.proofs.Common.{ℕ, ◌-◌, ◌<◌, ◌≤◌, length, get_or}
use Rattle.link_net.specs.Arcs.{Arc}
use Rattle.large_pack.proofs.rows.first_from.Given as goal

abbrev pub invariant-loop-place : goal.invariant-loop-place
invariant-loop-place l = record {
  bound : l.place ≤ length l.arcs;
  before : (k : ℕ) (d : Arc) → k < l.place → (get_or l.arcs k d).0 < l.node;
}

abbrev pub decreases-loop-place : goal.decreases-loop-place
decreases-loop-place l = length l.arcs - l.place

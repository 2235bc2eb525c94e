use Rattle.std.proofs.Common.{◌≡◌, ◌≤◌, ◌++◌, ◌-◌, length, All}
use Rattle.rand_core.specs.Steps.{stream_of, steps_u64_low}
use Rattle.rand_pcg.specs.Pcg.{pcg64}
use Rattle.net_initial.specs.Draws.{stream_by, values_from}
use Rattle.net_initial.proofs.value_draw.drawn_values.Given as goal

abbrev pub invariant-loop-node : goal.invariant-loop-node
invariant-loop-node l = record {
  count : length l.values.items ≡ l._node;
  within : All (λ x. (l.low ≤ x) × (x ≤ l.high)) l.values.items;
  drawn : l.values.items ++ values_from (l.nodes - l._node) l.low l.high (stream_of (steps_u64_low pcg64) l.rng) ≡ values_from l.nodes l.low l.high (stream_by l.seed);
}

use Rattle.std.proofs.Common.{◌≡◌, ◌<◌, ℕ, not, false, drop, take, length, slice_index_or}
use Rattle.std.specs.List.{list_any}
use Rattle.rounds_plan.specs.Configs.{blank}
use Rattle.rounds_plan.specs.Opening.{with_value}
use Rattle.rounds_plan.specs.Plans.{is_below, value_in}
use Rattle.rounds_plan.proofs.opening.put_values.Given as goal

abbrev pub invariant-loop-pair : goal.invariant-loop-pair
invariant-loop-pair l = record {
  kept : length l.states ≡ length l.initial.states;
  nodes : list_any (λ p. not (is_below (length l.initial.states) p.0)) (drop l.pair-index l.pairs) ≡ false;
  values : list_any (λ p. not (is_below 4294967296 p.1)) (drop l.pair-index l.pairs) ≡ false;
  each : (u : ℕ) → u < length l.initial.states → slice_index_or l.states u blank ≡ with_value l.field (value_in (take l.pair-index l.pairs) u) (slice_index_or l.initial.states u blank);
}

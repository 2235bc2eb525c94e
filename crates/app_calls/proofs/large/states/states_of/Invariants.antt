use Rattle.std.proofs.Common.{◌≡◌, ◌-◌, ◌*◌, drop, length}
use Rattle.rounds_walk.specs.part_rounds.States.{states_of}
use Rattle.app_calls.proofs.large.states.states_of.Given as goal

abbrev pub invariant-loop-node : goal.invariant-loop-node
invariant-loop-node l = record {
  rest : l.rest ≡ drop (l._node * l.fields) l.words;
  left : length l.rest ≡ (l.nodes - l._node) * l.fields;
  states : l.states.items ≡ states_of l.fields l._node l.words;
}

use Rattle.std.proofs.Common.{◌≡◌, ◌+◌, ◌*◌, ◌++◌, drop, length}
use Rattle.app_calls.specs.Words.{words_in}
use Rattle.app_calls.proofs.large.states.add_states.Given as goal

abbrev pub invariant-loop-state : goal.invariant-loop-state
invariant-loop-state l = record {
  words : l.words.items ++ words_in l.fields (drop l.state-index l.states) ≡ l.initial.words.items ++ words_in l.fields l.states;
  count : length l.words.items ≡ length l.initial.words.items + l.state-index * l.fields;
}

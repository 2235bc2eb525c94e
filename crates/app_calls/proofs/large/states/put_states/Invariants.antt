use Rattle.std.proofs.Common.{◌≡◌, ◌+◌, ◌-◌, ◌*◌, ◌++◌, drop, length, take}
use Rattle.app_calls.specs.Words.{words_in}
use Rattle.app_calls.proofs.large.states.put_states.Given as goal

abbrev pub invariant-loop-state : goal.invariant-loop-state
invariant-loop-state l = record {
  words : l.words ≡ words_in l.fields (take l.state-index l.states) ++ drop l.first l.initial.words;
  front : length (words_in l.fields (take l.state-index l.states)) ≡ l.first;
  left : length l.initial.words ≡ l.first + (length l.states - l.state-index) * l.fields;
}

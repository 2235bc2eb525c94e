use Rattle.std.proofs.Common.{◌≡◌, ◌≤◌, ◌*◌, ◌++◌, drop, length}
use Rattle.rounds_walk.specs.part_rounds.Fitting.{states_in}
use Rattle.rounds_walk.specs.part_rounds.Parts.{changed_count, part_states}
use Rattle.rounds_walk.specs.part_rounds.States.{words_in}
use Rattle.rounds_walk.proofs.part_rounds.round.step.Given as goal

-- the first nodes have their next states, and those that changed are counted
abbrev pub invariant-loop-node : goal.invariant-loop-node
invariant-loop-node l =
    let part = l.part in
    let next = part_states part.program.now part.ids.now part.rows.now part.round (states_in part) l.node in
    record {
      words : l.to ≡ words_in part.fields next ++ drop (l.node * part.fields) l.initial.to;
      front : length (words_in part.fields next) ≡ l.node * part.fields;
      changed : l.changed ≡ changed_count part.program.now part.ids.now part.rows.now part.round (states_in part) l.node;
      few : l.changed ≤ l.node;
    }

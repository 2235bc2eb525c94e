use Rattle.std.proofs.Common.{◌≡◌, take}
use Rattle.rounds_walk.specs.part_rounds.States.{words_in}
use Rattle.rounds_walk.proofs.part_rounds.states.state_rows.Given as goal

-- the values so far are written
abbrev pub invariant-loop-state : goal.invariant-loop-state
invariant-loop-state l = l.words.items ≡ words_in l.fields (take l.state-index l.states)

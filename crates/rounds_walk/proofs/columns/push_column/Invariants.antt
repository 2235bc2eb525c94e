use Rattle.std.proofs.Common.{◌≡◌, ◌++◌, take}
use Rattle.rounds_walk.specs.Columns.{column}
use Rattle.rounds_walk.proofs.columns.push_column.Given as goal

-- the values so far are written
abbrev pub invariant-loop-state : goal.invariant-loop-state
invariant-loop-state l = l.words.items ≡ l.fn.words.items ++ column l.field (take l.state-index l.states)

use Rattle.std.proofs.Common.{◌≡◌, map, slice_index, take}
use Rattle.rule_check.specs.Gathering.{sums_at}
use Rattle.rule_check.specs.Value.{here_at}
use Rattle.link_net.specs.Neighbours.{degree, row}
use Rattle.rounds_walk.specs.part_rounds.Fitting.{states_in}
use Rattle.rounds_walk.specs.part_rounds.Parts.{part_near}
use Rattle.rounds_walk.proofs.part_rounds.next.gather.Given as goal

-- the neighbours in the first slots are taken
abbrev pub invariant-loop-slot : goal.invariant-loop-slot
invariant-loop-slot l =
    let part = l.part in
    l.sums ≡ sums_at part.program.now (here_at part.program.now part.round (slice_index part.ids.now l.node) (degree part.rows.now l.node) l.own
    (map (part_near part.ids.now (states_in part)) (take l.slot (row part.rows.now l.node))))

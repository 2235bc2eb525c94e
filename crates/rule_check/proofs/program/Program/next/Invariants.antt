use Rattle.std.proofs.Common.{◌≡◌, take}
use Rattle.rule_check.specs.Frames.{standing}
use Rattle.rule_check.specs.Gathering.{sums_at}
use Rattle.rule_check.proofs.program.Program.next.Given as goal

-- the aggregates of the neighbours so far
abbrev pub invariant-loop-near : goal.invariant-loop-near
invariant-loop-near l = l.sums ≡ sums_at l.self (standing l.self l.node (take l.near-index l.neighbours))

use Rattle.std.proofs.Common.{◌≡◌, ◌+◌, ◌≤◌, drop}
use Rattle.rule_check.proofs.Counts.{part_count}
use Rattle.rule_check.proofs.diagnosis.too_many_aggregates.Given as goal

abbrev pub invariant-loop-k : goal.invariant-loop-k
invariant-loop-k l = record { few : l.left ≤ 16; rest : part_count (drop l.k l.items) + 16 ≡ part_count l.items + l.left }

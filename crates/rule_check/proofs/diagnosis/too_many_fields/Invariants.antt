use Rattle.std.proofs.Common.{◌≡◌, ◌+◌, ◌≤◌, drop}
use Rattle.rule_check.proofs.Counts.{field_count}
use Rattle.rule_check.proofs.diagnosis.too_many_fields.Given as goal

abbrev pub invariant-loop-k : goal.invariant-loop-k
invariant-loop-k l = record { few : l.count ≤ 8; rest : l.count + field_count (drop l.k l.items) ≡ field_count l.items }

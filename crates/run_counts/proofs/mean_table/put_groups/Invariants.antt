use Rattle.std.proofs.Common.{◌≡◌, ◌≤◌, ◌++◌, drop, length, string_bytes}
use Rattle.rule_check.specs.Value.{names_of}
use Rattle.run_counts.specs.MeanTables.{groups_text}
use Rattle.run_counts.proofs.mean_table.put_groups.Given as goal

abbrev pub invariant-loop-group : goal.invariant-loop-group
invariant-loop-group l = record {
  text :
      string_bytes l.out
      ++ groups_text l.table.counting.now.format l.table.counting.now.names.now (names_of l.table.program.now) l.table.columns.now l.table.counting.now.until l.ensemble.size (drop l.group-index l.ensemble.groups.now) (drop l.first l.runs)
      ≡ string_bytes l.initial.out
      ++ groups_text l.table.counting.now.format l.table.counting.now.names.now (names_of l.table.program.now) l.table.columns.now l.table.counting.now.until l.ensemble.size l.ensemble.groups.now l.runs;
  within : l.first ≤ length l.runs;
}

use Rattle.std.proofs.Common.{◌≡◌, ◌++◌, ℕ, drop, string_bytes}
use Rattle.std.specs.List.{flat_map}
use Rattle.run_counts.specs.Rows.{count_in}
use Rattle.run_counts.specs.Tables.{cell_text, value_label}
use Rattle.run_counts.proofs.lines.put_counts.Given as goal

abbrev pub invariant-loop-value : goal.invariant-loop-value
invariant-loop-value l =
    string_bytes l.out ++ flat_map (λ (v : ℕ). cell_text l.counting.format (value_label l.counting.names.now v) (count_in l.row.counts v)) (drop l.value-index l.values)
    ≡ string_bytes l.initial.out ++ flat_map (λ (v : ℕ). cell_text l.counting.format (value_label l.counting.names.now v) (count_in l.row.counts v)) l.values

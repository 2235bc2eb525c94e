use Rattle.std.proofs.Common.{◌≡◌, ◌++◌, ℕ, codes, drop, string_bytes}
use Rattle.std.specs.List.{flat_map}
use Rattle.run_counts.specs.Tables.{value_label}
use Rattle.run_counts.proofs.columns.put_values.Given as goal

abbrev pub invariant-loop-value : goal.invariant-loop-value
invariant-loop-value l =
    string_bytes l.out ++ flat_map (λ (v : ℕ). codes "," ++ value_label l.names v) (drop l.value-index l.values) ≡ string_bytes l.initial.out ++ flat_map (λ (v : ℕ). codes "," ++ value_label l.names v) l.values

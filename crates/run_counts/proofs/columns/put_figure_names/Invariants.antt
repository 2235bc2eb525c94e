use Rattle.std.proofs.Common.{◌≡◌, ◌++◌, codes, drop, string_bytes}
use Rattle.std.specs.List.{flat_map}
use Rattle.rule_check.specs.Value.{names_of}
use Rattle.run_counts.specs.declared.asked.Figure.{Figure}
use Rattle.run_counts.specs.Tables.{figure_name}
use Rattle.run_counts.proofs.columns.put_figure_names.Given as goal

abbrev pub invariant-loop-figure : goal.invariant-loop-figure
invariant-loop-figure l =
    string_bytes l.out ++ flat_map (λ (f : Figure). codes "," ++ figure_name (names_of l.program) f) (drop l.figure-index l.figures)
    ≡ string_bytes l.initial.out ++ flat_map (λ (f : Figure). codes "," ++ figure_name (names_of l.program) f) l.figures

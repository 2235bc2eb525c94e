use Rattle.std.proofs.Common.{◌≡◌, ◌++◌, ℕ, drop, string_bytes}
use Rattle.std.specs.List.{flat_map}
use Rattle.rule_check.specs.Value.{names_of}
use Rattle.run_counts.specs.declared.asked.Figure.{Figure}
use Rattle.run_counts.specs.Tables.{cell_text, figure_name}
use Rattle.run_counts.proofs.lines.put_figures.Given as goal

abbrev pub invariant-loop-figure : goal.invariant-loop-figure
invariant-loop-figure l =
    string_bytes l.out ++ flat_map (λ (f : Figure × ℕ). cell_text l.format (figure_name (names_of l.program) f.0) f.1) (drop l.figure-index l.figures)
    ≡ string_bytes l.initial.out ++ flat_map (λ (f : Figure × ℕ). cell_text l.format (figure_name (names_of l.program) f.0) f.1) l.figures

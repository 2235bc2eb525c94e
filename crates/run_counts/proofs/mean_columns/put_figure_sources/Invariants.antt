use Rattle.std.proofs.Common.{◌≡◌, ◌++◌, ℕ, drop, map}
use Rattle.std.specs.List.{enumerate_from}
use Rattle.run_counts.specs.declared.asked.Figure.{Figure}
use Rattle.run_counts.specs.declared.mean_columns.Source.TheVariants.{Further}
use Rattle.run_counts.proofs.mean_columns.put_figure_sources.Given as goal

abbrev pub invariant-loop-place : goal.invariant-loop-place
invariant-loop-place l =
    l.sources.items ++ map (λ (f : ℕ × Figure). Further f.0 f.1) (enumerate_from l.place (drop l.place l.figures))
    ≡ l.initial.sources.items ++ map (λ (f : ℕ × Figure). Further f.0 f.1) (enumerate_from 0 l.figures)

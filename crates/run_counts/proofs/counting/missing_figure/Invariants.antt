use Rattle.std.proofs.Common.{◌≡◌, drop, map}
use Rattle.run_watch.specs.Watching.{missing_of}
use Rattle.run_counts.specs.declared.asked.Figure.{Figure}
use Rattle.run_counts.proofs.counting.missing_figure.Given as goal

abbrev pub invariant-loop-figure : goal.invariant-loop-figure
invariant-loop-figure l = missing_of l.count (map (λ (f : Figure). f.field) (drop l.figure-index l.figures)) ≡ missing_of l.count (map (λ (f : Figure). f.field) l.figures)

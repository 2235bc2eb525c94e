use Rattle.std.proofs.Common.{◌≡◌, ◌++◌, drop}
use Rattle.run_counts.specs.Figures.{figures_of}
use Rattle.run_counts.proofs.figures.figures_of.Given as goal

abbrev pub invariant-loop-figure : goal.invariant-loop-figure
invariant-loop-figure l = l.numbers.items ++ figures_of l.states (drop l.figure-index l.figures) ≡ figures_of l.states l.figures

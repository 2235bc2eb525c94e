use Rattle.std.proofs.Common.{◌≡◌, drop}
use Rattle.std.specs.Prelude.{fold, min}
use Rattle.rule_lang.specs.declared.tree.Agg.TheVariants as agg
use Rattle.rule_check.specs.Table.{gather}
use Rattle.rounds_walk.specs.Columns.{column}
use Rattle.run_counts.proofs.figures.least_of.Given as goal

abbrev pub invariant-loop-state : goal.invariant-loop-state
invariant-loop-state l = fold min l.least (column l.field (drop l.state-index l.states)) ≡ gather agg.Least (column l.field l.states)

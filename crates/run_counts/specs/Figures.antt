-- Further numbers of a round: sums and extremes of the values that all nodes have in a field.
use Rattle.std.specs.Prelude.{ℕ, List, codes, map, sum}
use Rattle.rule_lang.specs.declared.tree.Agg.TheVariants as agg
use Rattle.rule_check.specs.declared.state.State.{State}
use Rattle.rule_check.specs.Table.{gather}
use Rattle.rounds_walk.specs.Columns.{column}
use Rattle.run_counts.specs.declared.asked.Figure.{Figure}
use Rattle.run_counts.specs.declared.asked.FigureKind.{FigureKind}
use Rattle.run_counts.specs.declared.asked.FigureKind.TheVariants.{Sum, Least, Most}

-- what a kind of figure is called
abbrev pub kind_name : FigureKind → List ℕ
kind_name Sum = codes "sum"
kind_name Least = codes "least"
kind_name Most = codes "most"

-- the number itself: the whole sum, however great, the least or the greatest value
abbrev pub number_of : FigureKind → List ℕ → ℕ
number_of Sum values = sum values
number_of Least values = gather agg.Least values
number_of Most values = gather agg.Most values

-- the figure of a round in which the nodes have these states
abbrev pub figure_of : List State → Figure → ℕ
figure_of states figure = number_of figure.kind (column figure.field states)

-- each figure, and its number beside it
abbrev pub figures_of : List State → List Figure → List (Figure × ℕ)
figures_of states figures = map (λ f. (f, figure_of states f)) figures

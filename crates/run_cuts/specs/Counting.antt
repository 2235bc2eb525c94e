-- Internal: how occasions are counted. No public clause cites it.
use Rattle.std.specs.Prelude.{ℕ, ◌+◌, ◌-◌, ◌^◌, ◌==◌, min, List, [], ◌∷◌, length, if◌then◌else◌}
use Rattle.std.specs.List.{fold}
use Rattle.rule_lang.specs.View.{tree_of}
use Rattle.rule_check.specs.declared.state.State.{State}
use Rattle.rule_check.specs.declared.state.Near.{Near}
use Rattle.rule_check.specs.Value.{Here, here_at}
use Rattle.run_cuts.specs.declared.cut.Cut.{Cut}
use Rattle.run_cuts.specs.declared.tally.Tally.{Tally}
use Rattle.run_cuts.specs.declared.tally.Counted.{Counted}
use Rattle.run_cuts.specs.declared.values.Node.{Node}
use Rattle.run_cuts.specs.declared.operators.Form.{Form}
use Rattle.run_cuts.specs.declared.operators.Form.TheVariants.{Sum, Difference, Product, Total}
use Rattle.run_cuts.specs.declared.operators.Operator.{Operator}
use Rattle.run_cuts.specs.Operators.{FormTree, SumTree, DifferenceTree, ProductTree, TotalTree, OperatorTree}
use Rattle.run_cuts.specs.Cuts.{Occasion, is_cut, kind_of}

-- an operator without where its operands lie in memory
abbrev pub form_of : Form → FormTree
form_of (Sum a b) = SumTree (tree_of a.now) (tree_of b.now)
form_of (Difference a b) = DifferenceTree (tree_of a.now) (tree_of b.now)
form_of (Product a b) = ProductTree (tree_of a.now) (tree_of b.now)
form_of (Total e) = TotalTree (tree_of e.now)

abbrev pub operator_of : Operator → OperatorTree
operator_of o = record { within = o.within; form = form_of o.form }

-- where a node's rules are valued
abbrev pub here_of : Node → Here
here_of node = here_at node.program.now node.round node.id (length node.nears.now) node.own node.nears.now

-- with one occasion more
abbrev pub noted : Tally → Occasion → Tally
noted tally o =
    if tally.times == 0 then record { times = 1; round = o.round; node = o.node }
    else record { times = min (tally.times + 1) (2 ^ 64 - 1); round = tally.round; node = tally.node }

-- an operator with its tally after these occasions
abbrev pub after_all : (OperatorTree → List Occasion) → Counted → Counted
after_all occasions c = record { number = c.number; operator = c.operator; tally = fold noted c.tally (occasions (operator_of c.operator)) }

-- an operator with its tally where it is cut at a node, or as it was
abbrev pub after_one : Here → Occasion → Counted → Counted
after_one here o c = if is_cut here (operator_of c.operator) then record { number = c.number; operator = c.operator; tally = noted c.tally o } else c

-- what is told by a tally
abbrev pub told_by : Counted → List Cut
told_by c =
    if c.tally.times == 0 then []
    else record { operator = c.number; kind = kind_of (form_of c.operator.form); round = c.tally.round; node = c.tally.node; times = c.tally.times } ∷ []

-- without an occasion
abbrev pub fresh : ℕ × Operator → Counted
fresh x = record { number = x.0; operator = x.1; tally = record { times = 0; round = 0; node = 0 } }

-- neighbours with the weights of the links to them, and their states
abbrev pub nears_from : (ℕ → State) → List ℕ → List ℕ → List Near
nears_from at [] weights = []
nears_from at (v ∷ vs) [] = []
nears_from at (v ∷ vs) (w ∷ ws) = record { id = v; weight = w; state = at v } ∷ nears_from at vs ws

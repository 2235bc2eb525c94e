-- Where the value of an operator is cut.
use Rattle.std.specs.Prelude.{ℕ, ◌+◌, ◌-◌, ◌*◌, Bool, true, List, [], ◌∷◌, map, length, sum, suc, nat_lt, if◌then◌else◌, Option, Some, None}
use Rattle.std.specs.List.{list_any, filter, flat_map, range_with_len, enumerate_from}
use Rattle.rule_check.specs.declared.state.State.{State}
use Rattle.rule_check.specs.declared.state.Near.{Near}
use Rattle.rule_check.specs.Table.{M}
use Rattle.rule_check.specs.Value.{Rules, Here, alone, value, here_at}
use Rattle.link_net.specs.Neighbours.{Neighbours, numbers_below}
use Rattle.rounds_plan.specs.Configs.{most_rounds}
use Rattle.rounds_plan.specs.Lockstep.{lockstep, nears_in}
use Rattle.rounds_plan.specs.Plans.{PlanView}
use Rattle.rounds_plan.specs.declared.fault.RoundFault.{RoundFault}
use Rattle.rounds_plan.specs.declared.fault.RoundFault.TheVariants.{TooManyRounds, RoundsBelowStart}
use Rattle.run_cuts.specs.declared.cut.Cut.{Cut}
use Rattle.run_cuts.specs.declared.cut.Kind.{Kind}
use Rattle.run_cuts.specs.declared.cut.Kind.TheVariants.{Sum, Difference, Product, Total}
use Rattle.run_cuts.specs.Operators.{FormTree, SumTree, DifferenceTree, ProductTree, TotalTree, OperatorTree}

-- The plain number, made of the operands' values, is none that a value can be: a sum, a product or a total is above the greatest one, a difference below 0.
abbrev pub is_outside : Here → FormTree → Near → Bool
is_outside here (SumTree a b) near = nat_lt M (value here a near + value here b near)
is_outside here (DifferenceTree a b) near = nat_lt (value here a near) (value here b near)
is_outside here (ProductTree a b) near = nat_lt M (value here a near * value here b near)
is_outside here (TotalTree e) near = nat_lt M (sum (map (value here e) here.nears))

-- an operator is cut at a node: within an aggregate, at some neighbour
abbrev pub is_cut : Here → OperatorTree → Bool
is_cut here op = if op.within then list_any (is_outside here op.form) here.nears else is_outside here op.form (alone here.id here.own)

-- a node where its rules are valued, in the step from round t, when all nodes have these states
abbrev pub here_by : Rules → Neighbours → ℕ → (ℕ → State) → ℕ → Here
here_by rules network t at u = here_at rules t u (length (nears_in network at u)) (at u) (nears_in network at u)

-- a node of a plan, in the step from round t
abbrev pub here_in : PlanView → ℕ → ℕ → Here
here_in p t u = here_by p.program p.network t (lockstep p t) u

-- a round, and a node that is moved in it
pub record Occasion : Type 0 where
  pub round : ℕ
  pub node : ℕ

-- a node in the step from round t, which makes round t + 1
abbrev pub occasion : ℕ → ℕ → Occasion
occasion t u = record { round = t + 1; node = u }

-- where an operator is cut in the step from round t, by rising number of the node
abbrev pub step_occasions : PlanView → OperatorTree → ℕ → List Occasion
step_occasions p op t = filter (λ o. is_cut (here_in p t o.node) op) (map (occasion t) (numbers_below (length p.network)))

-- where it is cut in all rounds after the plan's start, up to round T, by rising round
abbrev pub occasions : PlanView → ℕ → OperatorTree → List Occasion
occasions p T op = flat_map (step_occasions p op) (range_with_len p.start (T - p.start))

-- which operator this is
abbrev pub kind_of : FormTree → Kind
kind_of (SumTree a b) = Sum
kind_of (DifferenceTree a b) = Difference
kind_of (ProductTree a b) = Product
kind_of (TotalTree e) = Total

-- differences are told where that is asked for, all others always
abbrev pub is_asked : Bool → FormTree → Bool
is_asked below (SumTree a b) = true
is_asked below (DifferenceTree a b) = below
is_asked below (ProductTree a b) = true
is_asked below (TotalTree e) = true

-- what is told of the operator of this number, which was cut on these occasions: nothing where there is none, and else the first and how many there are
abbrev pub told_of : ℕ → FormTree → List Occasion → List Cut
told_of n form [] = []
told_of n form (o ∷ os) = record { operator = n; kind = kind_of form; round = o.round; node = o.node; times = suc (length os) } ∷ []

-- the operators that are asked for, each with its number
abbrev pub asked_of : Bool → List OperatorTree → List (ℕ × OperatorTree)
asked_of below ops = filter (λ x. is_asked below x.1.form) (enumerate_from 0 ops)

-- what is told of operators, in their order, of a plan's rounds up to round T
abbrev pub cuts_of : PlanView → ℕ → Bool → List OperatorTree → List Cut
cuts_of p T below ops = flat_map (λ x. told_of x.0 x.1.form (occasions p T x.1)) (asked_of below ops)

-- why nothing is told, whatever memory there is
abbrev pub refusal_of : PlanView → ℕ → Option RoundFault
refusal_of p T =
    if nat_lt most_rounds T then Some TooManyRounds
    else if nat_lt T p.start then Some RoundsBelowStart
    else None

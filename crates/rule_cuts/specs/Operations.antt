-- The products and totals of a program, in the order of its text, and where their values are cut.
use Rattle.std.specs.Prelude.{◌≡◌, ◌≤◌, ◌*◌, ℕ, Bool, List, [], ◌∷◌, ◌++◌, map, flat_map, nat_lt, sum}
use Rattle.rule_lang.specs.declared.tree.Op.{Op}
use Rattle.rule_lang.specs.declared.tree.Op.TheVariants.{Plus, Minus, Times, Quot, Rem, BitAnd, BitOr, BitXor, Equal, Differ, Less, LessEq, Greater, GreaterEq, Min, Max}
use Rattle.rule_lang.specs.declared.tree.Agg.{Agg}
use Rattle.rule_lang.specs.declared.tree.Agg.TheVariants.{Total, Least, Most, Count, Some1, Every}
use Rattle.rule_lang.specs.Tree.{Tree, NumberTree, OwnTree, IdTree, DegreeTree, RoundTree, NearTree, NearIdTree, NearWeightTree, InfixTree, NotTree, OverTree, ChoiceTree, ItemTree}
use Rattle.rule_lang.specs.View.{tree_of}
use Rattle.rule_check.specs.declared.state.Near.{Near}
use Rattle.rule_check.specs.Table.{M}
use Rattle.rule_check.specs.Value.{Here, Next, value}
use Rattle.rule_check.specs.Items.{nexts_of}
use Rattle.rule_cuts.specs.declared.limits.Limits.{Limits}
use Rattle.rule_ranges.specs.declared.range.Range.{Range}
use Rattle.rule_cuts.specs.declared.operations.Operation.{Operation}
use Rattle.rule_cuts.specs.declared.operations.Operation.TheVariants as operation
use Rattle.rule_cuts.specs.Bounded.{IsHereWithin, IsNearWithin}

-- a product with its operands, or a total with what it goes over
pub data OperationTree : Type 0 where
  ProductTree : (left right : Tree) → OperationTree
  TotalTree : (body : Tree) → OperationTree

-- the product of an infix form, where it is one
abbrev pub infix_operations : Op → Tree → Tree → List OperationTree
infix_operations Plus a b = []
infix_operations Minus a b = []
infix_operations Times a b = ProductTree a b ∷ []
infix_operations Quot a b = []
infix_operations Rem a b = []
infix_operations BitAnd a b = []
infix_operations BitOr a b = []
infix_operations BitXor a b = []
infix_operations Equal a b = []
infix_operations Differ a b = []
infix_operations Less a b = []
infix_operations LessEq a b = []
infix_operations Greater a b = []
infix_operations GreaterEq a b = []
infix_operations Min a b = []
infix_operations Max a b = []

-- the total of an aggregate, where it is one
abbrev pub aggregate_operations : Agg → Tree → List OperationTree
aggregate_operations Total e = TotalTree e ∷ []
aggregate_operations Least e = []
aggregate_operations Most e = []
aggregate_operations Count e = []
aggregate_operations Some1 e = []
aggregate_operations Every e = []

-- those of an expression
abbrev pub operations : Tree → List OperationTree
operations (NumberTree n) = []
operations (OwnTree name) = []
operations IdTree = []
operations DegreeTree = []
operations RoundTree = []
operations (NearTree name) = []
operations NearIdTree = []
operations NearWeightTree = []
operations (InfixTree op a b) = operations a ++ (infix_operations op a b ++ operations b)
operations (NotTree e) = operations e
operations (OverTree agg e) = aggregate_operations agg e ++ operations e
operations (ChoiceTree a b c) = operations a ++ (operations b ++ operations c)

-- those of next items
abbrev pub next_operations : List Next → List OperationTree
next_operations nexts = flat_map (λ n. operations n.body) nexts

-- those of a program's items
abbrev pub operations_of : List ItemTree → List OperationTree
operations_of items = next_operations (nexts_of items)

-- an operation without where its operands lie in memory
abbrev pub operation_of : Operation → OperationTree
operation_of (operation.Product a b) = ProductTree (tree_of a.expr.now) (tree_of b.expr.now)
operation_of (operation.Total a) = TotalTree (tree_of a.expr.now)

-- the value lies between the ends of the range
pub record IsBetween (range : Range) (v : ℕ) : Type 0 where
  pub from : range.least ≤ v
  pub to : v ≤ range.most

-- at each node within the limits, the expression has a value between the ends of the range
abbrev pub LiesIn : Limits → Tree → Range → Type 0
LiesIn limits e range = (here : Here) (near : Near) → IsHereWithin limits here → IsNearWithin limits near → IsBetween range (value here e near)

-- each operand lies in the range that is told of it
abbrev pub HasRanges : Limits → Operation → Type 0
HasRanges limits (operation.Product a b) = LiesIn limits (tree_of a.expr.now) a.range × LiesIn limits (tree_of b.expr.now) b.range
HasRanges limits (operation.Total a) = LiesIn limits (tree_of a.expr.now) a.range

-- the greatest operands pass the greatest value: they multiplied, or the one over as many neighbours as a node can have
abbrev pub can_pass : Limits → Operation → Bool
can_pass limits (operation.Product a b) = nat_lt M (a.range.most * b.range.most)
can_pass limits (operation.Total a) = nat_lt M (a.range.most * limits.bounds.degree)

-- the operation is never cut: at each node within the limits its value is the plain number
abbrev pub IsNeverCut : Limits → OperationTree → Type 0
IsNeverCut limits (ProductTree a b) =
    (here : Here) (near : Near) → IsHereWithin limits here → IsNearWithin limits near
    → value here (InfixTree Times a b) near ≡ value here a near * value here b near
IsNeverCut limits (TotalTree e) =
    (here : Here) (near : Near) → IsHereWithin limits here → IsNearWithin limits near
    → value here (OverTree Total e) near ≡ sum (map (value here e) here.nears)

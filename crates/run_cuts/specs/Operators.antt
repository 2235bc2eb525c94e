-- The operators of a program whose values can be cut, in the order of its text.
use Rattle.std.specs.Prelude.{Bool, true, false, List, [], ◌∷◌, ◌++◌, flat_map}
use Rattle.rule_lang.specs.declared.tree.Op.{Op}
use Rattle.rule_lang.specs.declared.tree.Op.TheVariants.{Plus, Minus, Times, Quot, Rem, BitAnd, BitOr, BitXor, Equal, Differ, Less, LessEq, Greater, GreaterEq, Min, Max}
use Rattle.rule_lang.specs.declared.tree.Agg.{Agg}
use Rattle.rule_lang.specs.declared.tree.Agg.TheVariants.{Total, Least, Most, Count, Some1, Every}
use Rattle.rule_lang.specs.Tree.{Tree, NumberTree, OwnTree, IdTree, DegreeTree, RoundTree, NearTree, NearIdTree, NearWeightTree, InfixTree, NotTree, OverTree, ChoiceTree, ItemTree}
use Rattle.rule_check.specs.Value.{Next}
use Rattle.rule_check.specs.Items.{nexts_of}

-- an operator whose value can be cut, with its operands; a total with what it goes over
pub data FormTree : Type 0 where
  SumTree : (left right : Tree) → FormTree
  DifferenceTree : (left right : Tree) → FormTree
  ProductTree : (left right : Tree) → FormTree
  TotalTree : (body : Tree) → FormTree

-- such an operator of a rule; within an aggregate it is valued once for each neighbour
pub record OperatorTree : Type 0 where
  pub within : Bool
  pub form : FormTree

-- the operator of an infix form, where its value can be cut
abbrev pub infix_operators : Bool → Op → Tree → Tree → List OperatorTree
infix_operators within Plus a b = record { within = within; form = SumTree a b } ∷ []
infix_operators within Minus a b = record { within = within; form = DifferenceTree a b } ∷ []
infix_operators within Times a b = record { within = within; form = ProductTree a b } ∷ []
infix_operators within Quot a b = []
infix_operators within Rem a b = []
infix_operators within BitAnd a b = []
infix_operators within BitOr a b = []
infix_operators within BitXor a b = []
infix_operators within Equal a b = []
infix_operators within Differ a b = []
infix_operators within Less a b = []
infix_operators within LessEq a b = []
infix_operators within Greater a b = []
infix_operators within GreaterEq a b = []
infix_operators within Min a b = []
infix_operators within Max a b = []

-- the operator of an aggregate, where its value can be cut
abbrev pub aggregate_operators : Bool → Agg → Tree → List OperatorTree
aggregate_operators within Total e = record { within = within; form = TotalTree e } ∷ []
aggregate_operators within Least e = []
aggregate_operators within Most e = []
aggregate_operators within Count e = []
aggregate_operators within Some1 e = []
aggregate_operators within Every e = []

-- those of an expression that stands within an aggregate, or outside of any
abbrev pub operators : Bool → Tree → List OperatorTree
operators within (NumberTree n) = []
operators within (OwnTree name) = []
operators within IdTree = []
operators within DegreeTree = []
operators within RoundTree = []
operators within (NearTree name) = []
operators within NearIdTree = []
operators within NearWeightTree = []
operators within (InfixTree op a b) = operators within a ++ (infix_operators within op a b ++ operators within b)
operators within (NotTree e) = operators within e
operators within (OverTree agg e) = aggregate_operators within agg e ++ operators true e
operators within (ChoiceTree a b c) = operators within a ++ (operators within b ++ operators within c)

-- those of next items
abbrev pub next_operators : List Next → List OperatorTree
next_operators nexts = flat_map (λ n. operators false n.body) nexts

-- those of a program's items
abbrev pub operators_of : List ItemTree → List OperatorTree
operators_of items = next_operators (nexts_of items)

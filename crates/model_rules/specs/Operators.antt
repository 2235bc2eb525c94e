-- What operators and functions of the notation become in the rule language.
use Rattle.std.specs.Prelude.{Bool, true, false}
use Rattle.rule_lang.specs.declared.tree.Op.TheVariants as op
use Rattle.rule_lang.specs.declared.tree.Agg.TheVariants as agg
use Rattle.model_text.specs.declared.tree.Operator.{Operator}
use Rattle.model_text.specs.declared.tree.Operator.TheVariants as operator
use Rattle.model_text.specs.declared.tree.Function.{Function}
use Rattle.model_text.specs.declared.tree.Function.TheVariants as function
use Rattle.model_text.specs.Tree.{ArgumentTree, NoArgument, OneArgument}
use Rattle.model_rules.specs.declared.operators.CallKind.{CallKind}
use Rattle.model_rules.specs.declared.operators.CallKind.TheVariants as kind
use Rattle.model_rules.specs.declared.operators.Source.TheVariants as source
use Rattle.model_rules.specs.Terms.{TermTree, InfixTerm, tested}

-- the term of two parts with an operator between them
abbrev pub combined : Operator → TermTree → TermTree → TermTree
combined operator.Or a b = InfixTerm op.Max (tested a) (tested b)
combined operator.And a b = InfixTerm op.Min (tested a) (tested b)
combined operator.Equal a b = InfixTerm op.Equal a b
combined operator.Differ a b = InfixTerm op.Differ a b
combined operator.Less a b = InfixTerm op.Less a b
combined operator.LessEq a b = InfixTerm op.LessEq a b
combined operator.Greater a b = InfixTerm op.Greater a b
combined operator.GreaterEq a b = InfixTerm op.GreaterEq a b
combined operator.BitOr a b = InfixTerm op.BitOr a b
combined operator.BitXor a b = InfixTerm op.BitXor a b
combined operator.BitAnd a b = InfixTerm op.BitAnd a b
combined operator.Plus a b = InfixTerm op.Plus a b
combined operator.Minus a b = InfixTerm op.Minus a b
combined operator.Times a b = InfixTerm op.Times a b
combined operator.Quot a b = InfixTerm op.Quot a b
combined operator.Rem a b = InfixTerm op.Rem a b

-- what a function does with its arguments
abbrev pub kind_of : Function → CallKind
kind_of function.Total = kind.Gather agg.Total
kind_of function.Sum = kind.Gather agg.Total
kind_of function.Least = kind.Gather agg.Least
kind_of function.Most = kind.Gather agg.Most
kind_of function.Count = kind.Gather agg.Count
kind_of function.Any = kind.Gather agg.Some1
kind_of function.All = kind.Gather agg.Every
kind_of function.Min = kind.Join op.Min
kind_of function.Max = kind.Join op.Max
kind_of function.Difference = kind.Distance
kind_of function.Random = kind.Draw source.Node
kind_of function.LinkRandom = kind.Draw source.Link

-- no argument more
abbrev pub is_end : ArgumentTree → Bool
is_end NoArgument = true
is_end (OneArgument e es) = false

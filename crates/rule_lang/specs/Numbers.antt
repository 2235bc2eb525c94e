-- Numbers that stand in trees.
use Rattle.std.specs.Prelude.{◌<◌, ◌^◌}
use Rattle.rule_lang.specs.Tree.{Tree, NumberTree, OwnTree, IdTree, DegreeTree, RoundTree, NearTree, NearIdTree, NearWeightTree, InfixTree, NotTree, OverTree, ChoiceTree, ItemTree, FieldTree, NextTree}

-- each number of the expression is below 2 ^ 32
abbrev pub HasNumbers : Tree → Type 0
HasNumbers (NumberTree n) = n < 2 ^ 32
HasNumbers (OwnTree name) = Unit {0}
HasNumbers IdTree = Unit {0}
HasNumbers DegreeTree = Unit {0}
HasNumbers RoundTree = Unit {0}
HasNumbers (NearTree name) = Unit {0}
HasNumbers NearIdTree = Unit {0}
HasNumbers NearWeightTree = Unit {0}
HasNumbers (InfixTree op a b) = HasNumbers a × HasNumbers b
HasNumbers (NotTree a) = HasNumbers a
HasNumbers (OverTree agg a) = HasNumbers a
HasNumbers (ChoiceTree a b c) = HasNumbers a × HasNumbers b × HasNumbers c

-- each number of the item is below 2 ^ 32
abbrev pub HasItemNumbers : ItemTree → Type 0
HasItemNumbers (FieldTree name n) = n < 2 ^ 32
HasItemNumbers (NextTree name body) = HasNumbers body

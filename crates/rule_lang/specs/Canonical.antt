-- The canonical spelling of a program, in bytes (59 is `;`, 10 is LF).
use Rattle.std.specs.Prelude.{ℕ, List, [], ◌∷◌, ◌++◌, codes, flat_map}
use Rattle.std.specs.Fmt.{decimal}
use Rattle.rule_lang.specs.declared.tree.Op.{Op}
use Rattle.rule_lang.specs.declared.tree.Op.TheVariants.{Plus, Minus, Times, Quot, Rem, BitAnd, BitOr, BitXor, Equal, Differ, Less, LessEq, Greater, GreaterEq, Min, Max}
use Rattle.rule_lang.specs.Tree.{Tree, NumberTree, OwnTree, IdTree, DegreeTree, RoundTree, NearTree, NearIdTree, NearWeightTree, InfixTree, NotTree, OverTree, ChoiceTree, ItemTree, FieldTree, NextTree, agg_word}

-- an operator
abbrev pub op_text : Op → List ℕ
op_text Plus = codes "+"
op_text Minus = codes "-"
op_text Times = codes "*"
op_text Quot = codes "/"
op_text Rem = codes "%"
op_text BitAnd = codes "&"
op_text BitOr = codes "|"
op_text BitXor = codes "^"
op_text Equal = codes "=="
op_text Differ = codes "!="
op_text Less = codes "<"
op_text LessEq = codes "<="
op_text Greater = codes ">"
op_text GreaterEq = codes ">="
op_text Min = codes "min"
op_text Max = codes "max"

-- an expression
abbrev pub tree_text : Tree → List ℕ
tree_text (NumberTree n) = decimal n
tree_text (OwnTree name) = name
tree_text IdTree = codes "id"
tree_text DegreeTree = codes "degree"
tree_text RoundTree = codes "round"
tree_text (NearTree name) = codes "n." ++ name
tree_text NearIdTree = codes "n.id"
tree_text NearWeightTree = codes "n.weight"
tree_text (InfixTree op a b) = codes "(" ++ (tree_text a ++ (codes " " ++ (op_text op ++ (codes " " ++ (tree_text b ++ codes ")")))))
tree_text (NotTree a) = codes "not " ++ tree_text a
tree_text (OverTree agg a) = agg_word agg ++ (codes " " ++ tree_text a)
tree_text (ChoiceTree a b c) = codes "if " ++ (tree_text a ++ (codes " then " ++ (tree_text b ++ (codes " else " ++ tree_text c))))

-- an item: one line that ends in LF
abbrev pub item_text : ItemTree → List ℕ
item_text (FieldTree name n) = codes "field " ++ (name ++ (codes " = " ++ (decimal n ++ (59 ∷ 10 ∷ []))))
item_text (NextTree name body) = codes "next " ++ (name ++ (codes " = " ++ (tree_text body ++ (59 ∷ 10 ∷ []))))

-- a program: its items in order
abbrev pub program_text : List ItemTree → List ℕ
program_text items = flat_map item_text items

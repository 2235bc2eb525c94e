-- The tree of a program, and its spelling in tokens.
use Rattle.std.specs.Prelude.{ℕ, ◌+◌, ◌≤◌, ◌≡◌, List, [], ◌∷◌, ◌++◌, max, codes, flat_map, ◌≢◌}
use Rattle.std.specs.List.{AllByRecursion}
use Rattle.rule_lang.specs.declared.tree.Op.{Op}
use Rattle.rule_lang.specs.declared.tree.Op.TheVariants.{Plus, Minus, Times, Quot, Rem, BitAnd, BitOr, BitXor, Equal, Differ, Less, LessEq, Greater, GreaterEq, Min, Max}
use Rattle.rule_lang.specs.declared.tree.Agg.{Agg}
use Rattle.rule_lang.specs.declared.tree.Agg.TheVariants.{Total, Least, Most, Count, Some1, Every}
use Rattle.rule_lang.specs.declared.token.Sign.TheVariants as sign
use Rattle.rule_lang.specs.Tokens.{Tok, WordTok, NearTok, NumberTok, SignTok}

-- an expression: a number; a field, the number or the degree of the node itself; the round;
-- a field or the number of the neighbour, the weight of the link to it; and the four forms with parts
pub data Tree : Type 0 where
  NumberTree : (value : ℕ) → Tree
  OwnTree : (name : List ℕ) → Tree
  IdTree : Tree
  DegreeTree : Tree
  RoundTree : Tree
  NearTree : (name : List ℕ) → Tree
  NearIdTree : Tree
  NearWeightTree : Tree
  InfixTree : (op : Op) (left right : Tree) → Tree
  NotTree : (part : Tree) → Tree
  OverTree : (agg : Agg) (part : Tree) → Tree
  ChoiceTree : (test then else : Tree) → Tree

-- an item: a field and its initial value, or a field and its next value
pub data ItemTree : Type 0 where
  FieldTree : (name : List ℕ) (value : ℕ) → ItemTree
  NextTree : (name : List ℕ) (body : Tree) → ItemTree

-- the words that are no names
abbrev pub reserved : List (List ℕ)
reserved = codes "field" ∷ codes "next" ∷ codes "id" ∷ codes "degree" ∷ codes "not" ∷ codes "min" ∷ codes "max" ∷ codes "total" ∷ codes "least" ∷ codes "most" ∷ codes "count" ∷ codes "any" ∷ codes "all" ∷ codes "if" ∷ codes "then" ∷ codes "else" ∷ codes "round" ∷ codes "weight" ∷ []

-- the token of an operator
abbrev pub op_token : Op → Tok
op_token Plus = SignTok sign.Plus
op_token Minus = SignTok sign.Minus
op_token Times = SignTok sign.Star
op_token Quot = SignTok sign.Slash
op_token Rem = SignTok sign.Percent
op_token BitAnd = SignTok sign.Ampersand
op_token BitOr = SignTok sign.Bar
op_token BitXor = SignTok sign.Caret
op_token Equal = SignTok sign.Equal
op_token Differ = SignTok sign.Differ
op_token Less = SignTok sign.Less
op_token LessEq = SignTok sign.LessEq
op_token Greater = SignTok sign.Greater
op_token GreaterEq = SignTok sign.GreaterEq
op_token Min = WordTok (codes "min")
op_token Max = WordTok (codes "max")

-- the word of an aggregate
abbrev pub agg_word : Agg → List ℕ
agg_word Total = codes "total"
agg_word Least = codes "least"
agg_word Most = codes "most"
agg_word Count = codes "count"
agg_word Some1 = codes "any"
agg_word Every = codes "all"

-- the tokens of an expression
abbrev pub spell : Tree → List Tok
spell (NumberTree n) = NumberTok n ∷ []
spell (OwnTree name) = WordTok name ∷ []
spell IdTree = WordTok (codes "id") ∷ []
spell DegreeTree = WordTok (codes "degree") ∷ []
spell RoundTree = WordTok (codes "round") ∷ []
spell (NearTree name) = NearTok name ∷ []
spell NearIdTree = NearTok (codes "id") ∷ []
spell NearWeightTree = NearTok (codes "weight") ∷ []
spell (InfixTree op a b) = SignTok sign.Open ∷ (spell a ++ (op_token op ∷ (spell b ++ SignTok sign.Close ∷ [])))
spell (NotTree a) = WordTok (codes "not") ∷ spell a
spell (OverTree agg a) = WordTok (agg_word agg) ∷ spell a
spell (ChoiceTree a b c) = WordTok (codes "if") ∷ (spell a ++ (WordTok (codes "then") ∷ (spell b ++ (WordTok (codes "else") ∷ spell c))))

-- the tokens of an item
abbrev pub spell_item : ItemTree → List Tok
spell_item (FieldTree name n) = WordTok (codes "field") ∷ WordTok name ∷ SignTok sign.Assign ∷ NumberTok n ∷ SignTok sign.Semicolon ∷ []
spell_item (NextTree name body) = WordTok (codes "next") ∷ WordTok name ∷ SignTok sign.Assign ∷ (spell body ++ SignTok sign.Semicolon ∷ [])

-- a leaf has depth 1, and any other expression one more than its deepest part
abbrev pub depth : Tree → ℕ
depth (NumberTree n) = 1
depth (OwnTree name) = 1
depth IdTree = 1
depth DegreeTree = 1
depth RoundTree = 1
depth (NearTree name) = 1
depth NearIdTree = 1
depth NearWeightTree = 1
depth (InfixTree op a b) = max (depth a) (depth b) + 1
depth (NotTree a) = depth a + 1
depth (OverTree agg a) = depth a + 1
depth (ChoiceTree a b c) = max (depth a) (max (depth b) (depth c)) + 1

-- no reserved word
abbrev pub IsName : List ℕ → Type 0
IsName word = AllByRecursion (λ r. word ≢ r) reserved

-- no reserved word stands as a name in the expression
abbrev pub HasNames : Tree → Type 0
HasNames (NumberTree n) = Unit {0}
HasNames (OwnTree name) = IsName name
HasNames IdTree = Unit {0}
HasNames DegreeTree = Unit {0}
HasNames RoundTree = Unit {0}
HasNames (NearTree name) = IsName name
HasNames NearIdTree = Unit {0}
HasNames NearWeightTree = Unit {0}
HasNames (InfixTree op a b) = HasNames a × HasNames b
HasNames (NotTree a) = HasNames a
HasNames (OverTree agg a) = HasNames a
HasNames (ChoiceTree a b c) = HasNames a × HasNames b × HasNames c

-- an item of the language: its names are no reserved words, its depth is at most 64
abbrev pub IsItem : ItemTree → Type 0
IsItem (FieldTree name n) = IsName name
IsItem (NextTree name body) = IsName name × HasNames body × (depth body ≤ 64)

-- the token list has this tree, a list of items
pub record HasTree (tokens : List Tok) (items : List ItemTree) : Type 0 where
  pub spelling : tokens ≡ flat_map spell_item items
  pub each : AllByRecursion IsItem items

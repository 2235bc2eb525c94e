-- Trees without where they lie in memory.
use Rattle.std.specs.Prelude.{List, map, string_bytes}
use Rattle.std.specs.Option.{option_map}
use Rattle.model_text.specs.declared.tree.Expr.{Expr}
use Rattle.model_text.specs.declared.tree.Expr.TheVariants.{Number, Nothing, Name, Id, Degree, Round, Near, NearId, NearWeight, Infix', Not', Parens', If', Cases', Call', Apply', Chance, ChanceOf}
use Rattle.model_text.specs.declared.tree.Arms.{Arms}
use Rattle.model_text.specs.declared.tree.Arms.TheVariants.{Arm', Else'}
use Rattle.model_text.specs.declared.tree.Arguments.{Arguments}
use Rattle.model_text.specs.declared.tree.Arguments.TheVariants.{End, Argument'}
use Rattle.model_text.specs.declared.tree.Name.{Name as NameOf}
use Rattle.model_text.specs.declared.tree.Item.{Item}
use Rattle.model_text.specs.declared.tree.Item.TheVariants as item
use Rattle.model_text.specs.declared.token.Token.{Token}
use Rattle.model_text.specs.declared.token.Token.TheVariants as token
use Rattle.model_text.specs.declared.token.Lexeme.{Lexeme}
use Rattle.model_text.specs.Tokens.{Tok, KeywordTok, NameTok, NearTok, NearIdTok, NearWeightTok, NumberTok, DecimalTok, SignTok, Placed, placed}
use Rattle.model_text.specs.Tree.{Tree, NumberTree, NothingTree, NameTree, IdTree, DegreeTree, RoundTree, NearTree, NearIdTree, NearWeightTree, InfixTree, NotTree, ParensTree, IfTree, CasesTree, CallTree, ApplyTree, ChanceTree, ChanceOfTree, ArmTree, OneArm, ElseArm, ArgumentTree, NoArgument, OneArgument, NameAt, ItemTree, ConstTree, StatesTree, FieldTree, LetTree, NextTree}

-- the tree of an expression, whose names are bytes
abbrev mutual
  pub tree_of : Expr → Tree
  tree_of (Number value at) = NumberTree value at
  tree_of (Nothing at) = NothingTree at
  tree_of (Name name at) = NameTree (string_bytes name) at
  tree_of (Id at) = IdTree at
  tree_of (Degree at) = DegreeTree at
  tree_of (Round at) = RoundTree at
  tree_of (Near name at) = NearTree (string_bytes name) at
  tree_of (NearId at) = NearIdTree at
  tree_of (NearWeight at) = NearWeightTree at
  tree_of (Infix' operator at p left q right) = InfixTree operator at (tree_of left) (tree_of right)
  tree_of (Not' at p part) = NotTree at (tree_of part)
  tree_of (Parens' at p part) = ParensTree at (tree_of part)
  tree_of (If' at p test q first r second) = IfTree at (tree_of test) (tree_of first) (tree_of second)
  tree_of (Cases' at p arms) = CasesTree at (arms_of arms)
  tree_of (Call' function at p arguments) = CallTree function at (arguments_of arguments)
  tree_of (Apply' name at p arguments) = ApplyTree (string_bytes name) at (arguments_of arguments)
  tree_of (Chance at decimal) = ChanceTree at decimal
  tree_of (ChanceOf at decimal) = ChanceOfTree at decimal

  pub arms_of : Arms → ArmTree
  arms_of (Arm' p test q value r rest) = OneArm (tree_of test) (tree_of value) (arms_of rest)
  arms_of (Else' p value) = ElseArm (tree_of value)

  pub arguments_of : Arguments → ArgumentTree
  arguments_of End = NoArgument
  arguments_of (Argument' p first q rest) = OneArgument (tree_of first) (arguments_of rest)

-- a name with its place
abbrev pub name_of : NameOf → NameAt
name_of n = record { name = string_bytes n.name; at = n.at }

-- an item as a tree
abbrev pub item_of : Item → ItemTree
item_of (item.Const name value) = ConstTree (name_of name) (tree_of value)
item_of (item.States name members) = StatesTree (name_of name) (map name_of members.items)
item_of (item.Field name states initial) = FieldTree (name_of name) (option_map name_of states) (tree_of initial)
item_of (item.Let name parameters body) = LetTree (name_of name) (map name_of parameters.items) (tree_of body)
item_of (item.Next name body) = NextTree (name_of name) (tree_of body)

-- items as trees
abbrev pub items_of : List Item → List ItemTree
items_of items = map item_of items

-- the token that stands in memory so
abbrev pub tok_of : Token → Tok
tok_of (token.Keyword k) = KeywordTok k
tok_of (token.Name w) = NameTok w.now
tok_of (token.Near w) = NearTok w.now
tok_of token.NearId = NearIdTok
tok_of token.NearWeight = NearWeightTok
tok_of (token.Number n) = NumberTok n
tok_of (token.Decimal d) = DecimalTok d
tok_of (token.Sign s) = SignTok s

-- a token with its place
abbrev pub placed_of : Lexeme → Placed
placed_of l = placed (tok_of l.token) l.at

abbrev pub placed_all : List Lexeme → List Placed
placed_all lexemes = map placed_of lexemes

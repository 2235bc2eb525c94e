-- Trees and tokens without where they lie in memory.
use Rattle.std.specs.Prelude.{ℕ, ◌≡◌, List, map, string_bytes}
use Rattle.rule_lang.specs.declared.tree.Expr.{Expr}
use Rattle.rule_lang.specs.declared.tree.Expr.TheVariants.{Number, Own, Id, Degree, Round, Near, NearId, NearWeight, Infix', Not', Over', Choice'}
use Rattle.rule_lang.specs.declared.tree.Item.{Item}
use Rattle.rule_lang.specs.declared.tree.Item.TheVariants.{Field, Next}
use Rattle.rule_lang.specs.declared.token.Token.{Token}
use Rattle.rule_lang.specs.declared.token.Token.TheVariants as token
use Rattle.rule_lang.specs.declared.token.Lexeme.{Lexeme}
use Rattle.rule_lang.specs.Tokens.{Tok, WordTok, NearTok, NumberTok, SignTok, HasTokens, places}
use Rattle.rule_lang.specs.Tree.{Tree, NumberTree, OwnTree, IdTree, DegreeTree, RoundTree, NearTree, NearIdTree, NearWeightTree, InfixTree, NotTree, OverTree, ChoiceTree, ItemTree, FieldTree, NextTree}

-- the tree of an expression, whose names are bytes
abbrev pub tree_of : Expr → Tree
tree_of (Number n) = NumberTree n
tree_of (Own name) = OwnTree (string_bytes name)
tree_of Id = IdTree
tree_of Degree = DegreeTree
tree_of Round = RoundTree
tree_of (Near name) = NearTree (string_bytes name)
tree_of NearId = NearIdTree
tree_of NearWeight = NearWeightTree
tree_of (Infix' op p a q b) = InfixTree op (tree_of a) (tree_of b)
tree_of (Not' p a) = NotTree (tree_of a)
tree_of (Over' agg p a) = OverTree agg (tree_of a)
tree_of (Choice' p a q b r c) = ChoiceTree (tree_of a) (tree_of b) (tree_of c)

-- an item as a tree
abbrev pub item_of : Item → ItemTree
item_of (Field name value) = FieldTree (string_bytes name) value
item_of (Next name body) = NextTree (string_bytes name) (tree_of body)

-- items as trees
abbrev pub items_of : List Item → List ItemTree
items_of items = map item_of items

-- the token that stands in memory so
abbrev pub tok_of : Token → Tok
tok_of (token.Word w) = WordTok w.now
tok_of (token.Near w) = NearTok w.now
tok_of (token.Number n) = NumberTok n
tok_of (token.Sign s) = SignTok s

-- the tokens, without their places
abbrev pub toks_of : List Lexeme → List Tok
toks_of lexemes = map (λ l. tok_of l.token) lexemes

-- the text has these tokens, each at its place
pub record StandIn (text : List ℕ) (lexemes : List Lexeme) : Type 0 where
  pub words : HasTokens text (toks_of lexemes)
  pub at : places text (toks_of lexemes) words ≡ map (λ l. l.at) lexemes

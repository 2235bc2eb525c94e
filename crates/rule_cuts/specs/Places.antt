-- Where the products and totals of a program stand in its text.
use Rattle.std.specs.Prelude.{ℕ, ◌≡◌, List, [], ◌∷◌, codes, map, zip, flat_map, if◌then◌else◌, Bool, true, false}
use Rattle.std.specs.List.{filter}
use Rattle.std.specs.Str.{bytes_eq}
use Rattle.rule_lang.specs.declared.token.Sign.{Sign}
use Rattle.rule_lang.specs.declared.token.Sign.TheVariants.{Assign, Semicolon, Open, Close, Plus, Minus, Star, Slash, Percent, Ampersand, Bar, Caret, Equal, Differ, Less, LessEq, Greater, GreaterEq}
use Rattle.rule_lang.specs.declared.token.Lexeme.{Lexeme}
use Rattle.rule_lang.specs.Tokens.{Tok, WordTok, NearTok, NumberTok, SignTok, HasTokens, places}
use Rattle.rule_lang.specs.Tree.{ItemTree, HasTree}
use Rattle.rule_lang.specs.View.{tok_of}
use Rattle.rule_cuts.specs.Operations.{OperationTree, ProductTree, TotalTree, operations_of}

-- which of the two an operation is
pub data Kind : Type 0 where
  IsProduct : Kind
  IsTotal : Kind

abbrev pub kind_of : OperationTree → Kind
kind_of (ProductTree a b) = IsProduct
kind_of (TotalTree e) = IsTotal

-- which of them a sign is, if it is one
abbrev pub sign_kinds : Sign → List Kind
sign_kinds Assign = []
sign_kinds Semicolon = []
sign_kinds Open = []
sign_kinds Close = []
sign_kinds Plus = []
sign_kinds Minus = []
sign_kinds Star = IsProduct ∷ []
sign_kinds Slash = []
sign_kinds Percent = []
sign_kinds Ampersand = []
sign_kinds Bar = []
sign_kinds Caret = []
sign_kinds Equal = []
sign_kinds Differ = []
sign_kinds Less = []
sign_kinds LessEq = []
sign_kinds Greater = []
sign_kinds GreaterEq = []

-- which of them a token is, if it is one
abbrev pub token_kinds : Tok → List Kind
token_kinds (WordTok w) = if bytes_eq w (codes "total") then IsTotal ∷ [] else []
token_kinds (NearTok w) = []
token_kinds (NumberTok n) = []
token_kinds (SignTok s) = sign_kinds s

-- The tokens of a program's text that are operations are the program's, in their order.
abbrev pub StandInOrder : Type 0
StandInOrder = (tokens : List Tok) (items : List ItemTree) → HasTree tokens items → flat_map token_kinds tokens ≡ map kind_of (operations_of items)

-- a token is an operation
abbrev pub is_some : List Kind → Bool
is_some [] = false
is_some (k ∷ ks) = true

-- the places of those among the tokens, in bytes from 0
abbrev pub places_in : List Lexeme → List ℕ
places_in lexemes = map (λ l. l.at) (filter (λ l. is_some (token_kinds (tok_of l.token))) lexemes)

-- of tokens with their places, the places of the operations
abbrev pub operation_places : List (Tok × ℕ) → List ℕ
operation_places placed = map (λ p. p.1) (filter (λ p. is_some (token_kinds p.0)) placed)

-- these are the places of the operations among the tokens of the text, each where its token stands
pub record AreOperationPlaces (text at : List ℕ) : Type 0 where
  pub tokens : List Tok
  pub words : HasTokens text tokens
  pub is : at ≡ operation_places (zip tokens (places text tokens words))

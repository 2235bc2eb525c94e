-- Where the operators of a program stand in its text.
use Rattle.std.specs.Prelude.{ℕ, ◌≡◌, List, [], ◌∷◌, codes, map, flat_map, if◌then◌else◌, Bool, true, false}
use Rattle.std.specs.List.{filter}
use Rattle.std.specs.Str.{bytes_eq}
use Rattle.rule_lang.specs.declared.token.Sign.{Sign}
use Rattle.rule_lang.specs.declared.token.Sign.TheVariants.{Assign, Semicolon, Open, Close, Plus, Minus, Star, Slash, Percent, Ampersand, Bar, Caret, Equal, Differ, Less, LessEq, Greater, GreaterEq}
use Rattle.rule_lang.specs.declared.token.Lexeme.{Lexeme}
use Rattle.rule_lang.specs.Tokens.{Tok, WordTok, NearTok, NumberTok, SignTok}
use Rattle.rule_lang.specs.Tree.{ItemTree, HasTree}
use Rattle.rule_lang.specs.View.{tok_of}
use Rattle.run_cuts.specs.declared.cut.Kind.{Kind}
use Rattle.run_cuts.specs.declared.cut.Kind.TheVariants.{Sum, Difference, Product, Total}
use Rattle.run_cuts.specs.Operators.{operators_of}
use Rattle.run_cuts.specs.Cuts.{kind_of}

-- which operator a sign is, if its value can be cut
abbrev pub sign_kinds : Sign → List Kind
sign_kinds Assign = []
sign_kinds Semicolon = []
sign_kinds Open = []
sign_kinds Close = []
sign_kinds Plus = Sum ∷ []
sign_kinds Minus = Difference ∷ []
sign_kinds Star = Product ∷ []
sign_kinds Slash = []
sign_kinds Percent = []
sign_kinds Ampersand = []
sign_kinds Bar = []
sign_kinds Caret = []
sign_kinds Equal = []
sign_kinds Differ = []
sign_kinds Less = []
sign_kinds LessEq = []
sign_kinds Greater = []
sign_kinds GreaterEq = []

-- which operator a token is, if its value can be cut
abbrev pub token_kinds : Tok → List Kind
token_kinds (WordTok w) = if bytes_eq w (codes "total") then Total ∷ [] else []
token_kinds (NearTok w) = []
token_kinds (NumberTok n) = []
token_kinds (SignTok s) = sign_kinds s

-- The tokens of a program's text that are such operators are the program's, in their order.
abbrev pub StandInOrder : Type 0
StandInOrder = (tokens : List Tok) (items : List ItemTree) → HasTree tokens items → flat_map token_kinds tokens ≡ map (λ o. kind_of o.form) (operators_of items)

-- a token is such an operator
abbrev pub is_some : List Kind → Bool
is_some [] = false
is_some (k ∷ ks) = true

-- the places of those among the tokens, in bytes from 0
abbrev pub places_in : List Lexeme → List ℕ
places_in lexemes = map (λ l. l.at) (filter (λ l. is_some (token_kinds (tok_of l.token))) lexemes)

-- The reserved words.
use Rattle.std.specs.Prelude.{ℕ, List, [], ◌∷◌, Option, Some, None, if◌then◌else◌, codes}
use Rattle.std.specs.Str.{bytes_eq}
use Rattle.model_text.specs.declared.tree.Function.TheVariants as function
use Rattle.model_text.specs.declared.keyword.Keyword.{Keyword}
use Rattle.model_text.specs.declared.keyword.Keyword.TheVariants.{Const, States, Field, Let, Next, Or, And, Not, If, Then, Else, Cases, Nothing, Id, Degree, Round, Weight, Chance, ChanceOf}
use Rattle.model_text.specs.declared.keyword.Keyword.TheVariants as word

-- each reserved word and its bytes
abbrev pub reserved : List (List ℕ × Keyword)
reserved =
    (codes "const", Const) ∷ (codes "states", States) ∷ (codes "field", Field) ∷ (codes "let", Let) ∷ (codes "next", Next)
    ∷ (codes "or", Or) ∷ (codes "and", And) ∷ (codes "not", Not)
    ∷ (codes "if", If) ∷ (codes "then", Then) ∷ (codes "else", Else) ∷ (codes "cases", Cases) ∷ (codes "none", Nothing)
    ∷ (codes "id", Id) ∷ (codes "degree", Degree) ∷ (codes "round", Round) ∷ (codes "weight", Weight)
    ∷ (codes "chance", Chance) ∷ (codes "chance_of", ChanceOf)
    ∷ (codes "total", word.Function function.Total) ∷ (codes "sum", word.Function function.Sum)
    ∷ (codes "least", word.Function function.Least) ∷ (codes "most", word.Function function.Most)
    ∷ (codes "count", word.Function function.Count) ∷ (codes "any", word.Function function.Any) ∷ (codes "all", word.Function function.All)
    ∷ (codes "min", word.Function function.Min) ∷ (codes "max", word.Function function.Max)
    ∷ (codes "difference", word.Function function.Difference)
    ∷ (codes "random", word.Function function.Random) ∷ (codes "link_random", word.Function function.LinkRandom) ∷ []

-- the first of these words that has these bytes
abbrev pub first_reserved : List ℕ → List (List ℕ × Keyword) → Option Keyword
first_reserved word [] = None
first_reserved word (k ∷ ks) = if bytes_eq word k.0 then Some k.1 else first_reserved word ks

-- the reserved word that has these bytes; a name has none
unfoldable pub keyword_of : List ℕ → Option Keyword
keyword_of word = first_reserved word reserved

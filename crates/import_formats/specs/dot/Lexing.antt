-- The tokens of a text, and what is wrong where none begins.
use Rattle.std.specs.Prelude.{◌≡◌, ◌⊎◌, ℕ, ◌+◌, ◌==◌, Bool, true, false, ◌||◌, ◌&&◌, List, [], ◌∷◌, ◌++◌, codes, Option, Some, None, Result, Ok, Err, if◌then◌else◌}
use Rattle.std.specs.List.{count_by}
use Rattle.std.specs.Str.{is_utf8, str_eq_ignore_ascii_case}
use Rattle.import_formats.specs.declared.dot.token_kind.TokenKind.{TokenKind}
use Rattle.import_formats.specs.declared.dot.token_kind.TokenKind.TheVariants as kind
use Rattle.import_formats.specs.declared.dot.fault.DotLineFault.{DotLineFault}
use Rattle.import_formats.specs.declared.dot.fault.DotLineFault.TheVariants.{BadByte, BadNumeral, NotUtf8, UnclosedString, UnclosedComment, UnclosedHtml}
use Rattle.import_formats.specs.dot.Bytes.{is_line_feed, begins_numeral}
use Rattle.import_formats.specs.dot.Lexemes.{Lexeme, WordLexeme, NumeralLexeme, QuotedLexeme, HtmlLexeme, SignLexeme, minus, spelling, HasForm, spelled, begins_line}

-- ---- tokens

-- a token: the line where it begins, its kind, and its text; or what is wrong where none begins
pub record DotToken : Type 0 where
  pub line : ℕ
  pub kind : Result TokenKind DotLineFault
  pub text : List ℕ

-- the kind of a word: a keyword in any case, or a name
abbrev pub word_kind : List ℕ → TokenKind
word_kind word =
    if str_eq_ignore_ascii_case word (codes "strict") then kind.Strict
    else if str_eq_ignore_ascii_case word (codes "graph") then kind.Graph
    else if str_eq_ignore_ascii_case word (codes "digraph") then kind.Digraph
    else if str_eq_ignore_ascii_case word (codes "node") then kind.Node
    else if str_eq_ignore_ascii_case word (codes "edge") then kind.Edge
    else if str_eq_ignore_ascii_case word (codes "subgraph") then kind.Subgraph
    else kind.Name

-- the token that a lexeme is; blanks and comments are none
abbrev pub lexeme_kind : Lexeme → Option TokenKind
lexeme_kind (WordLexeme bytes) = Some (word_kind bytes)
lexeme_kind (NumeralLexeme negative bytes) = Some kind.Name
lexeme_kind (QuotedLexeme inside) = Some kind.Quoted
lexeme_kind (HtmlLexeme inside) = Some kind.Html
lexeme_kind (SignLexeme sign) = Some sign
lexeme_kind gap = None

-- the text of a word, a numeral or a string: its bytes, without the quotes or brackets
abbrev pub lexeme_text : Lexeme → List ℕ
lexeme_text (WordLexeme bytes) = bytes
lexeme_text (NumeralLexeme negative bytes) = minus negative ++ bytes
lexeme_text (QuotedLexeme inside) = inside
lexeme_text (HtmlLexeme inside) = inside
lexeme_text other = []

-- a token before others, where one stands there
abbrev pub with_token : ℕ → Option TokenKind → List ℕ → List DotToken → List DotToken
with_token line None text tokens = tokens
with_token line (Some found) text tokens = record { line = line; kind = Ok found; text = text } ∷ tokens

-- the tokens of lexemes, of which the first begins in this line, and the last token after them. A line feed ends a line
abbrev pub tokens_in : ℕ → List Lexeme → Result TokenKind DotLineFault → List DotToken
tokens_in line [] last = record { line = line; kind = last; text = [] } ∷ []
tokens_in line (l ∷ lexemes) last = with_token line (lexeme_kind l) (lexeme_text l) (tokens_in (line + count_by is_line_feed (spelling l)) lexemes last)

-- ---- where no lexeme stands

-- no lexeme has its form at the front of the bytes
abbrev pub NoneStands : Bool → List ℕ → Type 0
NoneStands fresh bytes = (lexeme : Lexeme) (behind : List ℕ) → bytes ≡ spelling lexeme ++ behind → HasForm fresh lexeme behind → ⊥

-- a word or a string has its form at the front of the bytes, but its text is no UTF-8
pub record IsNotUtf8 (fresh : Bool) (bytes : List ℕ) : Type 0 where
  pub lexeme : Lexeme
  pub behind : List ℕ
  pub cut : bytes ≡ spelling lexeme ++ behind
  pub form : HasForm fresh lexeme behind
  pub text : is_utf8 (lexeme_text lexeme) ≡ false

-- a star comes first
abbrev pub begins_star : List ℕ → Bool
begins_star [] = false
begins_star (b ∷ bytes) = b == 42

-- What is wrong where no lexeme has its form, by the byte that stands there and those after it: 34 is ", 60 is <, 47 and
-- 42 are /*, 45 is -
abbrev pub fault_at : ℕ → List ℕ → DotLineFault
fault_at b bytes =
    if b == 34 then UnclosedString
    else if b == 60 then UnclosedHtml
    else if b == 47 && begins_star bytes then UnclosedComment
    else if begins_numeral b || b == 45 then BadNumeral
    else BadByte b

-- why no lexeme stands at the front of some bytes
abbrev pub IsStuck : Bool → List ℕ → DotLineFault → Type 0
IsStuck fresh [] fault = ⊥
IsStuck fresh (b ∷ bytes) fault = IsNotUtf8 fresh (b ∷ bytes) × (fault ≡ NotUtf8) ⊎ NoneStands fresh (b ∷ bytes) × (fault ≡ fault_at b bytes)

-- how lexemes end: with the text, or where no lexeme stands
abbrev pub IsLast : Bool → List ℕ → Result TokenKind DotLineFault → Type 0
IsLast fresh rest (Ok end) = (rest ≡ []) × (end ≡ kind.End)
IsLast fresh rest (Err fault) = IsStuck fresh rest fault

-- ---- the lexemes of a text

-- the lexeme has its form, and its text is UTF-8
abbrev pub IsLexeme : Bool → Lexeme → List ℕ → Type 0
IsLexeme fresh lexeme behind = HasForm fresh lexeme behind × (is_utf8 (lexeme_text lexeme) ≡ true)

-- each lexeme stands before those after it, and they end like this
abbrev pub AreLexemes : Bool → List Lexeme → List ℕ → Result TokenKind DotLineFault → Type 0
AreLexemes fresh [] rest last = IsLast fresh rest last
AreLexemes fresh (l ∷ lexemes) rest last = IsLexeme fresh l (spelled lexemes rest) × AreLexemes (begins_line fresh (spelling l)) lexemes rest last

-- the text consists of these lexemes
pub record Lexes (text : List ℕ) (lexemes : List Lexeme) : Type 0 where
  pub spells : text ≡ spelled lexemes []
  pub each : AreLexemes true lexemes [] (Ok kind.End)

-- The tokens of a text: those of the lexemes of which it consists, and its end; or those of the lexemes that stand before
-- the first place where none does, and what is wrong there
pub record HasTokens (text : List ℕ) (tokens : List DotToken) : Type 0 where
  pub lexemes : List Lexeme
  pub rest : List ℕ
  pub last : Result TokenKind DotLineFault
  pub cut : text ≡ spelled lexemes rest
  pub each : AreLexemes true lexemes rest last
  pub are : tokens ≡ tokens_in 1 lexemes last

-- ---- laws

-- a text consists of lexemes in one way at most
abbrev pub OneLexing : Type 0
OneLexing = (text : List ℕ) (one other : List Lexeme) → Lexes text one → Lexes text other → one ≡ other

-- each text has tokens, and no others
abbrev pub OneTokens : Type 0
OneTokens = (text : List ℕ) → (tokens : List DotToken) × HasTokens text tokens × ((others : List DotToken) → HasTokens text others → others ≡ tokens)

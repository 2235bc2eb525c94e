-- The lexical grammar of texts in Graphviz's language: what a text consists of, how each part is spelled, and where it
-- stands. Bytes are numbers: 34 is ", 60 is <, 62 is >, 92 is a backslash.
use Rattle.std.specs.Prelude.{◌≡◌, ◌≢◌, ◌<◌, ◌≤◌, ℕ, Bool, true, false, List, [], ◌∷◌, ◌++◌, codes}
use Rattle.std.specs.List.{AllByRecursion, count_by}
use Rattle.std.specs.Char.{is_ascii_digit}
use Rattle.import_formats.specs.declared.dot.token_kind.TokenKind.{TokenKind}
use Rattle.import_formats.specs.declared.dot.token_kind.TokenKind.TheVariants as kind
use Rattle.import_formats.specs.dot.Bytes.{is_line_feed, is_inside_line, is_blank, is_word_byte, is_point, begins_numeral, is_numeral_byte}

-- ---- what a text consists of, and how it is spelled

pub data Lexeme : Type 0 where
  -- a blank, TAB, LF or CR
  BlankLexeme : (byte : ℕ) → Lexeme
  -- a comment: // and the rest of the line
  LineComment : (inside : List ℕ) → Lexeme
  -- a comment: /* and all up to */
  BlockComment : (inside : List ℕ) → Lexeme
  -- a comment: a line that begins with #
  HashLine : (inside : List ℕ) → Lexeme
  -- a keyword, or a name without quotes
  WordLexeme : (bytes : List ℕ) → Lexeme
  -- a number, with a minus sign before it or without one
  NumeralLexeme : (negative : Bool) (bytes : List ℕ) → Lexeme
  -- a string in double quotes
  QuotedLexeme : (inside : List ℕ) → Lexeme
  -- a string in angle brackets
  HtmlLexeme : (inside : List ℕ) → Lexeme
  -- a sign
  SignLexeme : (sign : TokenKind) → Lexeme

-- the bytes of a sign; all other tokens are none
abbrev pub sign_bytes : TokenKind → List ℕ
sign_bytes kind.BraceOpen = codes "{"
sign_bytes kind.BraceClose = codes "}"
sign_bytes kind.BracketOpen = codes "["
sign_bytes kind.BracketClose = codes "]"
sign_bytes kind.Semicolon = codes ";"
sign_bytes kind.Comma = codes ","
sign_bytes kind.Assign = codes "="
sign_bytes kind.Colon = codes ":"
sign_bytes kind.Dashes = codes "--"
sign_bytes kind.Arrow = codes "->"
sign_bytes other = []

-- a minus sign, or none
abbrev pub minus : Bool → List ℕ
minus true = codes "-"
minus false = []

-- the bytes of a lexeme
abbrev pub spelling : Lexeme → List ℕ
spelling (BlankLexeme b) = b ∷ []
spelling (LineComment inside) = codes "//" ++ inside
spelling (BlockComment inside) = codes "/*" ++ (inside ++ codes "*/")
spelling (HashLine inside) = codes "#" ++ inside
spelling (WordLexeme bytes) = bytes
spelling (NumeralLexeme negative bytes) = minus negative ++ bytes
spelling (QuotedLexeme inside) = codes "\"" ++ (inside ++ codes "\"")
spelling (HtmlLexeme inside) = codes "<" ++ (inside ++ codes ">")
spelling (SignLexeme sign) = sign_bytes sign

-- ---- the form of each

-- the bytes end, or go on with one of another sort
abbrev pub Stops : (ℕ → Bool) → List ℕ → Type 0
Stops sort [] = Unit {0}
Stops sort (b ∷ bytes) = sort b ≡ false

-- bytes of one sort, and all of that sort that stand there
pub record IsRun (sort : ℕ → Bool) (run behind : List ℕ) : Type 0 where
  pub each : AllByRecursion (λ b. sort b ≡ true) run
  pub stops : Stops sort behind

-- the part stands nowhere in the bytes
abbrev pub Lacks : List ℕ → List ℕ → Type 0
Lacks part bytes = (front back : List ℕ) → bytes ≢ front ++ (part ++ back)

-- some bytes, of which the first is no digit
abbrev pub BeginsWord : List ℕ → Type 0
BeginsWord [] = ⊥
BeginsWord (b ∷ bytes) = is_ascii_digit b ≡ false

-- digits with a point among them, before or after them, or without one: one digit at least, and one point at most
pub record IsNumeral (bytes : List ℕ) : Type 0 where
  pub each : AllByRecursion (λ b. begins_numeral b ≡ true) bytes
  pub digits : 0 < count_by is_ascii_digit bytes
  pub points : count_by is_point bytes ≤ 1

-- what stands in double quotes: no quote, but after a backslash, which takes any byte along
pub data IsQuoted : List ℕ → Type 0 where
  quoted_end : IsQuoted []
  quoted_byte : (b : ℕ) (bytes : List ℕ) → b ≢ 34 → b ≢ 92 → IsQuoted bytes → IsQuoted (b ∷ bytes)
  quoted_pair : (b : ℕ) (bytes : List ℕ) → IsQuoted bytes → IsQuoted (92 ∷ b ∷ bytes)

-- what stands in angle brackets: each < has its > after it, and no other > stands there
pub data IsBalanced : List ℕ → Type 0 where
  balanced_end : IsBalanced []
  balanced_byte : (b : ℕ) (bytes : List ℕ) → b ≢ 60 → b ≢ 62 → IsBalanced bytes → IsBalanced (b ∷ bytes)
  balanced_pair : (inside bytes : List ℕ) → IsBalanced inside → IsBalanced bytes → IsBalanced (60 ∷ (inside ++ (62 ∷ bytes)))

-- the lexeme has its form, and before these bytes it is whole. fresh: it is the first of its line
abbrev pub HasForm : Bool → Lexeme → List ℕ → Type 0
HasForm fresh (BlankLexeme b) behind = is_blank b ≡ true
HasForm fresh (LineComment inside) behind = IsRun is_inside_line inside behind
HasForm fresh (BlockComment inside) behind = Lacks (codes "*/") inside
HasForm fresh (HashLine inside) behind = (fresh ≡ true) × IsRun is_inside_line inside behind
HasForm fresh (WordLexeme bytes) behind = BeginsWord bytes × IsRun is_word_byte bytes behind
HasForm fresh (NumeralLexeme negative bytes) behind = IsNumeral bytes × Stops is_numeral_byte behind
HasForm fresh (QuotedLexeme inside) behind = IsQuoted inside
HasForm fresh (HtmlLexeme inside) behind = IsBalanced inside
HasForm fresh (SignLexeme sign) behind = sign_bytes sign ≢ []

-- ---- one after another

-- the lexemes as they are spelled, and these bytes after them
abbrev pub spelled : List Lexeme → List ℕ → List ℕ
spelled [] rest = rest
spelled (l ∷ lexemes) rest = spelling l ++ spelled lexemes rest

-- a line begins after these bytes; fresh: one begins before them
abbrev pub begins_line : Bool → List ℕ → Bool
begins_line fresh [] = fresh
begins_line fresh (b ∷ bytes) = begins_line (is_line_feed b) bytes

-- The tokens of a text as the lexer reads them, byte by byte. Private: clauses of the lexer's own functions speak of
-- these; what the tokens of a text are is told by Lexing.
use Rattle.std.specs.Prelude.{ℕ, zero, suc, ◌+◌, ◌-◌, ◌==◌, Bool, true, false, ◌&&◌, List, [], ◌∷◌, nat_lt, length, take, drop, slice_index, Option, Some, None, Result, Ok, Err, if◌then◌else◌}
use Rattle.std.specs.List.{prefix_len, position_or_len}
use Rattle.std.specs.Str.{is_utf8}
use Rattle.import_formats.specs.declared.dot.token_kind.TokenKind.{TokenKind}
use Rattle.import_formats.specs.declared.dot.token_kind.TokenKind.TheVariants.{Name, Quoted, Html, BraceOpen, BraceClose, BracketOpen, BracketClose, Semicolon, Comma, Assign, Colon, Dashes, Arrow, End}
use Rattle.import_formats.specs.declared.dot.fault.DotLineFault.{DotLineFault}
use Rattle.import_formats.specs.declared.dot.fault.DotLineFault.TheVariants.{BadByte, BadNumeral, NotUtf8, UnclosedString, UnclosedComment, UnclosedHtml}
use Rattle.import_formats.specs.dot.Bytes.{is_line_feed, is_blank, is_word_byte, begins_numeral, is_numeral_byte}
use Rattle.import_formats.specs.dot.Runs.{is_numeral, quote_place, bracket_place, slash_place}
use Rattle.import_formats.specs.dot.Lexing.{DotToken, word_kind, with_token}

-- what stands at the front of bytes: a token of this kind, or what lies between tokens; the token's text, where it has
-- one, and how many bytes it takes
pub record Piece : Type 0 where
  pub kind : Option TokenKind
  pub text : List ℕ
  pub size : ℕ

-- so many bytes between tokens
abbrev pub gap : ℕ → Result Piece DotLineFault
gap size = Ok (record { kind = None; text = []; size = size })

-- a token without a text, of so many bytes
abbrev pub sign : TokenKind → ℕ → Result Piece DotLineFault
sign kind size = Ok (record { kind = Some kind; text = []; size = size })

-- a token with a text
abbrev pub texted : TokenKind → List ℕ → ℕ → Result Piece DotLineFault
texted kind text size = if is_utf8 text then Ok (record { kind = Some kind; text = text; size = size }) else Err NotUtf8

-- after a slash: a comment to the line's end, or to the next */
abbrev pub comment_at : List ℕ → Result Piece DotLineFault
comment_at [] = Err (BadByte 47)
comment_at (c ∷ bytes) =
    if c == 47 then gap (2 + position_or_len is_line_feed bytes)
    else if c == 42 then (if nat_lt (slash_place false bytes) (length bytes) then gap (3 + slash_place false bytes) else Err UnclosedComment)
    else Err (BadByte 47)

-- after a double quote: a string to the quote that ends it
abbrev pub quoted_at : List ℕ → Result Piece DotLineFault
quoted_at bytes =
    if nat_lt (quote_place false bytes) (length bytes) then texted Quoted (take (quote_place false bytes) bytes) (2 + quote_place false bytes)
    else Err UnclosedString

-- after <: a string to the > that closes it
abbrev pub html_at : List ℕ → Result Piece DotLineFault
html_at bytes =
    if nat_lt (bracket_place 0 bytes) (length bytes) then texted Html (take (bracket_place 0 bytes) bytes) (2 + bracket_place 0 bytes)
    else Err UnclosedHtml

-- a numeral, with so many minus signs before it, which is a name
abbrev pub numeral_at : ℕ → List ℕ → Result Piece DotLineFault
numeral_at signs bytes =
    (let size = prefix_len is_numeral_byte (drop signs bytes) in
    if is_numeral (take size (drop signs bytes)) then texted Name (take (signs + size) bytes) (signs + size) else Err BadNumeral)

-- a word: a keyword or a name
abbrev pub word_at : List ℕ → Result Piece DotLineFault
word_at bytes = (let word = take (prefix_len is_word_byte bytes) bytes in texted (word_kind word) word (prefix_len is_word_byte bytes))

-- a minus sign and what stands after it: --, -> or a numeral
abbrev pub dash_at : List ℕ → Result Piece DotLineFault
dash_at bytes =
    if slice_index bytes 1 == 45 then sign Dashes 2
    else if slice_index bytes 1 == 62 then sign Arrow 2
    else numeral_at 1 bytes

-- a sign of one byte
abbrev pub sign_at : ℕ → Result Piece DotLineFault
sign_at b =
    if b == 123 then sign BraceOpen 1
    else if b == 125 then sign BraceClose 1
    else if b == 91 then sign BracketOpen 1
    else if b == 93 then sign BracketClose 1
    else if b == 59 then sign Semicolon 1
    else if b == 44 then sign Comma 1
    else if b == 61 then sign Assign 1
    else if b == 58 then sign Colon 1
    else Err (BadByte b)

-- what begins with this byte, with these after it; fresh: the byte is the first of its line
abbrev pub piece_at : Bool → ℕ → List ℕ → Result Piece DotLineFault
piece_at fresh b bytes =
    if is_blank b then gap 1
    else if b == 35 && fresh then gap (1 + position_or_len is_line_feed bytes)
    else if b == 47 then comment_at bytes
    else if b == 34 then quoted_at bytes
    else if b == 60 then html_at bytes
    else if b == 45 then dash_at (b ∷ bytes)
    else if begins_numeral b then numeral_at 0 (b ∷ bytes)
    else if is_word_byte b then word_at (b ∷ bytes)
    else sign_at b

-- what stands at the front of bytes
abbrev pub first_piece : Bool → List ℕ → Result Piece DotLineFault
first_piece fresh [] = gap 1
first_piece fresh (b ∷ bytes) = piece_at fresh b bytes

-- the line of the byte after this one
abbrev pub line_behind : ℕ → ℕ → ℕ
line_behind line b = if is_line_feed b then line + 1 else line

-- what stands in a line, and the tokens after as many bytes as it takes; a fault is the last
abbrev pub tokens_with : ℕ → Result Piece DotLineFault → (ℕ → List DotToken) → List DotToken
tokens_with line (Ok piece) behind = with_token line piece.kind piece.text (behind piece.size)
tokens_with line (Err fault) behind = record { line = line; kind = Err fault; text = [] } ∷ []

-- the tokens of bytes after so many of them. The first byte stands in this line; fresh: it is the first of its line.
-- The last token is End, or a fault
abbrev pub tokens_at : ℕ → Bool → ℕ → List ℕ → List DotToken
tokens_at passed fresh line [] = record { line = line; kind = Ok End; text = [] } ∷ []
tokens_at zero fresh line (b ∷ bytes) = tokens_with line (piece_at fresh b bytes) (λ size. tokens_at (size - 1) (is_line_feed b) (line_behind line b) bytes)
tokens_at (suc passed) fresh line (b ∷ bytes) = tokens_at passed (is_line_feed b) (line_behind line b) bytes

-- all tokens of a text
abbrev pub tokens_of : List ℕ → List DotToken
tokens_of text = tokens_at 0 true 1 text

-- A lexeme that has its form is read: the lexer cuts just its bytes, as the token that it is.
use Rattle.std.proofs.Common.{◌≡◌, ℕ, ◌+◌, Bool, true, false, List, [], ◌∷◌, ◌++◌, length, take, drop, refl, ap, ◌∙◌, arith, append_assoc, length-append, lt-ltb, Option, Some, None, Result, Ok, Err}
use Rattle.std.specs.Prelude.{◌==◌, codes, nat_lt, if◌then◌else◌}
use Rattle.std.specs.List.{position_or_len}
use Rattle.std.specs.Str.{is_utf8}
use Rattle.std.proofs.lemmas.Str.{is_utf8-from_IsUtf8, IsUtf8-nil}
use Rattle.std.proofs.Math.Seq.{take-append_seam}
use Rattle.import_formats.specs.declared.dot.token_kind.TokenKind.{TokenKind}
use Rattle.import_formats.specs.declared.dot.token_kind.TokenKind.TheVariants as kind
use Rattle.import_formats.specs.declared.dot.fault.DotLineFault.{DotLineFault}
use Rattle.import_formats.specs.declared.dot.fault.DotLineFault.TheVariants.{NotUtf8, BadNumeral}
use Rattle.import_formats.specs.dot.Bytes.{is_line_feed, is_inside_line, is_word_byte, begins_numeral, is_numeral_byte}
use Rattle.import_formats.specs.dot.Lexemes.{Lexeme, BlankLexeme, LineComment, BlockComment, HashLine, WordLexeme, NumeralLexeme, QuotedLexeme, HtmlLexeme, SignLexeme, spelling, IsRun, Stops, Lacks, IsNumeral, IsQuoted, IsBalanced, HasForm}
use Rattle.import_formats.specs.dot.Lexing.{lexeme_kind, lexeme_text, word_kind}
use Rattle.import_formats.specs.dot.Runs.{is_numeral, quote_place, bracket_place, slash_place}
use Rattle.import_formats.specs.dot.Tokens.{Piece, gap, texted, comment_at, quoted_at, html_at, numeral_at, word_at, first_piece}
use Rattle.import_formats.proofs.dot.ByteTests.{run_length, differs}
use Rattle.import_formats.proofs.dot.Strings.{quote_place-IsQuoted, bracket_place-IsBalanced}
use Rattle.import_formats.proofs.dot.Comments.{slash_place-Lacks}
use Rattle.import_formats.proofs.dot.Numerals.{numeral_passes, numeral_bytes}
use Rattle.import_formats.proofs.dot.FirstBytes.{pick_numeral, pick_word, word_begins}

-- a token or a gap of this text and size, where the text is UTF-8
abbrev pub judged_as : Option TokenKind → List ℕ → ℕ → Result Piece DotLineFault
judged_as found text size = if is_utf8 text then Ok (record { kind = found; text = text; size = size }) else Err NotUtf8

-- what the lexer makes of a lexeme
abbrev pub judged : Lexeme → Result Piece DotLineFault
judged l = judged_as (lexeme_kind l) (lexeme_text l) (length (spelling l))

pub none_is_utf8 : is_utf8 [] ≡ true
none_is_utf8 = is_utf8-from_IsUtf8 [] IsUtf8-nil

textless : (found : Option TokenKind) (n m : ℕ) → n ≡ m → Ok (record { kind = found; text = []; size = n }) ≡ judged_as found [] m
textless found n m e = rw (e, none_is_utf8) refl

-- ---- comments

run_judged : (n : ℕ) (inside behind : List ℕ) → IsRun is_inside_line inside behind → gap (n + position_or_len is_line_feed (inside ++ behind)) ≡ judged_as None [] (n + length inside)
run_judged n inside behind is = textless None (n + position_or_len is_line_feed (inside ++ behind)) (n + length inside) (ap (λ k. n + k) (run_length is_inside_line inside behind is))

comment_judged : (inside behind bytes : List ℕ) → bytes ≡ inside ++ (42 ∷ 47 ∷ behind) → Lacks (codes "*/") inside → comment_at (42 ∷ bytes) ≡ judged_as None [] (4 + length inside)
comment_judged inside behind bytes cut lacks =
    (let place = ap (slash_place false) cut ∙ slash_place-Lacks inside false lacks (λ e. cc) behind in
    let size = ap length cut ∙ length-append inside (42 ∷ 47 ∷ behind) in
    let closed : nat_lt (slash_place false bytes) (length bytes) ≡ true = lt-ltb (slash_place false bytes) (length bytes) (omega (arith, place, size)) in
    rw closed (textless None (3 + slash_place false bytes) (4 + length inside) (omega (arith, place))))

-- ---- strings

quoted_judged : (inside behind bytes : List ℕ) → bytes ≡ inside ++ (34 ∷ behind) → IsQuoted inside → quoted_at bytes ≡ judged_as (Some kind.Quoted) inside (2 + length inside)
quoted_judged inside behind bytes cut is =
    (let place = ap (quote_place false) cut ∙ quote_place-IsQuoted inside is behind in
    let size = ap length cut ∙ length-append inside (34 ∷ behind) in
    let closed : nat_lt (length inside) (length bytes) ≡ true = lt-ltb (length inside) (length bytes) (omega (arith, size)) in
    let front : take (length inside) bytes ≡ inside = ap (take (length inside)) cut ∙ take-append_seam inside (34 ∷ behind) in
    rw (place, closed, front) refl)

html_judged : (inside behind bytes : List ℕ) → bytes ≡ inside ++ (62 ∷ behind) → IsBalanced inside → html_at bytes ≡ judged_as (Some kind.Html) inside (2 + length inside)
html_judged inside behind bytes cut is =
    (let end : length inside + 0 ≡ length inside = omega arith in
    let place : bracket_place 0 bytes ≡ length inside = ap (bracket_place 0) cut ∙ bracket_place-IsBalanced inside is 0 (62 ∷ behind) ∙ end in
    let size = ap length cut ∙ length-append inside (62 ∷ behind) in
    let closed : nat_lt (length inside) (length bytes) ≡ true = lt-ltb (length inside) (length bytes) (omega (arith, size)) in
    let front : take (length inside) bytes ≡ inside = ap (take (length inside)) cut ∙ take-append_seam inside (62 ∷ behind) in
    rw (place, closed, front) refl)

-- ---- words and numerals

word_judged : (word behind : List ℕ) → IsRun is_word_byte word behind → word_at (word ++ behind) ≡ judged_as (Some (word_kind word)) word (length word)
word_judged word behind is =
    (let size = run_length is_word_byte word behind is in
    let front : take (length word) (word ++ behind) ≡ word = take-append_seam word behind in
    rw (size, front) refl)

-- a numeral is what stands there of its bytes, where they are one
abbrev pub numeral_of : ℕ → List ℕ → List ℕ → Result Piece DotLineFault
numeral_of signs bytes run = if is_numeral run then texted kind.Name (take (signs + length run) bytes) (signs + length run) else Err BadNumeral

pub numeral_cut : (signs : ℕ) (bytes run behind : List ℕ) → drop signs bytes ≡ run ++ behind → IsRun is_numeral_byte run behind → numeral_at signs bytes ≡ numeral_of signs bytes run
numeral_cut signs bytes run behind cut is =
    (let size = run_length is_numeral_byte run behind is in
    let front : take (length run) (run ++ behind) ≡ run = take-append_seam run behind in
    rw (cut, size, front) refl)

numeral_judged : (signs : ℕ) (bytes text run behind : List ℕ) → drop signs bytes ≡ run ++ behind → bytes ≡ text ++ behind → signs + length run ≡ length text → IsNumeral run → Stops is_numeral_byte behind → numeral_at signs bytes ≡ judged_as (Some kind.Name) text (length text)
numeral_judged signs bytes text run behind cut whole size is stops =
    (let passes = numeral_passes run is in
    let front : take (length text) bytes ≡ text = ap (take (length text)) whole ∙ take-append_seam text behind in
    numeral_cut signs bytes run behind cut (record { each = numeral_bytes run is.each; stops = stops }) ∙ rw (passes, size, front) refl)

pub no_numeral : IsNumeral [] → ⊥
no_numeral is = (let some = is.digits in omega (arith, some))

-- ---- any lexeme

unsigned_read : (fresh : Bool) (bytes behind : List ℕ) → IsNumeral bytes → Stops is_numeral_byte behind → first_piece fresh (bytes ++ behind) ≡ judged (NumeralLexeme false bytes)
unsigned_read fresh [] behind is stops = absurd (no_numeral is)
unsigned_read fresh (b ∷ bytes) behind is stops =
    (let size : 0 + length (b ∷ bytes) ≡ length (b ∷ bytes) = omega arith in
    pick_numeral fresh b _ _ _ _ _ _ _ _ _ is.each.0 ∙ numeral_judged 0 (b ∷ (bytes ++ behind)) (b ∷ bytes) (b ∷ bytes) behind refl refl size is stops)

signed_read : (fresh : Bool) (bytes behind : List ℕ) → IsNumeral bytes → Stops is_numeral_byte behind → first_piece fresh (45 ∷ (bytes ++ behind)) ≡ judged (NumeralLexeme true bytes)
signed_read fresh [] behind is stops = absurd (no_numeral is)
signed_read fresh (b ∷ bytes) behind is stops =
    (let dash : (b == 45) ≡ false = differs begins_numeral b 45 is.each.0 refl in
    let angle : (b == 62) ≡ false = differs begins_numeral b 62 is.each.0 refl in
    let size : 1 + length (b ∷ bytes) ≡ length (45 ∷ b ∷ bytes) = omega arith in
    rw (dash, angle) (numeral_judged 1 (45 ∷ b ∷ (bytes ++ behind)) (45 ∷ b ∷ bytes) (b ∷ bytes) behind refl refl size is stops))

word_read : (fresh : Bool) (b : ℕ) (bytes behind : List ℕ) → HasForm fresh (WordLexeme (b ∷ bytes)) behind → first_piece fresh (b ∷ (bytes ++ behind)) ≡ judged (WordLexeme (b ∷ bytes))
word_read fresh b bytes behind form =
    (let first : is_word_byte b ≡ true = form.1.each.0 in
    pick_word fresh b _ _ _ _ _ _ _ _ _ first (word_begins b first form.0) ∙ word_judged (b ∷ bytes) behind form.1)

pub lexeme_read : (fresh : Bool) (l : Lexeme) (behind : List ℕ) → HasForm fresh l behind → first_piece fresh (spelling l ++ behind) ≡ judged l
lexeme_read fresh (BlankLexeme b) behind form = rw form (textless None 1 1 refl)
lexeme_read fresh (LineComment inside) behind form = (let size : 2 + length inside ≡ length (spelling (LineComment inside)) = omega arith in run_judged 2 inside behind form ∙ ap (judged_as None []) size)
lexeme_read fresh (BlockComment inside) behind form =
    (let size : 4 + length inside ≡ length (spelling (BlockComment inside)) = omega (arith, length-append inside (codes "*/")) in
    comment_judged inside behind ((inside ++ codes "*/") ++ behind) (append_assoc inside (codes "*/") behind) form ∙ ap (judged_as None []) size)
lexeme_read fresh (HashLine inside) behind form =
    (let begun : fresh ≡ true = form.0 in
    let size : 1 + length inside ≡ length (spelling (HashLine inside)) = omega arith in
    rw begun (run_judged 1 inside behind form.1 ∙ ap (judged_as None []) size))
lexeme_read fresh (WordLexeme []) behind form = absurd form.0
lexeme_read fresh (WordLexeme (b ∷ bytes)) behind form = word_read fresh b bytes behind form
lexeme_read fresh (NumeralLexeme true bytes) behind form = signed_read fresh bytes behind form.0 form.1
lexeme_read fresh (NumeralLexeme false bytes) behind form = unsigned_read fresh bytes behind form.0 form.1
lexeme_read fresh (QuotedLexeme inside) behind form =
    (let size : 2 + length inside ≡ length (spelling (QuotedLexeme inside)) = omega (arith, length-append inside (codes "\"")) in
    quoted_judged inside behind ((inside ++ codes "\"") ++ behind) (append_assoc inside (codes "\"") behind) form ∙ ap (judged_as (Some kind.Quoted) inside) size)
lexeme_read fresh (HtmlLexeme inside) behind form =
    (let size : 2 + length inside ≡ length (spelling (HtmlLexeme inside)) = omega (arith, length-append inside (codes ">")) in
    html_judged inside behind ((inside ++ codes ">") ++ behind) (append_assoc inside (codes ">") behind) form ∙ ap (judged_as (Some kind.Html) inside) size)
lexeme_read fresh (SignLexeme kind.BraceOpen) behind form = textless (Some kind.BraceOpen) 1 1 refl
lexeme_read fresh (SignLexeme kind.BraceClose) behind form = textless (Some kind.BraceClose) 1 1 refl
lexeme_read fresh (SignLexeme kind.BracketOpen) behind form = textless (Some kind.BracketOpen) 1 1 refl
lexeme_read fresh (SignLexeme kind.BracketClose) behind form = textless (Some kind.BracketClose) 1 1 refl
lexeme_read fresh (SignLexeme kind.Semicolon) behind form = textless (Some kind.Semicolon) 1 1 refl
lexeme_read fresh (SignLexeme kind.Comma) behind form = textless (Some kind.Comma) 1 1 refl
lexeme_read fresh (SignLexeme kind.Assign) behind form = textless (Some kind.Assign) 1 1 refl
lexeme_read fresh (SignLexeme kind.Colon) behind form = textless (Some kind.Colon) 1 1 refl
lexeme_read fresh (SignLexeme kind.Dashes) behind form = textless (Some kind.Dashes) 2 2 refl
lexeme_read fresh (SignLexeme kind.Arrow) behind form = textless (Some kind.Arrow) 2 2 refl
lexeme_read fresh (SignLexeme other) behind form = absurd (form refl)

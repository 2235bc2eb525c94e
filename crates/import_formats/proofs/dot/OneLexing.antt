-- A text consists of lexemes in one way at most: what stands at its front is told by its bytes.
use Rattle.std.proofs.Common.{◌≡◌, ℕ, ◌+◌, ◌-◌, ◌<◌, Bool, true, false, List, [], ◌∷◌, ◌++◌, length, take, refl, sym, ap, ap₂, ◌∙◌, subst, arith, length-append, Result, Ok, Err}
use Rattle.std.specs.Prelude.{◌==◌, codes, if◌then◌else◌}
use Rattle.std.specs.Str.{is_utf8}
use Rattle.std.proofs.Math.Seq.{take-append_seam}
use Rattle.import_formats.specs.declared.dot.token_kind.TokenKind.{TokenKind}
use Rattle.import_formats.specs.declared.dot.token_kind.TokenKind.TheVariants as kind
use Rattle.import_formats.specs.declared.dot.fault.DotLineFault.{DotLineFault}
use Rattle.import_formats.specs.dot.Bytes.{begins_numeral, is_word_byte}
use Rattle.import_formats.specs.dot.Lexemes.{Lexeme, BlankLexeme, LineComment, BlockComment, HashLine, WordLexeme, NumeralLexeme, QuotedLexeme, HtmlLexeme, SignLexeme, spelling, IsNumeral, HasForm, spelled, begins_line}
use Rattle.import_formats.specs.dot.Lexing.{lexeme_text, IsLexeme, AreLexemes, OneLexing}
use Rattle.import_formats.specs.dot.Tokens.{Piece, first_piece}
use Rattle.import_formats.proofs.dot.FirstBytes.{pick, pick_numeral, pick_word, word_begins}
use Rattle.import_formats.proofs.dot.ByteTests.{differs}
use Rattle.import_formats.proofs.dot.LexemesRead.{judged, lexeme_read, no_numeral}

-- ---- a lexeme is told by its spelling

abbrev pub without_last : ℕ → List ℕ → List ℕ
without_last count bytes = take (length bytes - count) bytes

without_end : (inside end : List ℕ) (count : ℕ) → length end ≡ count → without_last count (inside ++ end) ≡ inside
without_end inside end count is =
    (let size : length (inside ++ end) - count ≡ length inside = omega (arith, length-append inside end, is) in
    ap (λ n. take n (inside ++ end)) size ∙ take-append_seam inside end)

abbrev pub short_sign : ℕ → TokenKind
short_sign b =
    if b == 123 then kind.BraceOpen
    else if b == 125 then kind.BraceClose
    else if b == 91 then kind.BracketOpen
    else if b == 93 then kind.BracketClose
    else if b == 59 then kind.Semicolon
    else if b == 44 then kind.Comma
    else if b == 61 then kind.Assign
    else kind.Colon

abbrev pub behind_slash : List ℕ → Lexeme
behind_slash [] = BlankLexeme 0
behind_slash (b ∷ bytes) = if b == 47 then LineComment bytes else BlockComment (without_last 2 bytes)

abbrev pub behind_dash : List ℕ → Lexeme
behind_dash [] = BlankLexeme 0
behind_dash (b ∷ bytes) = if b == 45 then SignLexeme kind.Dashes else if b == 62 then SignLexeme kind.Arrow else NumeralLexeme true (b ∷ bytes)

abbrev pub told_by : List ℕ → Lexeme
told_by [] = BlankLexeme 0
told_by (b ∷ bytes) =
    pick true b (BlankLexeme b) (HashLine bytes) (behind_slash bytes) (QuotedLexeme (without_last 1 bytes)) (HtmlLexeme (without_last 1 bytes)) (behind_dash bytes) (NumeralLexeme false (b ∷ bytes)) (WordLexeme (b ∷ bytes)) (SignLexeme (short_sign b))

signed_told : (bytes : List ℕ) → IsNumeral bytes → behind_dash bytes ≡ NumeralLexeme true bytes
signed_told [] is = absurd (no_numeral is)
signed_told (b ∷ bytes) is =
    (let dash : (b == 45) ≡ false = differs begins_numeral b 45 is.each.0 refl in
    let angle : (b == 62) ≡ false = differs begins_numeral b 62 is.each.0 refl in
    rw (dash, angle) refl)

unsigned_told : (bytes : List ℕ) → IsNumeral bytes → told_by bytes ≡ NumeralLexeme false bytes
unsigned_told [] is = absurd (no_numeral is)
unsigned_told (b ∷ bytes) is = pick_numeral true b _ _ _ _ _ _ _ _ _ is.each.0

word_told : (fresh : Bool) (b : ℕ) (bytes behind : List ℕ) → HasForm fresh (WordLexeme (b ∷ bytes)) behind → told_by (b ∷ bytes) ≡ WordLexeme (b ∷ bytes)
word_told fresh b bytes behind form =
    (let first : is_word_byte b ≡ true = form.1.each.0 in
    pick_word true b _ _ _ _ _ _ _ _ _ first (word_begins b first form.0))

pub lexeme_told : (fresh : Bool) (l : Lexeme) (behind : List ℕ) → HasForm fresh l behind → told_by (spelling l) ≡ l
lexeme_told fresh (BlankLexeme b) behind form = rw form refl
lexeme_told fresh (LineComment inside) behind form = refl
lexeme_told fresh (BlockComment inside) behind form = ap BlockComment (without_end inside (codes "*/") 2 refl)
lexeme_told fresh (HashLine inside) behind form = refl
lexeme_told fresh (WordLexeme []) behind form = absurd form.0
lexeme_told fresh (WordLexeme (b ∷ bytes)) behind form = word_told fresh b bytes behind form
lexeme_told fresh (NumeralLexeme true bytes) behind form = signed_told bytes form.0
lexeme_told fresh (NumeralLexeme false bytes) behind form = unsigned_told bytes form.0
lexeme_told fresh (QuotedLexeme inside) behind form = ap QuotedLexeme (without_end inside (codes "\"") 1 refl)
lexeme_told fresh (HtmlLexeme inside) behind form = ap HtmlLexeme (without_end inside (codes ">") 1 refl)
lexeme_told fresh (SignLexeme kind.BraceOpen) behind form = refl
lexeme_told fresh (SignLexeme kind.BraceClose) behind form = refl
lexeme_told fresh (SignLexeme kind.BracketOpen) behind form = refl
lexeme_told fresh (SignLexeme kind.BracketClose) behind form = refl
lexeme_told fresh (SignLexeme kind.Semicolon) behind form = refl
lexeme_told fresh (SignLexeme kind.Comma) behind form = refl
lexeme_told fresh (SignLexeme kind.Assign) behind form = refl
lexeme_told fresh (SignLexeme kind.Colon) behind form = refl
lexeme_told fresh (SignLexeme kind.Dashes) behind form = refl
lexeme_told fresh (SignLexeme kind.Arrow) behind form = refl
lexeme_told fresh (SignLexeme other) behind form = absurd (form refl)

-- ---- one lexeme at the front

some_byte : (fresh : Bool) (l : Lexeme) (behind : List ℕ) → HasForm fresh l behind → (bytes : List ℕ) → spelling l ≡ bytes → 0 < length bytes
some_byte fresh l behind form [] e = absurd (let blank : l ≡ BlankLexeme 0 = sym (lexeme_told fresh l behind form) ∙ ap told_by e in let bytes : 0 ∷ [] ≡ [] = sym (ap spelling blank) ∙ e in cc)
some_byte fresh l behind form (b ∷ bytes) e = omega arith

-- a lexeme has a byte at least
pub spelling_some : (fresh : Bool) (l : Lexeme) (behind : List ℕ) → HasForm fresh l behind → 0 < length (spelling l)
spelling_some fresh l behind form = some_byte fresh l behind form (spelling l) refl

-- two cuts of a list at one place
same_cut : (a x b y : List ℕ) → a ++ x ≡ b ++ y → length a ≡ length b → (a ≡ b) × (x ≡ y)
same_cut [] x [] y e n = (refl, e)
same_cut [] x (b ∷ bs) y e n = absurd (omega arith)
same_cut (a ∷ as') x [] y e n = absurd (omega arith)
same_cut (a ∷ as') x (b ∷ bs) y e n =
    (let tails : as' ++ x ≡ bs ++ y = cc in
    let heads : a ≡ b = cc in
    let sizes : length as' ≡ length bs = omega arith in
    let more = same_cut as' x bs y tails sizes in
    (ap₂ (λ h t. h ∷ t) heads more.0, more.1))

abbrev size_of : Result Piece DotLineFault → ℕ
size_of (Ok piece) = piece.size
size_of (Err fault) = 0

judged_size : (l : Lexeme) → is_utf8 (lexeme_text l) ≡ true → size_of (judged l) ≡ length (spelling l)
judged_size l good = rw good refl

same_size : (fresh : Bool) (l m : Lexeme) (x y : List ℕ) → IsLexeme fresh l x → IsLexeme fresh m y → spelling l ++ x ≡ spelling m ++ y → length (spelling l) ≡ length (spelling m)
same_size fresh l m x y one other e =
    (let read : judged l ≡ judged m = sym (lexeme_read fresh l x one.0) ∙ ap (first_piece fresh) e ∙ lexeme_read fresh m y other.0 in
    sym (judged_size l one.1) ∙ ap size_of read ∙ judged_size m other.1)

same_lexeme : (fresh : Bool) (l m : Lexeme) (x y : List ℕ) → IsLexeme fresh l x → IsLexeme fresh m y → spelling l ++ x ≡ spelling m ++ y → (l ≡ m) × (x ≡ y)
same_lexeme fresh l m x y one other e =
    (let cuts = same_cut (spelling l) x (spelling m) y e (same_size fresh l m x y one other e) in
    (sym (lexeme_told fresh l x one.0) ∙ ap told_by cuts.0 ∙ lexeme_told fresh m y other.0, cuts.1))

not_empty : (fresh : Bool) (l : Lexeme) (rest : List ℕ) → IsLexeme fresh l rest → [] ≡ spelling l ++ rest → ⊥
not_empty fresh l rest is e = (let some = spelling_some fresh l rest is.0 in let size : 0 ≡ length (spelling l) + length rest = ap length e ∙ length-append (spelling l) rest in omega (arith, some, size))

-- ---- one list of them

same_lexemes : (one other : List Lexeme) (fresh : Bool) → AreLexemes fresh one [] (Ok kind.End) → AreLexemes fresh other [] (Ok kind.End) → spelled one [] ≡ spelled other [] → one ≡ other
same_lexemes [] [] fresh each those e = refl
same_lexemes [] (m ∷ other) fresh each those e = absurd (not_empty fresh m (spelled other []) those.0 e)
same_lexemes (l ∷ one) [] fresh each those e = absurd (not_empty fresh l (spelled one []) each.0 (sym e))
same_lexemes (l ∷ one) (m ∷ other) fresh each those e =
    (let same = same_lexeme fresh l m (spelled one []) (spelled other []) each.0 those.0 e in
    let rest = subst (λ x. AreLexemes (begins_line fresh (spelling x)) other [] (Ok kind.End)) (sym same.0) those.1 in
    ap₂ (λ h t. h ∷ t) same.0 (same_lexemes one other (begins_line fresh (spelling l)) each.1 rest same.1))

pub lexes_once : OneLexing
lexes_once text one other is those = same_lexemes one other true is.each those.each (sym is.spells ∙ those.spells)

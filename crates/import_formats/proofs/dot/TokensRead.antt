-- The tokens that the lexer reads are those of the text's lexemes.
use Rattle.std.proofs.Common.{◌≡◌, inl, inr, ℕ, zero, suc, ◌+◌, ◌<◌, ◌≤◌, Bool, true, false, List, [], ◌∷◌, ◌++◌, length, refl, sym, ap, ◌∙◌, subst, arith, length-append, Result, Ok, Err, le_refl}
use Rattle.std.specs.List.{count_by}
use Rattle.std.specs.Str.{is_utf8}
use Rattle.import_formats.specs.declared.dot.token_kind.TokenKind.{TokenKind}
use Rattle.import_formats.specs.declared.dot.token_kind.TokenKind.TheVariants.{End}
use Rattle.import_formats.specs.declared.dot.fault.DotLineFault.{DotLineFault}
use Rattle.import_formats.specs.declared.dot.fault.DotLineFault.TheVariants.{NotUtf8}
use Rattle.import_formats.specs.dot.Bytes.{is_line_feed}
use Rattle.import_formats.specs.dot.Lexemes.{Lexeme, spelling, HasForm, spelled, begins_line}
use Rattle.import_formats.specs.dot.Lexing.{DotToken, lexeme_kind, lexeme_text, with_token, tokens_in, NoneStands, fault_at, IsStuck, IsLexeme, AreLexemes, Lexes, HasTokens, OneTokens}
use Rattle.import_formats.specs.dot.Tokens.{piece_at, first_piece, line_behind, tokens_at, tokens_of}
use Rattle.import_formats.proofs.dot.ByteTests.{by_test}
use Rattle.import_formats.proofs.dot.Numerals.{count_one, count_none}
use Rattle.import_formats.proofs.dot.FirstBytes.{fault_plain}
use Rattle.import_formats.proofs.dot.LexemesRead.{judged, lexeme_read}
use Rattle.import_formats.proofs.dot.LexemesFound.{Stands, found}
use Rattle.import_formats.proofs.dot.OneLexing.{spelling_some}
use Rattle.import_formats.proofs.dot.TokenSteps.{piece_told, fault_told}

-- ---- bytes that are passed

line_more : (line b : ℕ) (bytes : List ℕ) → line_behind line b + count_by is_line_feed bytes ≡ line + count_by is_line_feed (b ∷ bytes)
line_more line b bytes =
    by_test (is_line_feed b) (λ is. let one = count_one is_line_feed b bytes is in let next : line_behind line b ≡ line + 1 = rw is refl in omega (arith, one, next))
    (λ is. let none = count_none is_line_feed b bytes is in let same : line_behind line b ≡ line = rw is refl in omega (arith, none, same))

bytes_passed : (front : List ℕ) (fresh : Bool) (line : ℕ) (rest : List ℕ) → tokens_at (length front) fresh line (front ++ rest) ≡ tokens_at 0 (begins_line fresh front) (line + count_by is_line_feed front) rest
bytes_passed [] fresh line rest = (let same : line + 0 ≡ line = omega arith in rw same refl)
bytes_passed (b ∷ front) fresh line rest = bytes_passed front (is_line_feed b) (line_behind line b) rest ∙ ap (λ n. tokens_at 0 (begins_line (is_line_feed b) front) n rest) (line_more line b front)

-- ---- faults

good_read : (l : Lexeme) → is_utf8 (lexeme_text l) ≡ true → judged l ≡ Ok (record { kind = lexeme_kind l; text = lexeme_text l; size = length (spelling l) })
good_read l good = rw good refl

bad_read : (l : Lexeme) → is_utf8 (lexeme_text l) ≡ false → judged l ≡ Err NotUtf8
bad_read l bad = rw bad refl

judged_fault : (l : Lexeme) (fault : DotLineFault) → judged l ≡ Err fault → fault ≡ NotUtf8
judged_fault l fault is =
    by_test (is_utf8 (lexeme_text l)) (λ good. let clash = sym (good_read l good) ∙ is in cc)
    (λ bad. let same = sym (bad_read l bad) ∙ is in cc)

none_stands : (fresh : Bool) (b : ℕ) (bytes : List ℕ) → piece_at fresh b bytes ≡ Err (fault_at b bytes) → NoneStands fresh (b ∷ bytes)
none_stands fresh b bytes bad l behind cut form = fault_plain b bytes (judged_fault l (fault_at b bytes) (sym (lexeme_read fresh l behind form) ∙ ap (first_piece fresh) (sym cut) ∙ bad))

-- the lexer finds the fault where no lexeme stands
stuck_read : (fresh : Bool) (rest : List ℕ) (fault : DotLineFault) → IsStuck fresh rest fault → (0 < length rest) × (first_piece fresh rest ≡ Err fault)
stuck_read fresh [] fault stuck = absurd stuck
stuck_read fresh (b ∷ bytes) fault (inl bad) = (omega arith, ap (first_piece fresh) bad.0.cut ∙ lexeme_read fresh bad.0.lexeme bad.0.behind bad.0.form ∙ bad_read bad.0.lexeme bad.0.text ∙ ap Err (sym bad.1))
stuck_read fresh (b ∷ bytes) fault (inr none) = (
  omega arith,
  elim (found fresh b bytes) [
    | inl stands ↦ absurd (none.0 stands.lexeme stands.behind stands.cut stands.form)
    | inr bad ↦ bad ∙ ap Err (sym none.1)
  ],
)

-- ---- the tokens of lexemes

lexeme_passed : (fresh : Bool) (line : ℕ) (l : Lexeme) (rest : List ℕ) → IsLexeme fresh l rest
    → tokens_at 0 fresh line (spelling l ++ rest) ≡ with_token line (lexeme_kind l) (lexeme_text l) (tokens_at 0 (begins_line fresh (spelling l)) (line + count_by is_line_feed (spelling l)) rest)
lexeme_passed fresh line l rest is =
    (let some = spelling_some fresh l rest is.0 in
    let size = length-append (spelling l) rest in
    piece_told fresh line (spelling l ++ rest) (lexeme_kind l) (lexeme_text l) (length (spelling l)) (omega (arith, some, size)) some (lexeme_read fresh l rest is.0 ∙ good_read l is.1)
    ∙ ap (with_token line (lexeme_kind l) (lexeme_text l)) (bytes_passed (spelling l) fresh line rest))

last_read : (fresh : Bool) (line : ℕ) (rest : List ℕ) (last : Result TokenKind DotLineFault) → AreLexemes fresh [] rest last → tokens_at 0 fresh line rest ≡ record { line = line; kind = last; text = [] } ∷ []
last_read fresh line rest (Ok end) is = rw (is.0, is.1) refl
last_read fresh line rest (Err fault) is = (let read = stuck_read fresh rest fault is in fault_told fresh line rest fault read.0 read.1)

pub lexemes_read : (lexemes : List Lexeme) (fresh : Bool) (line : ℕ) (rest : List ℕ) (last : Result TokenKind DotLineFault) → AreLexemes fresh lexemes rest last → tokens_at 0 fresh line (spelled lexemes rest) ≡ tokens_in line lexemes last
lexemes_read [] fresh line rest last is = last_read fresh line rest last is
lexemes_read (l ∷ lexemes) fresh line rest last is =
    lexeme_passed fresh line l (spelled lexemes rest) is.0
    ∙ ap (with_token line (lexeme_kind l) (lexeme_text l)) (lexemes_read lexemes (begins_line fresh (spelling l)) (line + count_by is_line_feed (spelling l)) rest last is.1)

-- the tokens of a text are those that are read
pub tokens_read : (text : List ℕ) (tokens : List DotToken) → HasTokens text tokens → tokens_of text ≡ tokens
tokens_read text tokens are = ap (tokens_at 0 true 1) are.cut ∙ lexemes_read are.lexemes true 1 are.rest are.last are.each ∙ sym are.are

-- the tokens of a text that consists of lexemes
pub lexemes_told : (text : List ℕ) (lexemes : List Lexeme) → Lexes text lexemes → tokens_of text ≡ tokens_in 1 lexemes (Ok End)
lexemes_told text lexemes is = ap (tokens_at 0 true 1) is.spells ∙ lexemes_read lexemes true 1 [] (Ok End) is.each

-- ---- the lexemes of bytes

pub record Lexed (fresh : Bool) (bytes : List ℕ) : Type 0 where
  pub lexemes : List Lexeme
  pub rest : List ℕ
  pub last : Result TokenKind DotLineFault
  pub cut : bytes ≡ spelled lexemes rest
  pub each : AreLexemes fresh lexemes rest last

one_more : (fresh : Bool) (bytes : List ℕ) (s : Stands fresh bytes) → is_utf8 (lexeme_text s.lexeme) ≡ true → Lexed (begins_line fresh (spelling s.lexeme)) s.behind → Lexed fresh bytes
one_more fresh bytes s good more = record {
  lexemes = s.lexeme ∷ more.lexemes;
  rest = more.rest;
  last = more.last;
  cut = s.cut ∙ ap (λ x. spelling s.lexeme ++ x) more.cut;
  each = ((subst (HasForm fresh s.lexeme) more.cut s.form, good), more.each);
}

stopped : (fresh : Bool) (b : ℕ) (bytes : List ℕ) (fault : DotLineFault) → IsStuck fresh (b ∷ bytes) fault → Lexed fresh (b ∷ bytes)
stopped fresh b bytes fault stuck = record { lexemes = []; rest = b ∷ bytes; last = Err fault; cut = refl; each = stuck }

fewer : (fresh : Bool) (bytes : List ℕ) (s : Stands fresh bytes) (n : ℕ) → length bytes ≤ suc n → length s.behind ≤ n
fewer fresh bytes s n h = (let some = spelling_some fresh s.lexeme s.behind s.form in let size = ap length s.cut ∙ length-append (spelling s.lexeme) s.behind in omega (arith, some, size, h))

lexed : (n : ℕ) (fresh : Bool) (bytes : List ℕ) → length bytes ≤ n → Lexed fresh bytes
lexed n fresh [] h = record { lexemes = []; rest = []; last = Ok End; cut = refl; each = (refl, refl) }
lexed zero fresh (b ∷ bytes) h = absurd (omega arith)
lexed (suc n) fresh (b ∷ bytes) h =
    elim (found fresh b bytes) [
      | inl s ↦ by_test (is_utf8 (lexeme_text s.lexeme)) (λ good. one_more fresh (b ∷ bytes) s good (lexed n (begins_line fresh (spelling s.lexeme)) s.behind (fewer fresh (b ∷ bytes) s n h)))
          (λ bad. stopped fresh b bytes NotUtf8 (inl (record { lexeme = s.lexeme; behind = s.behind; cut = s.cut; form = s.form; text = bad }, refl)))
      | inr bad ↦ stopped fresh b bytes (fault_at b bytes) (inr (none_stands fresh b bytes bad, refl))
    ]

-- what is read are the tokens of the text
pub has_tokens : (text : List ℕ) → HasTokens text (tokens_of text)
has_tokens text =
    (let l = lexed (length text) true text (le_refl (length text)) in
    record { lexemes = l.lexemes; rest = l.rest; last = l.last; cut = l.cut; each = l.each; are = ap (tokens_at 0 true 1) l.cut ∙ lexemes_read l.lexemes true 1 l.rest l.last l.each })

pub tokens_once : OneTokens
tokens_once text = (tokens_of text, has_tokens text, λ others are. sym (tokens_read text others are))

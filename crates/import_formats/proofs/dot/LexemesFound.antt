-- Where the lexer reads something, a lexeme has its form there; where it finds a fault, none has, but for the one whose
-- text is no UTF-8.
use Rattle.std.proofs.Common.{◌≡◌, ◌⊎◌, inl, inr, ℕ, Bool, true, false, List, [], ◌∷◌, ◌++◌, length, refl, sym, ap, ◌∙◌, subst, append_assoc, eqb-true, ltb-true, Err, ◌&&◌}
use Rattle.std.specs.Prelude.{◌==◌, codes, nat_lt}
use Rattle.std.specs.Char.{is_ascii_digit}
use Rattle.std.proofs.lemmas.Bool.{false≢true}
use Rattle.import_formats.specs.declared.dot.token_kind.TokenKind.{TokenKind}
use Rattle.import_formats.specs.declared.dot.token_kind.TokenKind.TheVariants as kind
use Rattle.import_formats.specs.declared.dot.fault.DotLineFault.TheVariants.{BadByte}
use Rattle.import_formats.specs.dot.Bytes.{is_inside_line, is_blank, is_word_byte, is_point, begins_numeral, is_numeral_byte}
use Rattle.import_formats.specs.dot.Lexemes.{Lexeme, BlankLexeme, LineComment, BlockComment, HashLine, WordLexeme, NumeralLexeme, QuotedLexeme, HtmlLexeme, SignLexeme, sign_bytes, spelling, HasForm}
use Rattle.import_formats.specs.dot.Lexing.{fault_at}
use Rattle.import_formats.specs.dot.Runs.{is_numeral, quote_place, bracket_place, slash_place}
use Rattle.import_formats.specs.dot.Tokens.{sign_at, piece_at}
use Rattle.import_formats.proofs.dot.ByteTests.{by_test, and_false, and_true, or_left, run_found}
use Rattle.import_formats.proofs.dot.Strings.{quoted_found, closed_found}
use Rattle.import_formats.proofs.dot.Comments.{comment_found}
use Rattle.import_formats.proofs.dot.Numerals.{passes_numeral}
use Rattle.import_formats.proofs.dot.FirstBytes.{pick_numeral, numeral_fault}
use Rattle.import_formats.proofs.dot.LexemesRead.{numeral_cut}

-- a lexeme has its form at the front of the bytes
pub record Stands (fresh : Bool) (bytes : List ℕ) : Type 0 where
  pub lexeme : Lexeme
  pub behind : List ℕ
  pub cut : bytes ≡ spelling lexeme ++ behind
  pub form : HasForm fresh lexeme behind

-- one has, or the lexer finds the fault of this byte
abbrev pub Found : Bool → ℕ → List ℕ → Type 0
Found fresh b bytes = Stands fresh (b ∷ bytes) ⊎ (piece_at fresh b bytes ≡ Err (fault_at b bytes))

-- ---- comments

hash_found : (bytes : List ℕ) → Found true 35 bytes
hash_found bytes = (let line = run_found is_inside_line bytes in inl (record { lexeme = HashLine line.run; behind = line.behind; cut = ap (λ x. 35 ∷ x) line.cut; form = (refl, line.is) }))

line_found : (fresh : Bool) (bytes : List ℕ) → Stands fresh (47 ∷ 47 ∷ bytes)
line_found fresh bytes = (let line = run_found is_inside_line bytes in record { lexeme = LineComment line.run; behind = line.behind; cut = ap (λ x. 47 ∷ 47 ∷ x) line.cut; form = line.is })

block_found : (fresh : Bool) (bytes : List ℕ) → Found fresh 47 (42 ∷ bytes)
block_found fresh bytes =
    by_test (nat_lt (slash_place false bytes) (length bytes))
    (λ closed.
    let at = comment_found bytes false (ltb-true (slash_place false bytes) (length bytes) closed) in
    inl (record { lexeme = BlockComment at.inside; behind = at.behind; cut = ap (λ x. 47 ∷ 42 ∷ x) (at.cut ∙ sym (append_assoc at.inside (codes "*/") at.behind)); form = at.lacks }))
    (λ closed. inr (rw closed refl))

slash_found : (fresh : Bool) (bytes : List ℕ) → Found fresh 47 bytes
slash_found fresh [] = inr refl
slash_found fresh (b ∷ bytes) =
    by_test (b == 47) (λ line. subst (λ x. Found fresh 47 (x ∷ bytes)) (sym (eqb-true b 47 line)) (inl (line_found fresh bytes)))
    (λ line. by_test (b == 42) (λ block. subst (λ x. Found fresh 47 (x ∷ bytes)) (sym (eqb-true b 42 block)) (block_found fresh bytes)) (λ block. inr (rw (line, block) refl)))

-- ---- strings

quote_found : (fresh : Bool) (bytes : List ℕ) → Found fresh 34 bytes
quote_found fresh bytes =
    by_test (nat_lt (quote_place false bytes) (length bytes))
    (λ closed.
    let at = quoted_found bytes false (ltb-true (quote_place false bytes) (length bytes) closed) in
    inl (record { lexeme = QuotedLexeme at.inside; behind = at.behind; cut = ap (λ x. 34 ∷ x) (at.cut ∙ sym (append_assoc at.inside (codes "\"") at.behind)); form = at.is }))
    (λ closed. inr (rw closed refl))

angle_found : (fresh : Bool) (bytes : List ℕ) → Found fresh 60 bytes
angle_found fresh bytes =
    by_test (nat_lt (bracket_place 0 bytes) (length bytes))
    (λ closed.
    let at = closed_found bytes 0 (ltb-true (bracket_place 0 bytes) (length bytes) closed) in
    inl (record { lexeme = HtmlLexeme at.inside; behind = at.behind; cut = ap (λ x. 60 ∷ x) (at.cut ∙ sym (append_assoc at.inside (codes ">") at.behind)); form = at.is }))
    (λ closed. inr (rw closed refl))

-- ---- numerals and words

numeral_found : (fresh : Bool) (b : ℕ) (bytes : List ℕ) → begins_numeral b ≡ true → Found fresh b bytes
numeral_found fresh b bytes is =
    (let at = run_found is_numeral_byte (b ∷ bytes) in
    by_test (is_numeral at.run)
    (λ passes. inl (record { lexeme = NumeralLexeme false at.run; behind = at.behind; cut = at.cut; form = (passes_numeral at.run passes, at.is.stops) }))
    (λ passes. inr (pick_numeral fresh b _ _ _ _ _ _ _ _ _ is ∙ numeral_cut 0 (b ∷ bytes) at.run at.behind at.cut at.is ∙ rw (passes, numeral_fault b bytes is) refl)))

signed_found : (fresh : Bool) (b : ℕ) (bytes : List ℕ) → (b == 45) ≡ false → (b == 62) ≡ false → Found fresh 45 (b ∷ bytes)
signed_found fresh b bytes dash angle =
    (let at = run_found is_numeral_byte (b ∷ bytes) in
    by_test (is_numeral at.run)
    (λ passes. inl (record { lexeme = NumeralLexeme true at.run; behind = at.behind; cut = ap (λ x. 45 ∷ x) at.cut; form = (passes_numeral at.run passes, at.is.stops) }))
    (λ passes. inr (rw (dash, angle) (numeral_cut 1 (45 ∷ b ∷ bytes) at.run at.behind at.cut at.is ∙ rw passes refl))))

sign_stands : (fresh : Bool) (sign : TokenKind) (b : ℕ) (bytes : List ℕ) → sign_bytes sign ≡ b ∷ [] → Stands fresh (b ∷ bytes)
sign_stands fresh sign b bytes is = record { lexeme = SignLexeme sign; behind = bytes; cut = ap (λ x. x ++ bytes) (sym is); form = λ none. let e : b ∷ [] ≡ [] = sym is ∙ none in cc }

edge_stands : (fresh : Bool) (sign : TokenKind) (b : ℕ) (bytes : List ℕ) → sign_bytes sign ≡ 45 ∷ b ∷ [] → Stands fresh (45 ∷ b ∷ bytes)
edge_stands fresh sign b bytes is = record { lexeme = SignLexeme sign; behind = bytes; cut = ap (λ x. x ++ bytes) (sym is); form = λ none. let e : 45 ∷ b ∷ [] ≡ [] = sym is ∙ none in cc }

dash_found : (fresh : Bool) (bytes : List ℕ) → Found fresh 45 bytes
dash_found fresh [] = inr (numeral_cut 1 (45 ∷ []) [] [] refl (record { each = tt; stops = tt }))
dash_found fresh (b ∷ bytes) =
    by_test (b == 45) (λ dash. inl (edge_stands fresh kind.Dashes b bytes (ap (λ x. 45 ∷ x ∷ []) (sym (eqb-true b 45 dash)))))
    (λ dash. by_test (b == 62) (λ angle. inl (edge_stands fresh kind.Arrow b bytes (ap (λ x. 45 ∷ x ∷ []) (sym (eqb-true b 62 angle))))) (λ angle. signed_found fresh b bytes dash angle))

word_found : (fresh : Bool) (b : ℕ) (bytes : List ℕ) → is_word_byte b ≡ true → begins_numeral b ≡ false → Stands fresh (b ∷ bytes)
word_found fresh b bytes is no_numeral =
    (let at = run_found is_word_byte bytes in
    record { lexeme = WordLexeme (b ∷ at.run); behind = at.behind; cut = ap (λ x. b ∷ x) at.cut; form = (or_left (is_ascii_digit b) (is_point b) no_numeral, record { each = (is, at.is.each); stops = at.is.stops }) })

-- ---- signs

one_byte : (b k : ℕ) → (b == k) ≡ true → k ∷ [] ≡ b ∷ []
one_byte b k is = ap (λ x. x ∷ []) (sym (eqb-true b k is))

-- the byte is a sign, or none of the signs
sign_found : (fresh : Bool) (b : ℕ) (bytes : List ℕ) → Stands fresh (b ∷ bytes) ⊎ (sign_at b ≡ Err (BadByte b))
sign_found fresh b bytes =
    by_test (b == 123) (λ is. inl (sign_stands fresh kind.BraceOpen b bytes (one_byte b 123 is)))
    (λ x1. by_test (b == 125) (λ is. inl (sign_stands fresh kind.BraceClose b bytes (one_byte b 125 is)))
    (λ x2. by_test (b == 91) (λ is. inl (sign_stands fresh kind.BracketOpen b bytes (one_byte b 91 is)))
    (λ x3. by_test (b == 93) (λ is. inl (sign_stands fresh kind.BracketClose b bytes (one_byte b 93 is)))
    (λ x4. by_test (b == 59) (λ is. inl (sign_stands fresh kind.Semicolon b bytes (one_byte b 59 is)))
    (λ x5. by_test (b == 44) (λ is. inl (sign_stands fresh kind.Comma b bytes (one_byte b 44 is)))
    (λ x6. by_test (b == 61) (λ is. inl (sign_stands fresh kind.Assign b bytes (one_byte b 61 is)))
    (λ x7. by_test (b == 58) (λ is. inl (sign_stands fresh kind.Colon b bytes (one_byte b 58 is)))
    (λ x8. inr (rw (x1, x2, x3, x4, x5, x6, x7, x8) refl)))))))))

-- ---- any byte

last_found : (fresh : Bool) (b : ℕ) (bytes : List ℕ) → is_blank b ≡ false → (b == 35 && fresh) ≡ false → (b == 47) ≡ false → (b == 34) ≡ false → (b == 60) ≡ false → (b == 45) ≡ false → begins_numeral b ≡ false → is_word_byte b ≡ false → Found fresh b bytes
last_found fresh b bytes x1 x2 x3 x4 x5 x6 x7 x8 =
    elim (sign_found fresh b bytes) [
      | inl stands ↦ inl stands
      | inr bad ↦ inr (rw (x1, x2, x3, x4, x5, x6, x7, x8) bad)
    ]

at_byte : (fresh : Bool) (b k : ℕ) (bytes : List ℕ) → (b == k) ≡ true → Found fresh k bytes → Found fresh b bytes
at_byte fresh b k bytes is found = subst (λ x. Found fresh x bytes) (sym (eqb-true b k is)) found

hash_at : (fresh : Bool) (b : ℕ) (bytes : List ℕ) → (b == 35 && fresh) ≡ true → Found fresh b bytes
hash_at true b bytes is = at_byte true b 35 bytes (sym (and_true (b == 35)) ∙ is) (hash_found bytes)
hash_at false b bytes is = absurd (false≢true (sym (and_false (b == 35)) ∙ is))

pub found : (fresh : Bool) (b : ℕ) (bytes : List ℕ) → Found fresh b bytes
found fresh b bytes =
    by_test (is_blank b) (λ is. inl (record { lexeme = BlankLexeme b; behind = bytes; cut = refl; form = is }))
    (λ x1. by_test (b == 35 && fresh) (λ is. hash_at fresh b bytes is)
    (λ x2. by_test (b == 47) (λ is. at_byte fresh b 47 bytes is (slash_found fresh bytes))
    (λ x3. by_test (b == 34) (λ is. at_byte fresh b 34 bytes is (quote_found fresh bytes))
    (λ x4. by_test (b == 60) (λ is. at_byte fresh b 60 bytes is (angle_found fresh bytes))
    (λ x5. by_test (b == 45) (λ is. at_byte fresh b 45 bytes is (dash_found fresh bytes))
    (λ x6. by_test (begins_numeral b) (λ is. numeral_found fresh b bytes is)
    (λ x7. by_test (is_word_byte b) (λ is. inl (word_found fresh b bytes is x7))
    (λ x8. last_found fresh b bytes x1 x2 x3 x4 x5 x6 x7 x8))))))))

-- One token, and those after it.
use Rattle.std.proofs.Common.{◌≡◌, ℕ, zero, suc, ◌-◌, ◌≤◌, ◌<◌, ◌==◌, Bool, false, List, [], ◌∷◌, length, refl, sym, ap, ◌∙◌, arith, Ok, Err, Option, Some, None, if◌then◌else◌}
use Rattle.import_formats.specs.declared.dot.token_kind.TokenKind.{TokenKind}
use Rattle.import_formats.specs.declared.dot.fault.DotLineFault.{DotLineFault}
use Rattle.import_formats.specs.dot.Lexing.{DotToken, with_token}
use Rattle.import_formats.specs.dot.Tokens.{first_piece, line_behind, tokens_at}

behind_first : (size : ℕ) (fresh : Bool) (line b : ℕ) (bytes : List ℕ) → 1 ≤ size → tokens_at (size - 1) (b == 10) (line_behind line b) bytes ≡ tokens_at size fresh line (b ∷ bytes)
behind_first zero fresh line b bytes some = absurd (omega arith)
behind_first (suc size) fresh line b bytes some = (let e : suc size - 1 ≡ size = omega arith in rw e refl)

pub piece_told : (fresh : Bool) (line : ℕ) (bytes : List ℕ) (kind : Option TokenKind) (text : List ℕ) (size : ℕ) → 0 < length bytes → 1 ≤ size → first_piece fresh bytes ≡ Ok (record { kind = kind; text = text; size = size }) → tokens_at 0 fresh line bytes ≡ with_token line kind text (tokens_at size fresh line bytes)
piece_told fresh line [] kind text size full some is = absurd (omega arith)
piece_told fresh line (b ∷ bytes) kind text size full some is = rw is (ap (with_token line kind text) (behind_first size fresh line b bytes some))

-- what lies between tokens is passed over
pub gap_passed : (fresh : Bool) (line : ℕ) (bytes : List ℕ) (kind : Option TokenKind) (text : List ℕ) (size : ℕ) (rest : List DotToken) → 0 < length bytes → 1 ≤ size → first_piece fresh bytes ≡ Ok (record { kind = kind; text = text; size = size }) → kind ≡ None → rest ≡ tokens_at size fresh line bytes → rest ≡ tokens_at 0 fresh line bytes
gap_passed fresh line bytes kind text size rest full some is none behind = behind ∙ sym (piece_told fresh line bytes kind text size full some is ∙ ap (λ k. with_token line k text (tokens_at size fresh line bytes)) none)

-- a token is the first
pub token_passed : (fresh : Bool) (line : ℕ) (bytes : List ℕ) (kind : Option TokenKind) (text : List ℕ) (size : ℕ) (rest : List DotToken) (found : TokenKind) → 0 < length bytes → 1 ≤ size → first_piece fresh bytes ≡ Ok (record { kind = kind; text = text; size = size }) → kind ≡ Some found → rest ≡ tokens_at size fresh line bytes → tokens_at 0 fresh line bytes ≡ record { line = line; kind = Ok found; text = text } ∷ rest
token_passed fresh line bytes kind text size rest found full some is one behind =
    piece_told fresh line bytes kind text size full some is ∙ ap (λ k. with_token line k text (tokens_at size fresh line bytes)) one ∙ ap (λ ts. record { line = line; kind = Ok found; text = text } ∷ ts) (sym behind)

-- a fault is the last
pub fault_told : (fresh : Bool) (line : ℕ) (bytes : List ℕ) (fault : DotLineFault) → 0 < length bytes → first_piece fresh bytes ≡ Err fault → tokens_at 0 fresh line bytes ≡ record { line = line; kind = Err fault; text = [] } ∷ []
fault_told fresh line [] fault full is = absurd (omega arith)
fault_told fresh line (b ∷ bytes) fault full is = rw is refl

-- tokens that did not end yet
pub not_ended : (ended : Bool) (tokens : List DotToken) → ended ≡ false → (if ended then [] else tokens) ≡ tokens
not_ended ended tokens e = rw e refl

pub some_bytes : (bytes : List ℕ) (empty : Bool) → empty ≡ (length bytes == 0) → empty ≡ false → 0 < length bytes
some_bytes [] empty is e = cc
some_bytes (b ∷ bytes) empty is e = omega arith

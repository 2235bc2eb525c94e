-- The last token of a text is its end, or a fault.
use Rattle.std.proofs.Common.{ℕ, ◌-◌, Bool, List, [], ◌∷◌, Option, Result, Ok, Err, Some, None, zero, suc}
use Rattle.import_formats.specs.declared.dot.token_kind.TokenKind.{TokenKind}
use Rattle.import_formats.specs.declared.dot.token_kind.TokenKind.TheVariants.{End}
use Rattle.import_formats.specs.declared.dot.fault.DotLineFault.{DotLineFault}
use Rattle.import_formats.specs.dot.Lexing.{DotToken, with_token}
use Rattle.import_formats.specs.dot.Tokens.{Piece, piece_at, line_behind, tokens_with, tokens_at}
use Rattle.import_formats.specs.dot.Bytes.{is_line_feed}
use Rattle.import_formats.proofs.dot.Starts.{behind}

-- ---- the tokens of a text

-- a text's end, or a fault
abbrev pub IsLast : Result TokenKind DotLineFault → Type 0
IsLast (Ok End) = Unit {0}
IsLast (Ok k) = ⊥
IsLast (Err bad) = Unit {0}

-- the last token is one of these
abbrev pub Ended : List DotToken → Type 0
Ended [] = ⊥
Ended (t ∷ []) = IsLast t.kind
Ended (t ∷ next ∷ ts) = Ended (next ∷ ts)

pub ended_more : (t : DotToken) (ts : List DotToken) → Ended ts → Ended (t ∷ ts)
ended_more t [] ended = absurd ended
ended_more t (next ∷ ts) ended = ended

pub ended_token : (line : ℕ) (k : Option TokenKind) (text : List ℕ) (ts : List DotToken) → Ended ts → Ended (with_token line k text ts)
ended_token line None text ts ended = ended
ended_token line (Some k) text ts ended = ended_more (record { line = line; kind = Ok k; text = text }) ts ended

pub ended_piece : (line : ℕ) (r : Result Piece DotLineFault) (behind : ℕ → List DotToken) → ((size : ℕ) → Ended (behind size)) → Ended (tokens_with line r behind)
ended_piece line (Ok piece) behind ended = ended_token line piece.kind piece.text (behind piece.size) (ended piece.size)
ended_piece line (Err bad) behind ended = tt

pub tokens_ended : (bytes : List ℕ) (passed : ℕ) (fresh : Bool) (line : ℕ) → Ended (tokens_at passed fresh line bytes)
tokens_ended [] passed fresh line = tt
tokens_ended (b ∷ bytes) zero fresh line =
    ended_piece line (piece_at fresh b bytes) (λ size. tokens_at (size - 1) (is_line_feed b) (line_behind line b) bytes) (λ size. tokens_ended bytes (size - 1) (is_line_feed b) (line_behind line b))
tokens_ended (b ∷ bytes) (suc passed) fresh line = tokens_ended bytes passed (is_line_feed b) (line_behind line b)

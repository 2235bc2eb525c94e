-- A text whose tokens are read consists of lexemes.
use Rattle.std.proofs.Common.{◌≡◌, ℕ, ◌+◌, Bool, true, List, [], ◌∷◌, refl, ap, ◌∙◌, Option, Some, None, Result, Ok, Err, subst, IsOk}
use Rattle.std.proofs.lemmas.Bool.{false≢true}
use Rattle.std.specs.List.{count_by}
use Rattle.import_formats.specs.declared.dot.token_kind.TokenKind.{TokenKind}
use Rattle.import_formats.specs.declared.dot.token_kind.TokenKind.TheVariants.{End}
use Rattle.import_formats.specs.declared.dot.fault.DotLineFault.{DotLineFault}
use Rattle.import_formats.specs.declared.dot.fault.DotFault.{DotFault}
use Rattle.import_formats.specs.declared.dot.state.State.{State}
use Rattle.import_formats.specs.dot.Bytes.{is_line_feed}
use Rattle.import_formats.specs.dot.Lexemes.{Lexeme, spelling, spelled, begins_line}
use Rattle.import_formats.specs.dot.Lexing.{DotToken, lexeme_kind, lexeme_text, with_token, tokens_in, AreLexemes, Lexes}
use Rattle.import_formats.specs.dot.Tokens.{tokens_of}
use Rattle.import_formats.specs.dot.Graphs.{DotEvent, and_then, at_line, token_turn, start, events_from}
use Rattle.import_formats.proofs.dot.TokensRead.{has_tokens}

abbrev pub Read : Bool → Option ℕ → State → List DotToken → Type 0
Read undirected factor s ts = IsOk (events_from undirected factor s ts)

pub events_ok : (e : DotEvent) (read : Result (List DotEvent) DotFault) → IsOk (and_then read (λ es. Ok (e ∷ es))) → IsOk read
events_ok e (Ok es) is = refl
events_ok e (Err bad) is = is

pub read_next : (undirected : Bool) (factor : Option ℕ) (ts : List DotToken) (turn : Result (State × DotEvent) DotFault)
    → IsOk (and_then turn (λ n. and_then (events_from undirected factor n.0 ts) (λ es. Ok (n.1 ∷ es)))) → (next : State) × Read undirected factor next ts
read_next undirected factor ts (Ok n) is = (n.0, events_ok n.1 (events_from undirected factor n.0 ts) is)
read_next undirected factor ts (Err bad) is = absurd (false≢true is)

pub read_behind_token : (undirected : Bool) (factor : Option ℕ) (s : State) (line : ℕ) (found : Option TokenKind) (text : List ℕ) (ts : List DotToken) → Read undirected factor s (with_token line found text ts) → (next : State) × Read undirected factor next ts
read_behind_token undirected factor s line None text ts is = (s, is)
read_behind_token undirected factor s line (Some k) text ts is = read_next undirected factor ts (at_line line (token_turn undirected factor s (record { line = line; kind = Ok k; text = text }) ts)) is

pub good_last : (undirected : Bool) (factor : Option ℕ) (lexemes : List Lexeme) (line : ℕ) (last : Result TokenKind DotLineFault) (s : State) → Read undirected factor s (tokens_in line lexemes last) → IsOk last
good_last undirected factor [] line (Ok end) s is = refl
good_last undirected factor [] line (Err bad) s is = absurd (false≢true is)
good_last undirected factor (l ∷ lexemes) line last s is =
    (let next = read_behind_token undirected factor s line (lexeme_kind l) (lexeme_text l) (tokens_in (line + count_by is_line_feed (spelling l)) lexemes last) is in
    good_last undirected factor lexemes (line + count_by is_line_feed (spelling l)) last next.0 next.1)

pub whole_text : (text : List ℕ) (lexemes : List Lexeme) (rest : List ℕ) (last : Result TokenKind DotLineFault) → text ≡ spelled lexemes rest → AreLexemes true lexemes rest last → (rest ≡ []) × (last ≡ Ok End) → Lexes text lexemes
whole_text text lexemes rest last cut each ends = record { spells = cut ∙ ap (spelled lexemes) ends.0; each = subst (λ l. AreLexemes true lexemes [] l) ends.1 (subst (λ r. AreLexemes true lexemes r last) ends.0 each) }

-- lexemes that the text's end ends
pub ends_with_text : (lexemes : List Lexeme) (fresh : Bool) (rest : List ℕ) (last : Result TokenKind DotLineFault) → AreLexemes fresh lexemes rest last → IsOk last → (rest ≡ []) × (last ≡ Ok End)
ends_with_text [] fresh rest (Ok end) each good = (each.0, ap Ok each.1)
ends_with_text [] fresh rest (Err bad) each good = absurd (false≢true good)
ends_with_text (l ∷ lexemes) fresh rest last each good = ends_with_text lexemes (begins_line fresh (spelling l)) rest last each.1 good

-- a text whose tokens are read consists of lexemes
pub read_lexes : (undirected : Bool) (factor : Option ℕ) (text : List ℕ) → Read undirected factor start (tokens_of text) → (lexemes : List Lexeme) × Lexes text lexemes
read_lexes undirected factor text is =
    (let has = has_tokens text in
    let good = good_last undirected factor has.lexemes 1 has.last start (subst (Read undirected factor start) has.are is) in
    (has.lexemes, whole_text text has.lexemes has.rest has.last has.cut has.each (ends_with_text has.lexemes true has.rest has.last has.each good)))

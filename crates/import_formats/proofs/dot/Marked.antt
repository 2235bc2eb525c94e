-- What is built from tokens depends on their marks alone, where nothing is wrong.
use Rattle.std.proofs.Common.{◌≡◌, ℕ, Bool, true, false, List, [], ◌∷◌, map, refl, sym, ap, ◌∙◌, Option, Result, Ok, Err}
use Rattle.import_formats.specs.declared.dot.token_kind.TokenKind.{TokenKind}
use Rattle.import_formats.specs.declared.dot.token_kind.TokenKind.TheVariants.{Name, Quoted, Html}
use Rattle.import_formats.specs.declared.dot.fault.DotLineFault.{DotLineFault}
use Rattle.import_formats.specs.declared.dot.fault.DotLineFault.TheVariants.{NotUtf8}
use Rattle.import_formats.specs.declared.dot.fault.DotFault.TheVariants.{BadLine}
use Rattle.import_formats.specs.declared.dot.state.Place.{Place}
use Rattle.import_formats.specs.declared.dot.state.Place.TheVariants as stands
use Rattle.import_formats.specs.declared.dot.state.Act.{Act}
use Rattle.import_formats.specs.declared.dot.state.Act.TheVariants as does
use Rattle.import_formats.specs.declared.dot.state.State.{State}
use Rattle.import_formats.specs.dot.Lexing.{DotToken}
use Rattle.import_formats.specs.dot.Grammar.{is_assign, turn_at}
use Rattle.import_formats.specs.dot.Graphs.{DotEvent, DotGraph, and_then, at_line, said, token_turn, unsaid_weight}
use Rattle.import_formats.specs.dot.Syntax.{Mark, IdMark, SignMark, FaultMark, mark_in, mark_of}
use Rattle.import_formats.proofs.dot.Building.{Built, build, built_with}
use Rattle.import_formats.proofs.dot.SignTurns.{Same, quiet_turn, sign_told, told, turn_ahead, turn_text}

-- the kind of an ID
abbrev pub id_kind : Bool → TokenKind
id_kind true = Html
id_kind false = Name

-- a token with this mark
abbrev pub marked_token : Mark → DotToken
marked_token (IdMark id) = record { line = id.line; kind = Ok (id_kind id.is_html); text = id.text }
marked_token (SignMark sign) = record { line = 0; kind = Ok sign; text = [] }
marked_token FaultMark = record { line = 0; kind = Err NotUtf8; text = [] }

-- the tokens that such a token of each mark makes
abbrev pub marked_tokens : List Mark → List DotToken
marked_tokens marks = map marked_token marks

-- ---- any token

pub no_ok : {A E : Type 0} (bad : E) (x : A) → Err bad ≡ Ok x → ⊥
no_ok bad x h = cc

pub bind_ok : {A B E : Type 0} (r : Result A E) (next : A → Result B E) (y : B) → and_then r next ≡ Ok y → (x : A) × (r ≡ Ok x) × (next x ≡ Ok y)
bind_ok (Ok x) next y h = (x, refl, h)
bind_ok (Err bad) next y h = absurd (no_ok bad y h)

pub line_ok : {A : Type 0} (line : ℕ) (r : Result A DotLineFault) (x : A) → at_line line r ≡ Ok x → r ≡ Ok x
line_ok line (Ok y) x h = cc
line_ok line (Err bad) x h = absurd (no_ok (BadLine line bad) x h)

pub quoted_turn : (p : Place) (undirected : Bool) (s : State) (text : List ℕ) (a : List DotToken) (n : State × Act) → turn_at p undirected s Name text a ≡ Ok n → turn_at p undirected s Quoted text a ≡ Ok n
quoted_turn stands.Start undirected s text a n h = absurd (no_ok _ n h)
quoted_turn stands.Strict undirected s text a n h = absurd (no_ok _ n h)
quoted_turn stands.Titled undirected s text a n h = absurd (no_ok _ n h)
quoted_turn stands.SubgraphTitled undirected s text a n h = absurd (no_ok _ n h)
quoted_turn stands.Key undirected s text a n h = absurd (no_ok _ n h)
quoted_turn stands.Brackets undirected s text a n h = absurd (no_ok _ n h)
quoted_turn stands.ListKey undirected s text a n h = absurd (no_ok _ n h)
quoted_turn stands.Over undirected s text a n h = absurd (no_ok _ n h)
quoted_turn stands.Finish undirected s text a n h = absurd (no_ok _ n h)
quoted_turn p undirected s text a n h = h

pub quoted_said : (factor : Option ℕ) (act : Act) (text : List ℕ) (line : ℕ) → said factor act Name text line ≡ said factor act Quoted text line
quoted_said factor does.Pass text line = refl
quoted_said factor does.Begin text line = refl
quoted_said factor does.More text line = refl
quoted_said factor does.Weigh text line = refl

pub quoted_told : (p : Place) (undirected : Bool) (factor : Option ℕ) (s : State) (text : List ℕ) (line : ℕ) (a : List DotToken) (x : State × DotEvent) → told factor Name text line (turn_at p undirected s Name text a) ≡ Ok x → told factor Quoted text line (turn_at p undirected s Quoted text a) ≡ Ok x
quoted_told p undirected factor s text line a x h =
    (let found = bind_ok (turn_at p undirected s Name text a) (λ n. and_then (said factor n.1 Name text line) (λ e. Ok (n.0, e))) x h in
    rw (quoted_turn p undirected s text a found.0 found.1) (rw (← quoted_said factor found.0.1 text line) found.2))

-- tokens that are alike to the grammar
pub token_marked : (undirected : Bool) (factor : Option ℕ) (s : State) (a b : List DotToken) (line : ℕ) (k : Result TokenKind DotLineFault) (text : List ℕ) (x : State × DotEvent) → Same a b
    → token_turn undirected factor s (marked_token (mark_in line k text)) a ≡ Ok x → token_turn undirected factor s (record { line = line; kind = k; text = text }) b ≡ Ok x
token_marked undirected factor s a b line (Ok Name) text x e h = sym (ap (told factor Name text line) (turn_ahead s.place undirected s Name text a b e)) ∙ h
token_marked undirected factor s a b line (Ok Html) text x e h = sym (ap (told factor Html text line) (turn_ahead s.place undirected s Html text a b e)) ∙ h
token_marked undirected factor s a b line (Ok Quoted) text x e h =
    quoted_told s.place undirected factor s text line b x (sym (ap (told factor Name text line) (turn_ahead s.place undirected s Name text a b e)) ∙ h)
token_marked undirected factor s a b line (Ok k) text x e h =
    sym (sign_told factor k [] text 0 line (turn_at s.place undirected s k [] a) (turn_at s.place undirected s k text b)
    (turn_ahead s.place undirected s k [] a b e ∙ turn_text s.place undirected s k [] text b tt) (quiet_turn s.place undirected s k text b tt)) ∙ h
token_marked undirected factor s a b line (Err bad) text x e h = absurd (no_ok _ x h)

pub marked_assign : (line : ℕ) (k : Result TokenKind DotLineFault) (text : List ℕ) → is_assign (marked_token (mark_in line k text)).kind ≡ is_assign k
marked_assign line (Ok Name) text = refl
marked_assign line (Ok Quoted) text = refl
marked_assign line (Ok Html) text = refl
marked_assign line (Ok k) text = refl
marked_assign line (Err bad) text = refl

pub marked_ahead : (ts : List DotToken) → Same (marked_tokens (map mark_of ts)) ts
marked_ahead [] = refl
marked_ahead (t ∷ ts) = marked_assign t.line t.kind t.text

-- what is built from tokens of the same marks
pub build_marked : (undirected : Bool) (factor : Option ℕ) (ts : List DotToken) (b : Built) (s : State) (g : DotGraph) → build undirected factor b s (marked_tokens (map mark_of ts)) ≡ Ok g → build undirected factor b s ts ≡ Ok g
build_marked undirected factor [] b s g h = h
build_marked undirected factor (t ∷ ts) b s g h =
    (let found = bind_ok _ (λ n. build undirected factor (built_with (unsaid_weight factor) b n.1) n.0 (marked_tokens (map mark_of ts))) g h in
    let turn = line_ok _ _ found.0 found.1 in
    let same = token_marked undirected factor s (marked_tokens (map mark_of ts)) ts t.line t.kind t.text found.0 (marked_ahead ts) turn in
    rw same (build_marked undirected factor ts (built_with (unsaid_weight factor) b found.0.1) found.0.0 g found.2))

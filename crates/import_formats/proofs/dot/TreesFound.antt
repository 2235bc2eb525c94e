-- A text that is read is the spelling of a tree.
use Rattle.std.proofs.Common.{◌≡◌, ℕ, Bool, true, List, [], ◌∷◌, map, refl, sym, ap, ◌∙◌, Option, Result, Ok, Err, if◌then◌else◌, subst, IsOk}
use Rattle.std.proofs.lemmas.Bool.{false≢true}
use Rattle.std.specs.Option.{unwrap_or}
use Rattle.std.specs.Result.{result_err}
use Rattle.import_formats.specs.declared.dot.token_kind.TokenKind.{TokenKind}
use Rattle.import_formats.specs.declared.dot.token_kind.TokenKind.TheVariants.{Strict, End}
use Rattle.import_formats.specs.declared.dot.fault.DotLineFault.{DotLineFault}
use Rattle.import_formats.specs.declared.dot.fault.DotFault.TheVariants.{BadLine, Memory}
use Rattle.import_formats.specs.declared.dot.state.Place.{Place}
use Rattle.import_formats.specs.declared.dot.state.Place.TheVariants as stands
use Rattle.import_formats.specs.declared.dot.state.Act.{Act}
use Rattle.import_formats.specs.declared.dot.state.State.{State}
use Rattle.import_formats.specs.declared.dot.fault.DotFault.{DotFault}
use Rattle.import_formats.specs.dot.Lexing.{DotToken}
use Rattle.import_formats.specs.dot.Tokens.{tokens_of}
use Rattle.import_formats.specs.dot.Grammar.{Turn, turn_at}
use Rattle.import_formats.specs.dot.Graphs.{DotEvent, DotGraph, and_then, at_line, said, token_turn, start, events_from, graph_in}
use Rattle.import_formats.specs.dot.Reading.{read_graph}
use Rattle.import_formats.specs.dot.Meaning.{meaning, IsTree, Spells}
use Rattle.import_formats.specs.dot.Syntax.{Mark, SignMark, mark_in, mark_of, DotTree, name_marks, graph_sign, tree_marks}
use Rattle.import_formats.proofs.dot.SignTurns.{told}
use Rattle.import_formats.proofs.dot.TreesRead.{tree_read}
use Rattle.import_formats.proofs.dot.Needs.{After, Needs, StartAt}
use Rattle.import_formats.proofs.dot.TurnsFound.{turn_found}
use Rattle.import_formats.proofs.dot.TokensRead.{lexemes_told}
use Rattle.import_formats.proofs.dot.TextsLexed.{Read, events_ok, read_lexes}
use Rattle.import_formats.proofs.dot.LastTokens.{Ended, IsLast, tokens_ended}

-- ---- all tokens

-- the text's end is read at the graph's end alone
abbrev pub Finishes : Turn → Type 0
Finishes (Ok n) = n.0.place ≡ stands.Finish
Finishes (Err bad) = Unit {0}

pub end_turn : (p : Place) (undirected : Bool) (s : State) (text : List ℕ) (a : List DotToken) → Finishes (turn_at p undirected s End text a)
end_turn stands.Over undirected s text a = refl
end_turn p undirected s text a = tt

abbrev pub read_behind : Bool → Option ℕ → ℕ → List DotToken → Result (State × DotEvent) DotLineFault → Result (List DotEvent) DotFault
read_behind undirected factor line ts r = and_then (at_line line r) (λ n. and_then (events_from undirected factor n.0 ts) (λ es. Ok (n.1 ∷ es)))

pub said_found : (undirected : Bool) (factor : Option ℕ) (next : State) (line : ℕ) (ts : List DotToken) (e : Result DotEvent DotLineFault) → IsOk (read_behind undirected factor line ts (and_then e (λ x. Ok (next, x)))) → IsOk e × Read undirected factor next ts
said_found undirected factor next line ts (Ok e) is = (refl, events_ok e (events_from undirected factor next ts) is)
said_found undirected factor next line ts (Err bad) is = absurd (false≢true is)

pub after_found : (undirected : Bool) (factor : Option ℕ) (k : TokenKind) (text : List ℕ) (line : ℕ) (ts : List DotToken) (turn : Turn) → IsOk (read_behind undirected factor line ts (told factor k text line turn))
    → ((next : State) (act : Act) → turn ≡ Ok (next, act) → Read undirected factor next ts → Needs undirected factor next.place next (map mark_of ts)) → After undirected factor k text line (map mark_of ts) turn
after_found undirected factor k text line ts (Ok n) is needs = (let found = said_found undirected factor n.0 line ts (said factor n.1 k text line) is in (found.0, needs n.0 n.1 refl found.1))
after_found undirected factor k text line ts (Err bad) is needs = absurd (false≢true is)

pub finished : (undirected : Bool) (factor : Option ℕ) (turn : Turn) (next : State) (act : Act) → Finishes turn → turn ≡ Ok (next, act) → Needs undirected factor next.place next []
finished undirected factor turn next act ends is = (let at_end : next.place ≡ stands.Finish = subst Finishes is ends in subst (λ p. Needs undirected factor p next []) (sym at_end) refl)

pub last_found : (undirected : Bool) (factor : Option ℕ) (s : State) (line : ℕ) (k : Result TokenKind DotLineFault) (text : List ℕ) → IsLast k → Read undirected factor s (record { line = line; kind = k; text = text } ∷ []) → Needs undirected factor s.place s (mark_in line k text ∷ [])
last_found undirected factor s line (Ok End) text last is =
    turn_found undirected factor s.place s [] End text line [] (after_found undirected factor End text line [] (turn_at s.place undirected s End text []) is
    (λ next act same read. finished undirected factor (turn_at s.place undirected s End text []) next act (end_turn s.place undirected s text []) same))
last_found undirected factor s line (Ok k) text last is = absurd last
last_found undirected factor s line (Err bad) text last is = absurd (false≢true is)

pub more_found : (undirected : Bool) (factor : Option ℕ) (s : State) (line : ℕ) (k : Result TokenKind DotLineFault) (text : List ℕ) (ts : List DotToken) → Read undirected factor s (record { line = line; kind = k; text = text } ∷ ts)
    → ((next : State) → Read undirected factor next ts → Needs undirected factor next.place next (map mark_of ts)) → Needs undirected factor s.place s (mark_in line k text ∷ map mark_of ts)
more_found undirected factor s line (Ok k) text ts is needs =
    turn_found undirected factor s.place s ts k text line (map mark_of ts) (after_found undirected factor k text line ts (turn_at s.place undirected s k text ts) is (λ next act same read. needs next read))
more_found undirected factor s line (Err bad) text ts is needs = absurd (false≢true is)

pub tokens_found : (undirected : Bool) (factor : Option ℕ) (ts : List DotToken) (s : State) → Ended ts → Read undirected factor s ts → Needs undirected factor s.place s (map mark_of ts)
tokens_found undirected factor [] s ended is = absurd ended
tokens_found undirected factor (t ∷ []) s ended is = last_found undirected factor s t.line t.kind t.text ended is
tokens_found undirected factor (t ∷ next ∷ ts) s ended is = more_found undirected factor s t.line t.kind t.text (next ∷ ts) is (λ later read. tokens_found undirected factor (next ∷ ts) later ended read)

-- ---- the tree

pub same_ok : {A E : Type 0} (r : Result A E) (x y : A) → r ≡ Ok x → r ≡ Ok y → x ≡ y
same_ok r x y first second = cc

pub graph_ok : (factor : Option ℕ) (read : Result (List DotEvent) DotFault) (g : DotGraph) → and_then read (λ es. Ok (graph_in factor es)) ≡ Ok g → IsOk read
graph_ok factor (Ok es) g is = refl
graph_ok factor (Err bad) g is = cc

pub tree_of : (undirected : Bool) (factor : Option ℕ) (ms : List Mark) → StartAt undirected factor ms → (tree : DotTree) × IsTree undirected factor tree × (ms ≡ tree_marks tree)
tree_of undirected factor ms s =
    (let k = s.kind in
    let t = k.title in
    let w = t.whole in (
      record { strict = s.strict; directed = k.directed; name = t.name; statements = w.statements },
      record { kind = k.taken; depth = w.deep; statements = w.are },
      s.spelled ∙ ap (λ x. if s.strict then SignMark Strict ∷ x else x) (k.spelled ∙ ap (λ x. SignMark (graph_sign k.directed) ∷ x) (t.spelled ∙ ap (name_marks t.name) w.spelled)),
    ))

-- a text that is read spells a tree, and its graph is what the tree means
pub tree_found : (undirected : Bool) (factor : Option ℕ) (text : List ℕ) (g : DotGraph) → read_graph undirected factor text ≡ Ok g → (tree : DotTree) × Spells undirected factor text tree × (g ≡ meaning factor tree)
tree_found undirected factor text g is =
    (let read = graph_ok factor (events_from undirected factor start (tokens_of text)) g is in
    let found = tree_of undirected factor (map mark_of (tokens_of text)) (tokens_found undirected factor (tokens_of text) start (tokens_ended text 0 true 1) read refl) in
    let lexed = read_lexes undirected factor text read in
    let spells : Spells undirected factor text found.0 = record { tree = found.1; lexemes = lexed.0; lexes = lexed.1; marks = sym (ap (map mark_of) (lexemes_told text lexed.0 lexed.1)) ∙ found.2 } in
    let means = tree_read undirected factor text found.0 spells in
    (found.0, spells, same_ok (read_graph undirected factor text) g (meaning factor found.0) is means))

-- ---- a text without a fault

abbrev pub IsLineFault : DotFault → Type 0
IsLineFault (BadLine line bad) = Unit {0}
IsLineFault Memory = ⊥

-- a fault is that of a line
abbrev pub HasLine : {A : Type 0} → Result A DotFault → Type 0
HasLine (Ok x) = Unit {0}
HasLine (Err bad) = IsLineFault bad

pub has_line : {A : Type 0} (line : ℕ) (r : Result A DotLineFault) → HasLine (at_line line r)
has_line line (Ok x) = tt
has_line line (Err bad) = tt

pub line_then : {A B : Type 0} (r : Result A DotFault) (next : A → Result B DotFault) → HasLine r → ((x : A) → HasLine (next x)) → HasLine (and_then r next)
line_then (Ok x) next has each = each x
line_then (Err bad) next has each = has

pub events_line : (undirected : Bool) (factor : Option ℕ) (ts : List DotToken) (s : State) → HasLine (events_from undirected factor s ts)
events_line undirected factor [] s = tt
events_line undirected factor (t ∷ ts) s =
    line_then (at_line t.line (token_turn undirected factor s t ts)) (λ n. and_then (events_from undirected factor n.0 ts) (λ es. Ok (n.1 ∷ es))) (has_line t.line (token_turn undirected factor s t ts))
    (λ n. line_then (events_from undirected factor n.0 ts) (λ es. Ok (n.1 ∷ es)) (events_line undirected factor ts n.0) (λ es. tt))

pub no_fault : (undirected : Bool) (factor : Option ℕ) (text : List ℕ) (r : Result DotGraph DotFault) → read_graph undirected factor text ≡ r → HasLine r → unwrap_or (result_err r) Memory ≡ Memory → (tree : DotTree) × Spells undirected factor text tree
no_fault undirected factor text (Ok g) is has none = (let found = tree_found undirected factor text g is in (found.0, found.1))
no_fault undirected factor text (Err bad) is has none = absurd (subst IsLineFault none has)

-- a text that has no fault spells a tree
pub tree_faultless : (undirected : Bool) (factor : Option ℕ) (text : List ℕ) → unwrap_or (result_err (read_graph undirected factor text)) Memory ≡ Memory → (tree : DotTree) × Spells undirected factor text tree
tree_faultless undirected factor text none =
    no_fault undirected factor text (read_graph undirected factor text) refl (line_then (events_from undirected factor start (tokens_of text)) (λ es. Ok (graph_in factor es)) (events_line undirected factor (tokens_of text) start) (λ es. tt)) none

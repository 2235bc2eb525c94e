-- The graph that the tokens of a text say.
use Rattle.std.specs.Prelude.{◌≡◌, ◌≢◌, ℕ, ◌==◌, Bool, true, false, ◌||◌, List, [], ◌∷◌, ◌++◌, map, nat_lt, MatchResult, Option, Some, None, Result, Ok, Err, if◌then◌else◌}
use Rattle.std.specs.List.{All, Contains, list_any}
use Rattle.import_lines.specs.declared.weight_fault.WeightFault.{WeightFault}
use Rattle.import_lines.specs.declared.weight.Weight.{Weight}
use Rattle.import_lines.specs.Weights.{weight_of}
use Rattle.import_lines.specs.Named.{NamedEdge}
use Rattle.import_formats.specs.declared.dot.token_kind.TokenKind.{TokenKind}
use Rattle.import_formats.specs.declared.dot.token_kind.TokenKind.TheVariants.{Html}
use Rattle.import_formats.specs.declared.dot.fault.DotLineFault.{DotLineFault}
use Rattle.import_formats.specs.declared.dot.fault.DotLineFault.TheVariants as fault
use Rattle.import_formats.specs.declared.dot.fault.DotFault.{DotFault}
use Rattle.import_formats.specs.declared.dot.fault.DotFault.TheVariants.{BadLine, Memory}
use Rattle.import_formats.specs.declared.dot.state.Place.TheVariants as stands
use Rattle.import_formats.specs.declared.dot.state.Owner.TheVariants as whose
use Rattle.import_formats.specs.declared.dot.state.Act.{Act}
use Rattle.import_formats.specs.declared.dot.state.Act.TheVariants.{Pass, Begin, More, Weigh}
use Rattle.import_formats.specs.declared.dot.state.State.{State}
use Rattle.import_formats.specs.dot.Lexing.{DotToken, HasTokens}
use Rattle.import_formats.specs.dot.Grammar.{turn_at}

-- the next step, at the value of a step that succeeds
abbrev pub and_then : {A B E : Type 0} → Result A E → (A → Result B E) → Result B E
and_then (Ok x) next = next x
and_then (Err fault) next = Err fault

-- a node that is named: the bytes of its name, and the line where that stands
pub record DotMention : Type 0 where
  pub name : List ℕ
  pub line : ℕ

-- what a token says: nothing, the first node of a statement, the next node of its chain, or the weight of its edges
pub data DotEvent : Type 0 where
  NoEvent : DotEvent
  BeginsEvent : (mention : DotMention) → DotEvent
  JoinsEvent : (mention : DotMention) → DotEvent
  WeighsEvent : (weight : Weight) → DotEvent

-- ---- names and weights

-- a backslash
abbrev pub is_backslash : ℕ → Bool
is_backslash b = b == 92

-- a control character
abbrev pub is_control : ℕ → Bool
is_control b = nat_lt b 32 || b == 127

-- a node's name without backslashes and control characters
abbrev pub plain_name : List ℕ → ℕ → Result DotMention DotLineFault
plain_name text line =
    if list_any is_backslash text then Err fault.Escape
    else if list_any is_control text then Err fault.ControlCharacter
    else Ok (record { name = text; line = line })

-- a node that a token names
abbrev pub mention_in : TokenKind → List ℕ → ℕ → Result DotMention DotLineFault
mention_in Html text line = Err fault.HtmlName
mention_in kind text line = plain_name text line

-- a weight that is said
abbrev pub weighed : Result Weight WeightFault → Result DotEvent DotLineFault
weighed (Ok weight) = Ok (WeighsEvent weight)
weighed (Err bad) = Err (fault.Weight bad)

-- what a token says by what it does
abbrev pub said : Option ℕ → Act → TokenKind → List ℕ → ℕ → Result DotEvent DotLineFault
said factor Pass kind text line = Ok NoEvent
said factor Begin kind text line = and_then (mention_in kind text line) (λ mention. Ok (BeginsEvent mention))
said factor More kind text line = and_then (mention_in kind text line) (λ mention. Ok (JoinsEvent mention))
said factor Weigh kind text line = weighed (weight_of factor text)

-- ---- what the tokens say, one after another

-- a fault beside its line
abbrev pub at_line : {A : Type 0} → ℕ → Result A DotLineFault → Result A DotFault
at_line line (Ok x) = Ok x
at_line line (Err bad) = Err (BadLine line bad)

-- the state after a token, and what the token says; or its fault
abbrev pub token_turn : Bool → Option ℕ → State → DotToken → List DotToken → Result (State × DotEvent) DotLineFault
token_turn undirected factor s t ahead =
    and_then t.kind (λ kind.
    and_then (turn_at s.place undirected s kind t.text ahead) (λ n.
    and_then (said factor n.1 kind t.text t.line) (λ e.
    Ok (n.0, e))))

-- what the tokens say from a state on; or the first token's fault
abbrev pub events_from : Bool → Option ℕ → State → List DotToken → Result (List DotEvent) DotFault
events_from undirected factor s [] = Ok []
events_from undirected factor s (t ∷ ts) =
    and_then (at_line t.line (token_turn undirected factor s t ts)) (λ n.
    and_then (events_from undirected factor n.0 ts) (λ es.
    Ok (n.1 ∷ es)))

-- at a text's start
abbrev pub start : State
start = record { place = stands.Start; depth = 0; directed = false; owner = whose.Other; weighs = false }

-- ---- the graph

-- the nodes that are named
abbrev pub mentions : List DotEvent → List DotMention
mentions [] = []
mentions (NoEvent ∷ es) = mentions es
mentions (BeginsEvent m ∷ es) = m ∷ mentions es
mentions (JoinsEvent m ∷ es) = m ∷ mentions es
mentions (WeighsEvent w ∷ es) = mentions es

-- the edges between each node of a chain and the next. An edge stands where its first end does
abbrev pub chain : Weight → List DotMention → List NamedEdge
chain w [] = []
chain w (a ∷ []) = []
chain w (a ∷ b ∷ ms) = record { first = a.name; second = b.name; weight = w.value; exact = w.exact; line = a.line } ∷ chain w (b ∷ ms)

-- the edges of statements. A statement that is begun has these nodes so far, and this weight, which is the one that is
-- said last in it; unsaid is the weight where none is said
abbrev pub edges_in : Weight → Weight → List DotMention → List DotEvent → List NamedEdge
edges_in unsaid w ends [] = chain w ends
edges_in unsaid w ends (NoEvent ∷ es) = edges_in unsaid w ends es
edges_in unsaid w ends (BeginsEvent m ∷ es) = chain w ends ++ edges_in unsaid unsaid (m ∷ []) es
edges_in unsaid w ends (JoinsEvent m ∷ es) = edges_in unsaid w (ends ++ m ∷ []) es
edges_in unsaid w ends (WeighsEvent v ∷ es) = edges_in unsaid v ends es

-- the weight where none is said: 1 times the factor
abbrev pub unsaid_weight : Option ℕ → Weight
unsaid_weight None = record { value = 1; exact = true }
unsaid_weight (Some factor) = record { value = factor; exact = true }

-- a graph: each node that is named, as often as it is, and the edges, in the order of the text
pub record DotGraph : Type 0 where
  pub nodes : List DotMention
  pub edges : List NamedEdge

abbrev pub graph_in : Option ℕ → List DotEvent → DotGraph
graph_in factor es = record { nodes = mentions es; edges = edges_in (unsaid_weight factor) (unsaid_weight factor) [] es }

-- the graph of the tokens of a text, or the first fault
abbrev pub graph_of : Bool → Option ℕ → List DotToken → Result DotGraph DotFault
graph_of undirected factor tokens = and_then (events_from undirected factor start tokens) (λ es. Ok (graph_in factor es))

-- what a text says: the graph of its tokens, or its first fault
pub record Says (undirected : Bool) (factor : Option ℕ) (text : List ℕ) (said : Result DotGraph DotFault) : Type 0 where
  pub tokens : List DotToken
  pub are : HasTokens text tokens
  pub graph : said ≡ graph_of undirected factor tokens

-- the names of nodes
abbrev pub names : List DotMention → List (List ℕ)
names ms = map (λ m. m.name) ms

-- both ends of an edge have one of these names
abbrev pub HasEnds : List (List ℕ) → NamedEdge → Type 0
HasEnds ns e = Contains ns e.first × Contains ns e.second

-- each edge of a graph joins nodes of the graph
abbrev pub AreNamed : DotGraph → Type 0
AreNamed g = All (HasEnds (names g.nodes)) g.edges

-- what was returned, seen by view, is the defined result, or stands for running out of memory
abbrev pub IsAnswer : {A B : Type 0} → (B → A) → Result A DotFault → Result B DotFault → Type 0
IsAnswer view defined r = MatchResult r (λ x. defined ≡ Ok (view x)) (λ bad. bad ≢ Memory → defined ≡ Err bad)

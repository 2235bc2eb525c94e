-- A graph as it is built from tokens, one after another.
use Rattle.std.proofs.Common.{◌≡◌, ℕ, Bool, List, [], ◌∷◌, ◌++◌, refl, sym, ap, ap₂, ◌∙◌, append_assoc, append-nil, Option, Result, Ok, Err}
use Rattle.import_lines.specs.declared.weight.Weight.{Weight}
use Rattle.import_lines.specs.Named.{NamedEdge}
use Rattle.import_formats.specs.declared.dot.fault.DotFault.{DotFault}
use Rattle.import_formats.specs.declared.dot.state.State.{State}
use Rattle.import_formats.specs.dot.Lexing.{DotToken}
use Rattle.import_formats.specs.dot.Tokens.{tokens_of}
use Rattle.import_formats.specs.dot.Graphs.{DotMention, DotEvent, NoEvent, BeginsEvent, JoinsEvent, WeighsEvent, DotGraph, and_then, at_line, token_turn, events_from, start, mentions, chain, edges_in, unsaid_weight}
use Rattle.import_formats.specs.dot.Reading.{read_graph}

-- what is built so far: nodes and edges, and of the statement that is begun its nodes and its weight
pub record Built : Type 0 where
  pub nodes : List DotMention
  pub edges : List NamedEdge
  pub ends : List DotMention
  pub weight : Weight

abbrev pub built_with : Weight → Built → DotEvent → Built
built_with unsaid b NoEvent = b
built_with unsaid b (BeginsEvent m) = record { nodes = b.nodes ++ m ∷ []; edges = b.edges ++ chain b.weight b.ends; ends = m ∷ []; weight = unsaid }
built_with unsaid b (JoinsEvent m) = record { nodes = b.nodes ++ m ∷ []; edges = b.edges; ends = b.ends ++ m ∷ []; weight = b.weight }
built_with unsaid b (WeighsEvent w) = record { nodes = b.nodes; edges = b.edges; ends = b.ends; weight = w }

abbrev pub graph_built : Built → DotGraph
graph_built b = record { nodes = b.nodes; edges = b.edges ++ chain b.weight b.ends }

-- the graph, with what these tokens say
abbrev pub build : Bool → Option ℕ → Built → State → List DotToken → Result DotGraph DotFault
build undirected factor b s [] = Ok (graph_built b)
build undirected factor b s (t ∷ ts) =
    and_then (at_line t.line (token_turn undirected factor s t ts)) (λ n. build undirected factor (built_with (unsaid_weight factor) b n.1) n.0 ts)

abbrev pub none_built : Option ℕ → Built
none_built factor = record { nodes = []; edges = []; ends = []; weight = unsaid_weight factor }

graph_behind : Weight → Built → List DotEvent → DotGraph
graph_behind unsaid b es = record { nodes = b.nodes ++ mentions es; edges = b.edges ++ edges_in unsaid b.weight b.ends es }

graph_more : (unsaid : Weight) (b : Built) (e : DotEvent) (es : List DotEvent) → graph_behind unsaid (built_with unsaid b e) es ≡ graph_behind unsaid b (e ∷ es)
unfolding graph_behind
graph_more unsaid b NoEvent es = refl
graph_more unsaid b (BeginsEvent m) es =
    ap₂ (λ (ns : List DotMention) (xs : List NamedEdge). record { nodes = ns; edges = xs })
    (append_assoc b.nodes (m ∷ []) (mentions es)) (append_assoc b.edges (chain b.weight b.ends) (edges_in unsaid unsaid (m ∷ []) es))
graph_more unsaid b (JoinsEvent m) es =
    ap (λ (ns : List DotMention). record { nodes = ns; edges = b.edges ++ edges_in unsaid b.weight (b.ends ++ m ∷ []) es }) (append_assoc b.nodes (m ∷ []) (mentions es))
graph_more unsaid b (WeighsEvent w) es = refl

behind_more : (unsaid : Weight) (b : Built) (e : DotEvent) (read : Result (List DotEvent) DotFault) → and_then read (λ es. Ok (graph_behind unsaid (built_with unsaid b e) es)) ≡ and_then (and_then read (λ es. Ok (e ∷ es))) (λ es. Ok (graph_behind unsaid b es))
behind_more unsaid b e (Ok es) = ap Ok (graph_more unsaid b e es)
behind_more unsaid b e (Err bad) = refl

build_turn : (undirected : Bool) (factor : Option ℕ) (b : Built) (ts : List DotToken) (told : Result (State × DotEvent) DotFault)
    → ((c : Built) (s : State) → build undirected factor c s ts ≡ and_then (events_from undirected factor s ts) (λ es. Ok (graph_behind (unsaid_weight factor) c es)))
    → and_then told (λ n. build undirected factor (built_with (unsaid_weight factor) b n.1) n.0 ts)
    ≡ and_then (and_then told (λ n. and_then (events_from undirected factor n.0 ts) (λ es. Ok (n.1 ∷ es)))) (λ es. Ok (graph_behind (unsaid_weight factor) b es))
build_turn undirected factor b ts (Ok n) more =
    more (built_with (unsaid_weight factor) b n.1) n.0 ∙ behind_more (unsaid_weight factor) b n.1 (events_from undirected factor n.0 ts)
build_turn undirected factor b ts (Err bad) more = refl

build_behind : (undirected : Bool) (factor : Option ℕ) (b : Built) (s : State) (ts : List DotToken) → build undirected factor b s ts ≡ and_then (events_from undirected factor s ts) (λ es. Ok (graph_behind (unsaid_weight factor) b es))
unfolding graph_behind
build_behind undirected factor b s [] = ap (λ (ns : List DotMention). Ok (record { nodes = ns; edges = b.edges ++ chain b.weight b.ends })) (sym (append-nil b.nodes))
build_behind undirected factor b s (t ∷ ts) =
    build_turn undirected factor b ts (at_line t.line (token_turn undirected factor s t ts)) (λ c s. build_behind undirected factor c s ts)

-- the graph of a text is what is built from its tokens
pub graph_of_build : (undirected : Bool) (factor : Option ℕ) (text : List ℕ) → read_graph undirected factor text ≡ build undirected factor (none_built factor) start (tokens_of text)
unfolding graph_behind
graph_of_build undirected factor text = sym (build_behind undirected factor (none_built factor) start (tokens_of text))

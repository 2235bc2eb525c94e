-- Statements are read, and give their nodes and edges.
use Rattle.std.proofs.Common.{◌≡◌, ℕ, Bool, true, false, List, [], ◌∷◌, map, refl, sym, ap, ◌∙◌, Option, Result, ◌++◌, ap₂, append_assoc, append-nil}
use Rattle.import_lines.specs.declared.weight.Weight.{Weight}
use Rattle.import_lines.specs.Named.{NamedEdge}
use Rattle.import_formats.specs.declared.dot.token_kind.TokenKind.{TokenKind}
use Rattle.import_formats.specs.declared.dot.token_kind.TokenKind.TheVariants.{Graph, Node, Edge, BraceClose, Assign}
use Rattle.import_formats.specs.declared.dot.state.Place.TheVariants as stands
use Rattle.import_formats.specs.declared.dot.token_kind.TokenKind.TheVariants as kind
use Rattle.import_formats.specs.declared.dot.fault.DotFault.{DotFault}
use Rattle.import_formats.specs.declared.dot.state.Owner.{Owner}
use Rattle.import_formats.specs.declared.dot.state.Owner.TheVariants as whose
use Rattle.import_formats.specs.dot.Grammar.{assigns}
use Rattle.import_formats.specs.dot.Graphs.{DotGraph, unsaid_weight, DotMention, BeginsEvent, chain}
use Rattle.import_formats.specs.dot.Meaning.{node_of, weights_said, last_weight, statement_nodes, statement_edges, IsStatement}
use Rattle.import_formats.specs.dot.Syntax.{Mark, IdMark, SignMark, DotId, Attribute, Port, NoPort, OnePort, TwoPorts, NodeId, GraphDefault, NodeDefault, EdgeDefault, Statement, NodeStatement, EdgeStatement, DefaultStatement, SettingStatement, SubgraphHead, NoHead, WordHead, NamedHead, Statements, NoStatement, OneStatement, OneSubgraph, list_marks, port_marks, joined_marks, statement_marks, head_marks, semicolon_marks, statements_marks}
use Rattle.import_formats.proofs.dot.Building.{Built, built_with, graph_built}
use Rattle.import_formats.proofs.dot.Marked.{id_kind, marked_tokens}
use Rattle.import_formats.proofs.dot.Starts.{AtClosed, AtDone, AtListed, AtNode, AtPorted, AtSided, Behind, Fresh, IsFirst, Later, Ready, at, behind, behind_place, go, ready_place, ready_turn}
use Rattle.import_formats.proofs.dot.NodesRead.{all_joined, any_setting, first_named, join_read, joined_read, joined_with, name_begins, name_turn, port_place, port_read}
use Rattle.import_formats.proofs.dot.AttributesRead.{lists_read, node_lists_read, reweighed}

-- ---- no = stands in front

abbrev pub NotSet : List Mark → Type 0
NotSet ms = assigns (marked_tokens ms) ≡ false

pub id_ahead : (id : DotId) (html : Bool) (ms : List Mark) → id.is_html ≡ html → NotSet (IdMark id ∷ ms)
id_ahead id true ms is = rw is refl
id_ahead id false ms is = rw is refl

pub lists_ahead : (lists : List (List Attribute)) (ms : List Mark) → NotSet ms → NotSet (list_marks lists ms)
lists_ahead [] ms free = free
lists_ahead (attributes ∷ lists) ms free = refl

pub port_ahead : (port : Port) (ms : List Mark) → NotSet ms → NotSet (port_marks port ms)
port_ahead NoPort ms free = free
port_ahead (OnePort p) ms free = refl
port_ahead (TwoPorts p q) ms free = refl

pub joined_ahead : (directed : Bool) (n : NodeId) (nodes : List NodeId) (ms : List Mark) → NotSet (joined_marks directed (n ∷ nodes) ms)
joined_ahead true n nodes ms = refl
joined_ahead false n nodes ms = refl

pub statement_ahead : (directed : Bool) (statement : Statement) (ms : List Mark) → NotSet (statement_marks directed statement ms)
statement_ahead directed (NodeStatement node lists) ms = id_ahead node.name node.name.is_html (port_marks node.port (list_marks lists ms)) refl
statement_ahead directed (EdgeStatement first second others lists) ms = id_ahead first.name first.name.is_html (port_marks first.port (joined_marks directed (second ∷ others) (list_marks lists ms))) refl
statement_ahead directed (DefaultStatement GraphDefault first lists) ms = refl
statement_ahead directed (DefaultStatement NodeDefault first lists) ms = refl
statement_ahead directed (DefaultStatement EdgeDefault first lists) ms = refl
statement_ahead directed (SettingStatement name value) ms = id_ahead name name.is_html (SignMark kind.Assign ∷ IdMark value ∷ ms) refl

pub head_ahead : (head : SubgraphHead) (ms : List Mark) → NotSet (head_marks head ms)
head_ahead NoHead ms = refl
head_ahead WordHead ms = refl
head_ahead (NamedHead name) ms = refl

pub statements_ahead : (directed : Bool) (statements : Statements) (ms : List Mark) → NotSet ms → NotSet (statements_marks directed statements ms)
statements_ahead directed NoStatement ms free = free
statements_ahead directed (OneStatement statement semicolon more) ms free = statement_ahead directed statement (semicolon_marks semicolon (statements_marks directed more ms))
statements_ahead directed (OneSubgraph head body semicolon more) ms free =
    head_ahead head (statements_marks directed body (SignMark kind.BraceClose ∷ semicolon_marks semicolon (statements_marks directed more ms)))

pub semicolon_ahead : (semicolon : Bool) (ms : List Mark) → NotSet ms → NotSet (semicolon_marks semicolon ms)
semicolon_ahead true ms free = refl
semicolon_ahead false ms free = free

-- ---- statements

abbrev pub plus : DotGraph → List DotMention → List NamedEdge → DotGraph
plus g nodes edges = record { nodes = g.nodes ++ nodes; edges = g.edges ++ edges }

abbrev pub graph_with : List DotMention → List NamedEdge → DotGraph
graph_with nodes edges = record { nodes = nodes; edges = edges }

pub plus_none : (g : DotGraph) → g ≡ plus g [] []
plus_none g = ap₂ graph_with (sym (append-nil g.nodes)) (sym (append-nil g.edges))

pub plus_plus : (g : DotGraph) (m n : List DotMention) (x y : List NamedEdge) → plus (plus g m x) n y ≡ plus g (m ++ n) (x ++ y)
plus_plus g m n x y = ap₂ graph_with (append_assoc g.nodes m n) (append_assoc g.edges x y)

pub all_joined_is : (unsaid : Weight) (b : Built) (nodes : List NodeId) → all_joined unsaid b nodes ≡ record { nodes = b.nodes ++ map node_of nodes; edges = b.edges; ends = b.ends ++ map node_of nodes; weight = b.weight }
all_joined_is unsaid b [] = ap₂ (λ (x y : List DotMention). record { nodes = x; edges = b.edges; ends = y; weight = b.weight }) (sym (append-nil b.nodes)) (sym (append-nil b.ends))
all_joined_is unsaid b (n ∷ nodes) =
    all_joined_is unsaid (joined_with unsaid b n) nodes
    ∙ ap₂ (λ (x y : List DotMention). record { nodes = x; edges = b.edges; ends = y; weight = b.weight }) (append_assoc b.nodes (node_of n ∷ []) (map node_of nodes)) (append_assoc b.ends (node_of n ∷ []) (map node_of nodes))

abbrev pub begun_with : Weight → Built → NodeId → Built
begun_with unsaid b n = built_with unsaid b (BeginsEvent (node_of n))

pub edges_built : (factor : Option ℕ) (b : Built) (first second : NodeId) (others : List NodeId) (words : List (List ℕ))
    → (let c = all_joined (unsaid_weight factor) (joined_with (unsaid_weight factor) (begun_with (unsaid_weight factor) b first) second) others in graph_built (reweighed c (last_weight factor c.weight words)))
    ≡ plus (graph_built b) (node_of first ∷ node_of second ∷ map node_of others) (chain (last_weight factor (unsaid_weight factor) words) (node_of first ∷ node_of second ∷ map node_of others))
edges_built factor b first second others words =
    ap (λ c. graph_built (reweighed c (last_weight factor c.weight words))) (all_joined_is (unsaid_weight factor) (joined_with (unsaid_weight factor) (begun_with (unsaid_weight factor) b first) second) others)
    ∙ ap (λ nodes. graph_with nodes ((b.edges ++ chain b.weight b.ends) ++ chain (last_weight factor (unsaid_weight factor) words) (node_of first ∷ node_of second ∷ map node_of others)))
    (append_assoc (b.nodes ++ node_of first ∷ []) (node_of second ∷ []) (map node_of others) ∙ append_assoc b.nodes (node_of first ∷ []) (node_of second ∷ map node_of others))

-- a sign at the beginning of a statement
pub sign_first : (undirected : Bool) (factor : Option ℕ) (b : Built) (r : Ready) (depth : ℕ) (directed : Bool) (owner : Owner) (w : Bool) (k : TokenKind) (ms : List Mark) → IsFirst k
    → go undirected factor b (at (ready_place r) depth directed owner w) (SignMark k ∷ ms) ≡ go undirected factor b (at stands.Statement depth directed owner w) (SignMark k ∷ ms)
sign_first undirected factor b r depth directed owner w k ms is = ap (behind undirected factor b k [] 0 ms) (ready_turn r undirected depth directed owner w k [] (marked_tokens ms) is)

-- what follows a statement
abbrev pub Follows : Bool → Option ℕ → Built → ℕ → Bool → List DotMention → List NamedEdge → List Mark → Result DotGraph DotFault → Type 0
Follows undirected factor b depth directed nodes edges ms result =
    (c : Built) (x : Behind) (owner : Owner) (w : Bool) → graph_built c ≡ plus (graph_built b) nodes edges → go undirected factor c (at (behind_place x) depth directed owner w) ms ≡ result

pub statement_read : (undirected : Bool) (factor : Option ℕ) (b : Built) (r : Ready) (depth : ℕ) (directed : Bool) (owner : Owner) (w : Bool) (statement : Statement) (ms : List Mark) (result : Result DotGraph DotFault)
    → IsStatement factor statement → NotSet ms → Follows undirected factor b depth directed (statement_nodes statement) (statement_edges factor statement) ms result
    → go undirected factor b (at (ready_place r) depth directed owner w) (statement_marks directed statement ms) ≡ result
statement_read undirected factor b r depth directed owner w (NodeStatement node lists) ms result is free goes =
    (let first = begun_with (unsaid_weight factor) b node in
    name_begins undirected factor b r depth directed owner w node.name.text node.name.is_html node.name.line (port_marks node.port (list_marks lists ms)) is (port_ahead node.port (list_marks lists ms) (lists_ahead lists ms free))
    ∙ port_read undirected factor first depth directed whose.Node w node.port (list_marks lists ms)
    ∙ node_lists_read undirected factor first (port_place node.port) depth directed whose.Node w lists ms result tt (λ x later. goes first x whose.Node later refl))
statement_read undirected factor b r depth directed owner w (EdgeStatement left right others lists) ms result is free goes =
    (let first = begun_with (unsaid_weight factor) b left in
    let second = joined_with (unsaid_weight factor) first right in
    let all = all_joined (unsaid_weight factor) second others in
    name_begins undirected factor b r depth directed owner w left.name.text left.name.is_html left.name.line (port_marks left.port (joined_marks directed (right ∷ others) (list_marks lists ms))) is.0.0
    (port_ahead left.port (joined_marks directed (right ∷ others) (list_marks lists ms)) (joined_ahead directed right others (list_marks lists ms)))
    ∙ port_read undirected factor first depth directed whose.Node w left.port (joined_marks directed (right ∷ others) (list_marks lists ms))
    ∙ join_read undirected factor first (port_place left.port) depth directed whose.Node w right (joined_marks directed others (list_marks lists ms)) is.0.1.0
    ∙ joined_read undirected factor second (port_place right.port) depth directed w others (list_marks lists ms) result is.0.1.1
    (λ m. node_lists_read undirected factor all m depth directed whose.Edge w lists ms result is.1 (λ x later. goes (reweighed all (last_weight factor all.weight (weights_said lists))) x whose.Edge later (edges_built factor b left right others (weights_said lists)))))
statement_read undirected factor b r depth directed owner w (DefaultStatement GraphDefault first lists) ms result is free goes =
    sign_first undirected factor b r depth directed owner w kind.Graph (list_marks (first ∷ lists) ms) tt
    ∙ lists_read undirected factor b depth directed whose.Other w (first ∷ lists) ms result tt (λ later. goes b AtListed whose.Other later (plus_none (graph_built b)))
statement_read undirected factor b r depth directed owner w (DefaultStatement NodeDefault first lists) ms result is free goes =
    sign_first undirected factor b r depth directed owner w kind.Node (list_marks (first ∷ lists) ms) tt
    ∙ lists_read undirected factor b depth directed whose.Other w (first ∷ lists) ms result tt (λ later. goes b AtListed whose.Other later (plus_none (graph_built b)))
statement_read undirected factor b r depth directed owner w (DefaultStatement EdgeDefault first lists) ms result is free goes =
    sign_first undirected factor b r depth directed owner w kind.Edge (list_marks (first ∷ lists) ms) tt
    ∙ lists_read undirected factor b depth directed whose.EdgeDefault w (first ∷ lists) ms result is (λ later. goes b AtListed whose.EdgeDefault later (plus_none (graph_built b)))
statement_read undirected factor b r depth directed owner w (SettingStatement name value) ms result is free goes =
    ap (behind undirected factor b (id_kind name.is_html) name.text name.line (SignMark kind.Assign ∷ IdMark value ∷ ms))
    (ready_turn r undirected depth directed owner w (id_kind name.is_html) name.text (marked_tokens (SignMark kind.Assign ∷ IdMark value ∷ ms)) (first_named name.is_html)
    ∙ name_turn (at stands.Statement depth directed owner w) (marked_tokens (SignMark kind.Assign ∷ IdMark value ∷ ms)) name.is_html)
    ∙ any_setting undirected factor b depth directed owner w value.text value.is_html value.line ms
    ∙ goes b AtDone owner w (plus_none (graph_built b))

pub semicolon_read : (undirected : Bool) (factor : Option ℕ) (b : Built) (x : Behind) (depth : ℕ) (directed : Bool) (owner : Owner) (w : Bool) (semicolon : Bool) (ms : List Mark) (result : Result DotGraph DotFault)
    → ((r : Ready) → go undirected factor b (at (ready_place r) depth directed owner w) ms ≡ result) → go undirected factor b (at (behind_place x) depth directed owner w) (semicolon_marks semicolon ms) ≡ result
semicolon_read undirected factor b x depth directed owner w false ms result goes = goes (Later x)
semicolon_read undirected factor b AtDone depth directed owner w true ms result goes = goes Fresh
semicolon_read undirected factor b AtClosed depth directed owner w true ms result goes = goes Fresh
semicolon_read undirected factor b AtNode depth directed owner w true ms result goes = goes Fresh
semicolon_read undirected factor b AtPorted depth directed owner w true ms result goes = goes Fresh
semicolon_read undirected factor b AtSided depth directed owner w true ms result goes = goes Fresh
semicolon_read undirected factor b AtListed depth directed owner w true ms result goes = goes Fresh

-- Nodes, ports and chains are read.
use Rattle.std.proofs.Common.{◌≡◌, ℕ, Bool, true, false, List, [], ◌∷◌, refl, ap, ◌∙◌, Option, Result}
use Rattle.std.proofs.lemmas.Bool.{true≢false}
use Rattle.std.specs.List.{AllByRecursion}
use Rattle.import_lines.specs.declared.weight.Weight.{Weight}
use Rattle.import_formats.specs.declared.dot.token_kind.TokenKind.TheVariants.{Name, Node, Edge, Subgraph, Colon}
use Rattle.import_formats.specs.declared.dot.state.Place.{Place}
use Rattle.import_formats.specs.declared.dot.state.Place.TheVariants as stands
use Rattle.import_formats.specs.declared.dot.state.State.{State}
use Rattle.import_formats.specs.declared.dot.token_kind.TokenKind.TheVariants as kind
use Rattle.import_formats.specs.declared.dot.fault.DotFault.{DotFault}
use Rattle.import_formats.specs.declared.dot.state.Owner.{Owner}
use Rattle.import_formats.specs.declared.dot.state.Owner.TheVariants as whose
use Rattle.import_formats.specs.dot.Lexing.{DotToken}
use Rattle.import_formats.specs.dot.Grammar.{assigns, at_statement, named}
use Rattle.import_formats.specs.dot.Graphs.{DotGraph, unsaid_weight, DotMention, BeginsEvent, JoinsEvent}
use Rattle.import_formats.specs.dot.Meaning.{IsNodeName, node_of}
use Rattle.import_formats.specs.dot.Syntax.{Mark, IdMark, SignMark, DotId, Port, NoPort, OnePort, TwoPorts, NodeId, port_marks, node_marks, edge_sign, joined_marks}
use Rattle.import_formats.proofs.dot.Building.{Built, built_with}
use Rattle.import_formats.proofs.dot.Marked.{id_kind, marked_tokens}
use Rattle.import_formats.proofs.dot.Starts.{AtNode, AtPorted, AtSided, Behind, IsFirst, Ready, at, behind, behind_place, go, ready_place, ready_turn}

-- ---- IDs

pub any_port : (undirected : Bool) (factor : Option ℕ) (b : Built) (depth : ℕ) (directed : Bool) (owner : Owner) (w : Bool) (text : List ℕ) (html : Bool) (line : ℕ) (ms : List Mark)
    → go undirected factor b (at stands.Port depth directed owner w) (IdMark (record { text = text; is_html = html; line = line }) ∷ ms) ≡ go undirected factor b (at stands.Ported depth directed owner w) ms
any_port undirected factor b depth directed owner w text true line ms = refl
any_port undirected factor b depth directed owner w text false line ms = refl

pub any_side : (undirected : Bool) (factor : Option ℕ) (b : Built) (depth : ℕ) (directed : Bool) (owner : Owner) (w : Bool) (text : List ℕ) (html : Bool) (line : ℕ) (ms : List Mark)
    → go undirected factor b (at stands.Side depth directed owner w) (IdMark (record { text = text; is_html = html; line = line }) ∷ ms) ≡ go undirected factor b (at stands.Sided depth directed owner w) ms
any_side undirected factor b depth directed owner w text true line ms = refl
any_side undirected factor b depth directed owner w text false line ms = refl

pub any_setting : (undirected : Bool) (factor : Option ℕ) (b : Built) (depth : ℕ) (directed : Bool) (owner : Owner) (w : Bool) (text : List ℕ) (html : Bool) (line : ℕ) (ms : List Mark)
    → go undirected factor b (at stands.Setting depth directed owner w) (IdMark (record { text = text; is_html = html; line = line }) ∷ ms) ≡ go undirected factor b (at stands.Done depth directed owner w) ms
any_setting undirected factor b depth directed owner w text true line ms = refl
any_setting undirected factor b depth directed owner w text false line ms = refl

pub any_subgraph : (undirected : Bool) (factor : Option ℕ) (b : Built) (depth : ℕ) (directed : Bool) (owner : Owner) (w : Bool) (text : List ℕ) (html : Bool) (line : ℕ) (ms : List Mark)
    → go undirected factor b (at stands.Subgraph depth directed owner w) (IdMark (record { text = text; is_html = html; line = line }) ∷ ms) ≡ go undirected factor b (at stands.SubgraphTitled depth directed owner w) ms
any_subgraph undirected factor b depth directed owner w text true line ms = refl
any_subgraph undirected factor b depth directed owner w text false line ms = refl

pub any_title : (undirected : Bool) (factor : Option ℕ) (b : Built) (depth : ℕ) (directed : Bool) (owner : Owner) (w : Bool) (text : List ℕ) (html : Bool) (line : ℕ) (ms : List Mark)
    → go undirected factor b (at stands.Title depth directed owner w) (IdMark (record { text = text; is_html = html; line = line }) ∷ ms) ≡ go undirected factor b (at stands.Titled depth directed owner w) ms
any_title undirected factor b depth directed owner w text true line ms = refl
any_title undirected factor b depth directed owner w text false line ms = refl

-- ---- nodes

pub first_named : (html : Bool) → IsFirst (id_kind html)
first_named true = tt
first_named false = tt

-- a name at the beginning of a statement
pub name_turn : (s : State) (a : List DotToken) (html : Bool) → at_statement s a (id_kind html) ≡ named s a
name_turn s a true = refl
name_turn s a false = refl

pub name_begins : (undirected : Bool) (factor : Option ℕ) (b : Built) (r : Ready) (depth : ℕ) (directed : Bool) (owner : Owner) (w : Bool) (text : List ℕ) (html : Bool) (line : ℕ) (ms : List Mark)
    → IsNodeName (record { text = text; is_html = html; line = line }) → assigns (marked_tokens ms) ≡ false
    → go undirected factor b (at (ready_place r) depth directed owner w) (IdMark (record { text = text; is_html = html; line = line }) ∷ ms)
    ≡ go undirected factor (built_with (unsaid_weight factor) b (BeginsEvent (record { name = text; line = line }))) (at stands.Node depth directed whose.Node w) ms
name_begins undirected factor b r depth directed owner w text true line ms is not_set = absurd (true≢false is.0)
name_begins undirected factor b r depth directed owner w text false line ms is not_set =
    ap (behind undirected factor b kind.Name text line ms) (ready_turn r undirected depth directed owner w kind.Name text (marked_tokens ms) tt) ∙ rw (not_set, is.1, is.2) refl

pub name_joins : (undirected : Bool) (factor : Option ℕ) (b : Built) (depth : ℕ) (directed : Bool) (owner : Owner) (w : Bool) (text : List ℕ) (html : Bool) (line : ℕ) (ms : List Mark)
    → IsNodeName (record { text = text; is_html = html; line = line })
    → go undirected factor b (at stands.EdgeEnd depth directed owner w) (IdMark (record { text = text; is_html = html; line = line }) ∷ ms)
    ≡ go undirected factor (built_with (unsaid_weight factor) b (JoinsEvent (record { name = text; line = line }))) (at stands.Node depth directed whose.Edge w) ms
name_joins undirected factor b depth directed owner w text true line ms is = absurd (true≢false is.0)
name_joins undirected factor b depth directed owner w text false line ms is = rw (is.1, is.2) refl

-- after a node's ports
pub data NodePlace : Type 0 where
  Bare : NodePlace
  Once : NodePlace
  Twice : NodePlace

abbrev pub node_behind : NodePlace → Behind
node_behind Bare = AtNode
node_behind Once = AtPorted
node_behind Twice = AtSided

abbrev pub node_place : NodePlace → Place
node_place n = behind_place (node_behind n)

abbrev pub port_place : Port → NodePlace
port_place NoPort = Bare
port_place (OnePort port) = Once
port_place (TwoPorts port side) = Twice

pub port_read : (undirected : Bool) (factor : Option ℕ) (b : Built) (depth : ℕ) (directed : Bool) (owner : Owner) (w : Bool) (port : Port) (ms : List Mark)
    → go undirected factor b (at stands.Node depth directed owner w) (port_marks port ms) ≡ go undirected factor b (at (node_place (port_place port)) depth directed owner w) ms
port_read undirected factor b depth directed owner w NoPort ms = refl
port_read undirected factor b depth directed owner w (OnePort p) ms = any_port undirected factor b depth directed owner w p.text p.is_html p.line ms
port_read undirected factor b depth directed owner w (TwoPorts p q) ms =
    any_port undirected factor b depth directed owner w p.text p.is_html p.line (SignMark kind.Colon ∷ IdMark q ∷ ms) ∙ any_side undirected factor b depth directed owner w q.text q.is_html q.line ms

-- ---- chains

-- an edge's sign after a node
pub sign_read : (undirected : Bool) (factor : Option ℕ) (b : Built) (n : NodePlace) (depth : ℕ) (directed : Bool) (owner : Owner) (w : Bool) (ms : List Mark)
    → go undirected factor b (at (node_place n) depth directed owner w) (SignMark (edge_sign directed) ∷ ms) ≡ go undirected factor b (at stands.EdgeEnd depth directed owner w) ms
sign_read undirected factor b Bare depth true owner w ms = refl
sign_read undirected factor b Bare depth false owner w ms = refl
sign_read undirected factor b Once depth true owner w ms = refl
sign_read undirected factor b Once depth false owner w ms = refl
sign_read undirected factor b Twice depth true owner w ms = refl
sign_read undirected factor b Twice depth false owner w ms = refl

abbrev pub joined_with : Weight → Built → NodeId → Built
joined_with unsaid b n = built_with unsaid b (JoinsEvent (node_of n))

pub join_read : (undirected : Bool) (factor : Option ℕ) (b : Built) (n : NodePlace) (depth : ℕ) (directed : Bool) (owner : Owner) (w : Bool) (node : NodeId) (ms : List Mark) → IsNodeName node.name
    → go undirected factor b (at (node_place n) depth directed owner w) (SignMark (edge_sign directed) ∷ node_marks node ms)
    ≡ go undirected factor (joined_with (unsaid_weight factor) b node) (at (node_place (port_place node.port)) depth directed whose.Edge w) ms
join_read undirected factor b n depth directed owner w node ms is =
    sign_read undirected factor b n depth directed owner w (node_marks node ms)
    ∙ name_joins undirected factor b depth directed owner w node.name.text node.name.is_html node.name.line (port_marks node.port ms) is
    ∙ port_read undirected factor (joined_with (unsaid_weight factor) b node) depth directed whose.Edge w node.port ms

-- what is built with the nodes of a chain
abbrev pub all_joined : Weight → Built → List NodeId → Built
all_joined unsaid b [] = b
all_joined unsaid b (n ∷ nodes) = all_joined unsaid (joined_with unsaid b n) nodes

pub joined_read : (undirected : Bool) (factor : Option ℕ) (b : Built) (n : NodePlace) (depth : ℕ) (directed : Bool) (w : Bool) (nodes : List NodeId) (ms : List Mark) (result : Result DotGraph DotFault)
    → AllByRecursion (λ (x : NodeId). IsNodeName x.name) nodes
    → ((m : NodePlace) → go undirected factor (all_joined (unsaid_weight factor) b nodes) (at (node_place m) depth directed whose.Edge w) ms ≡ result)
    → go undirected factor b (at (node_place n) depth directed whose.Edge w) (joined_marks directed nodes ms) ≡ result
joined_read undirected factor b n depth directed w [] ms result are goes = goes n
joined_read undirected factor b n depth directed w (x ∷ nodes) ms result are goes =
    join_read undirected factor b n depth directed whose.Edge w x (joined_marks directed nodes ms) are.0
    ∙ joined_read undirected factor (joined_with (unsaid_weight factor) b x) (port_place x.port) depth directed w nodes ms result are.1 goes

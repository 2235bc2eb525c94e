-- The spelling of a tree is read, and gives the graph that the tree means.
use Rattle.std.proofs.Common.{◌≡◌, ℕ, ◌+◌, ◌-◌, ◌==◌, Bool, true, false, List, [], ◌∷◌, map, refl, ap, ◌∙◌, Option, Result, Ok, if◌then◌else◌, ◌≤◌, ◌<◌, ◌++◌, arith, lt-ltb, ne_eqb, Some, None}
use native.Mathlib.Nat.{le-max_left, le-max_right}
use Rattle.import_lines.specs.Named.{NamedEdge}
use Rattle.import_formats.specs.declared.dot.token_kind.TokenKind.TheVariants.{Strict, Digraph, Subgraph, BraceOpen, BraceClose, End}
use Rattle.import_formats.specs.declared.dot.state.Place.{Place}
use Rattle.import_formats.specs.declared.dot.state.Place.TheVariants as stands
use Rattle.import_formats.specs.declared.dot.state.Act.TheVariants as does
use Rattle.import_formats.specs.declared.dot.state.State.{State}
use Rattle.import_formats.specs.declared.dot.token_kind.TokenKind.TheVariants as kind
use Rattle.import_formats.specs.declared.dot.fault.DotFault.{DotFault}
use Rattle.import_formats.specs.declared.dot.state.Owner.{Owner}
use Rattle.import_formats.specs.declared.dot.state.Owner.TheVariants as whose
use Rattle.import_formats.specs.dot.Tokens.{tokens_of}
use Rattle.import_formats.specs.dot.Grammar.{opened, closed, at_start, begun}
use Rattle.import_formats.specs.dot.Graphs.{DotGraph, DotMention, start}
use Rattle.import_formats.specs.dot.Reading.{read_graph}
use Rattle.import_formats.specs.dot.Meaning.{statement_nodes, statement_edges, nodes_in, edges_of, meaning, AreStatements, depth_of, IsTree, Spells}
use Rattle.import_formats.specs.dot.Syntax.{Mark, IdMark, SignMark, mark_of, DotId, SubgraphHead, NoHead, WordHead, NamedHead, Statements, NoStatement, OneStatement, OneSubgraph, DotTree, head_marks, semicolon_marks, statements_marks, name_marks, graph_sign, tree_marks}
use Rattle.import_formats.proofs.dot.Building.{Built, graph_built, graph_of_build, none_built}
use Rattle.import_formats.proofs.dot.Marked.{build_marked}
use Rattle.import_formats.proofs.dot.TokensRead.{lexemes_told}
use Rattle.import_formats.proofs.dot.Starts.{AtClosed, Fresh, Ready, at, behind, go, ready_place}
use Rattle.import_formats.proofs.dot.NodesRead.{any_subgraph, any_title}
use Rattle.import_formats.proofs.dot.StatementsRead.{NotSet, graph_with, plus, plus_none, plus_plus, semicolon_ahead, semicolon_read, sign_first, statement_read, statements_ahead}

-- ---- subgraphs

pub deeper : (p : Place) (depth : ℕ) (directed : Bool) (owner : Owner) (w : Bool) → depth < 64 → opened (at p depth directed owner w) ≡ Ok (at stands.Statement (depth + 1) directed owner w, does.Pass)
deeper p depth directed owner w room = rw (lt-ltb depth 64 room) refl

pub head_read : (undirected : Bool) (factor : Option ℕ) (b : Built) (r : Ready) (depth : ℕ) (directed : Bool) (owner : Owner) (w : Bool) (head : SubgraphHead) (ms : List Mark) → depth < 64
    → go undirected factor b (at (ready_place r) depth directed owner w) (head_marks head ms) ≡ go undirected factor b (at stands.Statement (depth + 1) directed owner w) ms
head_read undirected factor b r depth directed owner w NoHead ms room =
    sign_first undirected factor b r depth directed owner w kind.BraceOpen ms tt ∙ ap (behind undirected factor b kind.BraceOpen [] 0 ms) (deeper stands.Statement depth directed owner w room)
head_read undirected factor b r depth directed owner w WordHead ms room =
    sign_first undirected factor b r depth directed owner w kind.Subgraph (SignMark kind.BraceOpen ∷ ms) tt ∙ ap (behind undirected factor b kind.BraceOpen [] 0 ms) (deeper stands.Subgraph depth directed owner w room)
head_read undirected factor b r depth directed owner w (NamedHead name) ms room =
    sign_first undirected factor b r depth directed owner w kind.Subgraph (IdMark name ∷ SignMark kind.BraceOpen ∷ ms) tt
    ∙ any_subgraph undirected factor b depth directed owner w name.text name.is_html name.line (SignMark kind.BraceOpen ∷ ms)
    ∙ ap (behind undirected factor b kind.BraceOpen [] 0 ms) (deeper stands.SubgraphTitled depth directed owner w room)

pub higher : (depth : ℕ) (directed : Bool) (owner : Owner) (w : Bool) → closed (at stands.Statement (depth + 1) directed owner w) ≡ Ok (at stands.Closed depth directed owner w, does.Pass)
higher depth directed owner w =
    (let inner : (depth + 1 == 0) ≡ false = ne_eqb (depth + 1) 0 (λ e. omega arith) in
    let less : depth + 1 - 1 ≡ depth = omega arith in
    rw inner (ap (λ n. Ok (at stands.Closed n directed owner w, does.Pass)) less))

pub brace_read : (undirected : Bool) (factor : Option ℕ) (b : Built) (r : Ready) (depth : ℕ) (directed : Bool) (owner : Owner) (w : Bool) (ms : List Mark)
    → go undirected factor b (at (ready_place r) (depth + 1) directed owner w) (SignMark kind.BraceClose ∷ ms) ≡ go undirected factor b (at stands.Closed depth directed owner w) ms
brace_read undirected factor b r depth directed owner w ms = sign_first undirected factor b r (depth + 1) directed owner w kind.BraceClose ms tt ∙ ap (behind undirected factor b kind.BraceClose [] 0 ms) (higher depth directed owner w)

-- what follows statements
abbrev pub Goes : Bool → Option ℕ → Built → ℕ → Bool → List DotMention → List NamedEdge → List Mark → Result DotGraph DotFault → Type 0
Goes undirected factor b depth directed nodes edges ms result =
    (c : Built) (r : Ready) (owner : Owner) (w : Bool) → graph_built c ≡ plus (graph_built b) nodes edges → go undirected factor c (at (ready_place r) depth directed owner w) ms ≡ result

pub both_plus : (g h i : DotGraph) (m n : List DotMention) (x y : List NamedEdge) → h ≡ plus g m x → i ≡ plus h n y → i ≡ plus g (m ++ n) (x ++ y)
both_plus g h i m n x y first second = second ∙ ap (λ j. plus j n y) first ∙ plus_plus g m n x y

pub statements_read : (undirected : Bool) (factor : Option ℕ) (b : Built) (r : Ready) (depth : ℕ) (directed : Bool) (owner : Owner) (w : Bool) (statements : Statements) (ms : List Mark) (result : Result DotGraph DotFault)
    → AreStatements factor statements → depth + depth_of statements ≤ 64 → NotSet ms → Goes undirected factor b depth directed (nodes_in statements) (edges_of factor statements) ms result
    → go undirected factor b (at (ready_place r) depth directed owner w) (statements_marks directed statements ms) ≡ result
statements_read undirected factor b r depth directed owner w NoStatement ms result are room free goes = goes b r owner w (plus_none (graph_built b))
statements_read undirected factor b r depth directed owner w (OneStatement statement semicolon more) ms result are room free goes =
    (let rest = statements_marks directed more ms in
    let no_assign = statements_ahead directed more ms free in
    statement_read undirected factor b r depth directed owner w statement (semicolon_marks semicolon rest) result are.0 (semicolon_ahead semicolon rest no_assign)
    (λ c x owner' w' e. semicolon_read undirected factor c x depth directed owner' w' semicolon rest result
    (λ r'. statements_read undirected factor c r' depth directed owner' w' more ms result are.1 room free
    (λ c' r'' owner'' w'' e'. goes c' r'' owner'' w'' (both_plus (graph_built b) (graph_built c) (graph_built c') (statement_nodes statement) (nodes_in more) (statement_edges factor statement) (edges_of factor more) e e')))))
statements_read undirected factor b r depth directed owner w (OneSubgraph head body semicolon more) ms result are room free goes =
    (let rest = statements_marks directed more ms in
    head_read undirected factor b r depth directed owner w head (statements_marks directed body (SignMark kind.BraceClose ∷ semicolon_marks semicolon rest)) (omega (arith, room, le-max_left (depth_of body + 1) (depth_of more)))
    ∙ statements_read undirected factor b Fresh (depth + 1) directed owner w body (SignMark kind.BraceClose ∷ semicolon_marks semicolon rest) result are.0 (omega (arith, room, le-max_left (depth_of body + 1) (depth_of more))) refl
    (λ c r' owner' w' e. brace_read undirected factor c r' depth directed owner' w' (semicolon_marks semicolon rest)
    ∙ semicolon_read undirected factor c AtClosed depth directed owner' w' semicolon rest result
    (λ r''. statements_read undirected factor c r'' depth directed owner' w' more ms result are.1 (omega (arith, room, le-max_right (depth_of body + 1) (depth_of more))) free
    (λ c' r3 owner'' w'' e'. goes c' r3 owner'' w'' (both_plus (graph_built b) (graph_built c) (graph_built c') (nodes_in body) (nodes_in more) (edges_of factor body) (edges_of factor more) e e')))))

-- ---- the whole graph

-- the end of the graph, and of the text
pub end_read : (undirected : Bool) (factor : Option ℕ) (b : Built) (r : Ready) (directed : Bool) (owner : Owner) (w : Bool)
    → go undirected factor b (at (ready_place r) 0 directed owner w) (SignMark kind.BraceClose ∷ SignMark kind.End ∷ []) ≡ Ok (graph_built b)
end_read undirected factor b r directed owner w = sign_first undirected factor b r 0 directed owner w kind.BraceClose (SignMark kind.End ∷ []) tt

pub body_read : (undirected : Bool) (factor : Option ℕ) (directed : Bool) (statements : Statements) → AreStatements factor statements → depth_of statements ≤ 64
    → go undirected factor (none_built factor) (at stands.Statement 0 directed whose.Other false) (statements_marks directed statements (SignMark kind.BraceClose ∷ SignMark kind.End ∷ [])) ≡ Ok (graph_with (nodes_in statements) (edges_of factor statements))
body_read undirected factor directed statements are deep =
    statements_read undirected factor (none_built factor) Fresh 0 directed whose.Other false statements (SignMark kind.BraceClose ∷ SignMark kind.End ∷ []) (Ok (graph_with (nodes_in statements) (edges_of factor statements))) are (omega (arith, deep)) refl
    (λ c r owner w e. end_read undirected factor c r directed owner w ∙ ap Ok e)

pub title_read : (undirected : Bool) (factor : Option ℕ) (directed : Bool) (name : Option DotId) (ms : List Mark)
    → go undirected factor (none_built factor) (at stands.Title 0 directed whose.Other false) (name_marks name (SignMark kind.BraceOpen ∷ ms)) ≡ go undirected factor (none_built factor) (at stands.Statement 0 directed whose.Other false) ms
title_read undirected factor directed None ms = refl
title_read undirected factor directed (Some id) ms = any_title undirected factor (none_built factor) 0 directed whose.Other false id.text id.is_html id.line (SignMark kind.BraceOpen ∷ ms)

pub digraph_turn : (undirected : Bool) (s : State) → undirected ≡ true → at_start undirected s kind.Digraph ≡ begun s true
digraph_turn undirected s taken = rw taken refl

pub kind_read : (undirected : Bool) (factor : Option ℕ) (strict directed : Bool) (ms : List Mark) → (directed ≡ true → undirected ≡ true)
    → go undirected factor (none_built factor) start (if strict then SignMark kind.Strict ∷ SignMark (graph_sign directed) ∷ ms else SignMark (graph_sign directed) ∷ ms)
    ≡ go undirected factor (none_built factor) (at stands.Title 0 directed whose.Other false) ms
kind_read undirected factor true false ms taken = refl
kind_read undirected factor false false ms taken = refl
kind_read undirected factor true true ms taken = ap (behind undirected factor (none_built factor) kind.Digraph [] 0 ms) (digraph_turn undirected (at stands.Strict 0 false whose.Other false) (taken refl))
kind_read undirected factor false true ms taken = ap (behind undirected factor (none_built factor) kind.Digraph [] 0 ms) (digraph_turn undirected start (taken refl))

pub marks_read : (undirected : Bool) (factor : Option ℕ) (g : DotTree) → IsTree undirected factor g → go undirected factor (none_built factor) start (tree_marks g) ≡ Ok (meaning factor g)
marks_read undirected factor g is =
    kind_read undirected factor g.strict g.directed (name_marks g.name (SignMark kind.BraceOpen ∷ statements_marks g.directed g.statements (SignMark kind.BraceClose ∷ SignMark kind.End ∷ []))) is.kind
    ∙ title_read undirected factor g.directed g.name (statements_marks g.directed g.statements (SignMark kind.BraceClose ∷ SignMark kind.End ∷ []))
    ∙ body_read undirected factor g.directed g.statements is.statements is.depth

-- a text that spells a tree has the graph that the tree means
pub tree_read : (undirected : Bool) (factor : Option ℕ) (text : List ℕ) (g : DotTree) → Spells undirected factor text g → read_graph undirected factor text ≡ Ok (meaning factor g)
tree_read undirected factor text g is =
    (let marks = ap (map mark_of) (lexemes_told text is.lexemes is.lexes) ∙ is.marks in
    graph_of_build undirected factor text
    ∙ build_marked undirected factor (tokens_of text) (none_built factor) start (meaning factor g) (ap (λ ms. go undirected factor (none_built factor) start ms) marks ∙ marks_read undirected factor g is.tree))

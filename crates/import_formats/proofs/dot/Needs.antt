-- What a state needs to come: which parts of a tree are left to read.
use Rattle.std.proofs.Common.{◌≡◌, ℕ, ◌+◌, ◌-◌, Bool, true, false, List, [], ◌∷◌, refl, Option, Ok, Err, if◌then◌else◌, ◌≤◌, ◌&&◌, Some, None, IsOk, inl, inr, ◌⊎◌}
use Rattle.std.specs.List.{AllByRecursion}
use Rattle.import_formats.specs.declared.dot.token_kind.TokenKind.{TokenKind}
use Rattle.import_formats.specs.declared.dot.token_kind.TokenKind.TheVariants.{Strict, BraceOpen, BraceClose, BracketOpen, Assign, Colon, End}
use Rattle.import_formats.specs.declared.dot.state.Place.{Place}
use Rattle.import_formats.specs.declared.dot.state.Place.TheVariants as stands
use Rattle.import_formats.specs.declared.dot.state.State.{State}
use Rattle.import_formats.specs.declared.dot.state.Owner.{Owner}
use Rattle.import_formats.specs.declared.dot.state.Owner.TheVariants as whose
use Rattle.import_formats.specs.dot.Grammar.{Turn, is_default}
use Rattle.import_formats.specs.dot.Graphs.{said}
use Rattle.import_formats.specs.dot.Meaning.{IsNodeName, list_weights, weights_said, AreStatements, depth_of}
use Rattle.import_formats.specs.dot.Syntax.{Mark, IdMark, SignMark, DotId, Separator, Attribute, Port, NodeId, Statements, attribute_marks, separator_marks, list_marks, port_marks, node_marks, joined_marks, semicolon_marks, statements_marks, name_marks, graph_sign}
use Rattle.import_formats.proofs.dot.Starts.{behind}
use Rattle.import_formats.proofs.dot.AttributesRead.{Takes, one_weight}

-- ---- what is yet to come

-- after a subgraph that is open: a semicolon or none, and statements
pub record Level : Type 0 where
  pub semicolon : Bool
  pub statements : Statements

-- the marks after the closing brace of the innermost subgraph
abbrev pub outer_marks : Bool → List Level → List Mark
outer_marks directed [] = SignMark End ∷ []
outer_marks directed (l ∷ levels) = semicolon_marks l.semicolon (statements_marks directed l.statements (SignMark BraceClose ∷ outer_marks directed levels))

-- there are as many levels as subgraphs that are open
abbrev pub AreLevels : Option ℕ → ℕ → List Level → Type 0
AreLevels factor depth [] = depth ≡ 0
AreLevels factor depth (l ∷ levels) = (n : ℕ) × (depth ≡ n + 1) × AreStatements factor l.statements × (depth_of l.statements ≤ 64 - n) × AreLevels factor n levels

-- statements
pub record BlockAt (factor : Option ℕ) (depth : ℕ) (directed : Bool) (ms : List Mark) : Type 0 where
  pub statements : Statements
  pub levels : List Level
  pub are : AreStatements factor statements
  pub deep : depth_of statements ≤ 64 - depth
  pub are_levels : AreLevels factor depth levels
  pub spelled : ms ≡ statements_marks directed statements (SignMark BraceClose ∷ outer_marks directed levels)

-- a semicolon or none, and statements
pub record DoneAt (factor : Option ℕ) (depth : ℕ) (directed : Bool) (ms : List Mark) : Type 0 where
  pub semicolon : Bool
  pub more : List Mark
  pub block : BlockAt factor depth directed more
  pub spelled : ms ≡ semicolon_marks semicolon more

-- lists in brackets, and the statement's end
pub record ListsAt (factor : Option ℕ) (depth : ℕ) (directed : Bool) (owner : Owner) (ms : List Mark) : Type 0 where
  pub lists : List (List Attribute)
  pub more : List Mark
  pub takes : Takes factor owner (weights_said lists)
  pub done : DoneAt factor depth directed more
  pub spelled : ms ≡ list_marks lists more

-- attributes, and more lists
pub record AttributesAt (factor : Option ℕ) (depth : ℕ) (directed : Bool) (owner : Owner) (ms : List Mark) : Type 0 where
  pub attributes : List Attribute
  pub more : List Mark
  pub takes : Takes factor owner (list_weights attributes)
  pub lists : ListsAt factor depth directed owner more
  pub spelled : ms ≡ attribute_marks attributes more

-- a separator or none, and attributes
pub record ValuedAt (factor : Option ℕ) (depth : ℕ) (directed : Bool) (owner : Owner) (ms : List Mark) : Type 0 where
  pub separator : Separator
  pub more : List Mark
  pub attributes : AttributesAt factor depth directed owner more
  pub spelled : ms ≡ separator_marks separator more

-- an attribute's value
pub record ValueAt (factor : Option ℕ) (depth : ℕ) (directed : Bool) (owner : Owner) (weighs : Bool) (ms : List Mark) : Type 0 where
  pub value : DotId
  pub more : List Mark
  pub takes : Takes factor owner (one_weight weighs value.text)
  pub valued : ValuedAt factor depth directed owner more
  pub spelled : ms ≡ IdMark value ∷ more

-- this sign, and what comes after it
pub record SignAt (k : TokenKind) (Rest : List Mark → Type 0) (ms : List Mark) : Type 0 where
  pub more : List Mark
  pub rest : Rest more
  pub spelled : ms ≡ SignMark k ∷ more

-- an ID, and what comes after it
pub record IdAt (Rest : List Mark → Type 0) (ms : List Mark) : Type 0 where
  pub id : DotId
  pub more : List Mark
  pub rest : Rest more
  pub spelled : ms ≡ IdMark id ∷ more

-- whose attributes they are, after these nodes more
abbrev pub owner_behind : Owner → List NodeId → Owner
owner_behind owner [] = owner
owner_behind owner (n ∷ nodes) = whose.Edge

-- nodes that are joined, and lists
pub record ChainAt (factor : Option ℕ) (depth : ℕ) (directed : Bool) (owner : Owner) (ms : List Mark) : Type 0 where
  pub others : List NodeId
  pub lists : List (List Attribute)
  pub more : List Mark
  pub are : AllByRecursion (λ (n : NodeId). IsNodeName n.name) others
  pub takes : Takes factor (owner_behind owner others) (weights_said lists)
  pub done : DoneAt factor depth directed more
  pub spelled : ms ≡ joined_marks directed others (list_marks lists more)

abbrev pub side_marks : Option DotId → List Mark → List Mark
side_marks None behind = behind
side_marks (Some id) behind = SignMark Colon ∷ IdMark id ∷ behind

-- after a node's port
pub record PortedAt (factor : Option ℕ) (depth : ℕ) (directed : Bool) (owner : Owner) (ms : List Mark) : Type 0 where
  pub side : Option DotId
  pub more : List Mark
  pub chain : ChainAt factor depth directed owner more
  pub spelled : ms ≡ side_marks side more

-- after a node's name
pub record NodeAt (factor : Option ℕ) (depth : ℕ) (directed : Bool) (owner : Owner) (ms : List Mark) : Type 0 where
  pub port : Port
  pub more : List Mark
  pub chain : ChainAt factor depth directed owner more
  pub spelled : ms ≡ port_marks port more

-- after an edge's sign
pub record EdgeEndAt (factor : Option ℕ) (depth : ℕ) (directed : Bool) (ms : List Mark) : Type 0 where
  pub node : NodeId
  pub more : List Mark
  pub name : IsNodeName node.name
  pub chain : ChainAt factor depth directed whose.Edge more
  pub spelled : ms ≡ node_marks node more

-- a subgraph's statements, its closing brace, and what comes after it
pub record BodyAt (factor : Option ℕ) (depth : ℕ) (directed : Bool) (ms : List Mark) : Type 0 where
  pub body : Statements
  pub more : List Mark
  pub are : AreStatements factor body
  pub deep : depth_of body + 1 ≤ 64 - depth
  pub done : DoneAt factor depth directed more
  pub spelled : ms ≡ statements_marks directed body (SignMark BraceClose ∷ more)

-- after `subgraph`: a name or none, and an opening brace
pub record SubgraphAt (factor : Option ℕ) (depth : ℕ) (directed : Bool) (ms : List Mark) : Type 0 where
  pub name : Option DotId
  pub more : List Mark
  pub body : BodyAt factor depth directed more
  pub spelled : ms ≡ name_marks name (SignMark BraceOpen ∷ more)

-- the graph's braces
pub record WholeAt (factor : Option ℕ) (directed : Bool) (ms : List Mark) : Type 0 where
  pub statements : Statements
  pub are : AreStatements factor statements
  pub deep : depth_of statements ≤ 64
  pub spelled : ms ≡ SignMark BraceOpen ∷ statements_marks directed statements (SignMark BraceClose ∷ SignMark End ∷ [])

-- the graph's name or none, and its braces
pub record TitleAt (factor : Option ℕ) (directed : Bool) (ms : List Mark) : Type 0 where
  pub name : Option DotId
  pub more : List Mark
  pub whole : WholeAt factor directed more
  pub spelled : ms ≡ name_marks name more

-- graph | digraph
pub record KindAt (undirected : Bool) (factor : Option ℕ) (ms : List Mark) : Type 0 where
  pub directed : Bool
  pub more : List Mark
  pub taken : directed ≡ true → undirected ≡ true
  pub title : TitleAt factor directed more
  pub spelled : ms ≡ SignMark (graph_sign directed) ∷ more

-- a whole text
pub record StartAt (undirected : Bool) (factor : Option ℕ) (ms : List Mark) : Type 0 where
  pub strict : Bool
  pub more : List Mark
  pub kind : KindAt undirected factor more
  pub spelled : ms ≡ (if strict then SignMark Strict ∷ more else more)

-- what a state needs to come
abbrev pub Needs : Bool → Option ℕ → Place → State → List Mark → Type 0
Needs undirected factor stands.Start s ms = s.depth ≡ 0 → StartAt undirected factor ms
Needs undirected factor stands.Strict s ms = s.depth ≡ 0 → KindAt undirected factor ms
Needs undirected factor stands.Title s ms = s.depth ≡ 0 → TitleAt factor s.directed ms
Needs undirected factor stands.Titled s ms = s.depth ≡ 0 → WholeAt factor s.directed ms
Needs undirected factor stands.Statement s ms = BlockAt factor s.depth s.directed ms
Needs undirected factor stands.Done s ms = DoneAt factor s.depth s.directed ms
Needs undirected factor stands.Closed s ms = DoneAt factor s.depth s.directed ms
Needs undirected factor stands.Subgraph s ms = SubgraphAt factor s.depth s.directed ms
Needs undirected factor stands.SubgraphTitled s ms = SignAt BraceOpen (BodyAt factor s.depth s.directed) ms
Needs undirected factor stands.Node s ms = NodeAt factor s.depth s.directed s.owner ms
Needs undirected factor stands.Port s ms = IdAt (PortedAt factor s.depth s.directed s.owner) ms
Needs undirected factor stands.Ported s ms = PortedAt factor s.depth s.directed s.owner ms
Needs undirected factor stands.Side s ms = IdAt (ChainAt factor s.depth s.directed s.owner) ms
Needs undirected factor stands.Sided s ms = ChainAt factor s.depth s.directed s.owner ms
Needs undirected factor stands.EdgeEnd s ms = EdgeEndAt factor s.depth s.directed ms
Needs undirected factor stands.Key s ms = SignAt Assign (IdAt (DoneAt factor s.depth s.directed)) ms
Needs undirected factor stands.Setting s ms = IdAt (DoneAt factor s.depth s.directed) ms
Needs undirected factor stands.Brackets s ms = SignAt BracketOpen (AttributesAt factor s.depth s.directed s.owner) ms
Needs undirected factor stands.List s ms = AttributesAt factor s.depth s.directed s.owner ms
Needs undirected factor stands.ListKey s ms = (s.weighs && is_default s.owner) ≡ false → SignAt Assign (ValueAt factor s.depth s.directed s.owner s.weighs) ms
Needs undirected factor stands.Value s ms = (s.weighs && is_default s.owner) ≡ false → ValueAt factor s.depth s.directed s.owner s.weighs ms
Needs undirected factor stands.Valued s ms = ValuedAt factor s.depth s.directed s.owner ms
Needs undirected factor stands.Listed s ms = ListsAt factor s.depth s.directed s.owner ms
Needs undirected factor stands.Over s ms = ms ≡ SignMark End ∷ []
Needs undirected factor stands.Finish s ms = ms ≡ []

-- what a token that is read leads to
abbrev pub After : Bool → Option ℕ → TokenKind → List ℕ → ℕ → List Mark → Turn → Type 0
After undirected factor k text line ms (Ok n) = IsOk (said factor n.1 k text line) × Needs undirected factor n.0.place n.0 ms
After undirected factor k text line ms (Err bad) = ⊥

pub after_if : (undirected : Bool) (factor : Option ℕ) (k : TokenKind) (text : List ℕ) (line : ℕ) (ms : List Mark) (c : Bool) (x y : Turn) → After undirected factor k text line ms (if c then x else y)
    → ((c ≡ true) × After undirected factor k text line ms x) ⊎ ((c ≡ false) × After undirected factor k text line ms y)
after_if undirected factor k text line ms true x y h = inl (refl, h)
after_if undirected factor k text line ms false x y h = inr (refl, h)

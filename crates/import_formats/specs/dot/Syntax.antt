-- Graphviz's grammar as trees, and the marks that spell each tree. Beside each form of tree stands its rule. An end of
-- an edge is a node, never a subgraph.
use Rattle.std.specs.Prelude.{ℕ, Bool, true, false, List, [], ◌∷◌, map, Option, Some, None, Result, Ok, Err, if◌then◌else◌}
use Rattle.import_formats.specs.declared.dot.token_kind.TokenKind.{TokenKind}
use Rattle.import_formats.specs.declared.dot.token_kind.TokenKind.TheVariants as kind
use Rattle.import_formats.specs.declared.dot.fault.DotLineFault.{DotLineFault}
use Rattle.import_formats.specs.dot.Lexemes.{Lexeme}
use Rattle.import_formats.specs.dot.Lexing.{DotToken, tokens_in}

-- ---- what the grammar sees of a text

-- an ID: its bytes, whether it is a string in angle brackets, and the line where it stands
pub record DotId : Type 0 where
  pub text : List ℕ
  pub is_html : Bool
  pub line : ℕ

-- a token as the grammar sees it: an ID, another token of this kind, or what is no token
pub data Mark : Type 0 where
  IdMark : (id : DotId) → Mark
  SignMark : (sign : TokenKind) → Mark
  FaultMark : Mark

-- a word that is no keyword, a numeral, a string in double quotes and one in angle brackets are IDs
abbrev pub mark_in : ℕ → Result TokenKind DotLineFault → List ℕ → Mark
mark_in line (Ok kind.Name) text = IdMark (record { text = text; is_html = false; line = line })
mark_in line (Ok kind.Quoted) text = IdMark (record { text = text; is_html = false; line = line })
mark_in line (Ok kind.Html) text = IdMark (record { text = text; is_html = true; line = line })
mark_in line (Ok sign) text = SignMark sign
mark_in line (Err fault) text = FaultMark

-- the mark of a token
abbrev pub mark_of : DotToken → Mark
mark_of t = mark_in t.line t.kind t.text

-- the marks of the lexemes of which a text consists; the last is its end
abbrev pub marks_of : List Lexeme → List Mark
marks_of lexemes = map mark_of (tokens_in 1 lexemes (Ok kind.End))

-- ---- trees

-- what parts an attribute from the next: [';' | ',']
pub data Separator : Type 0 where
  NoSeparator : Separator
  SemicolonSeparator : Separator
  CommaSeparator : Separator

-- ID '=' ID, and a separator. An a_list is a list of these
pub record Attribute : Type 0 where
  pub name : DotId
  pub value : DotId
  pub separator : Separator

-- [port], where port : ':' ID [':' ID]
pub data Port : Type 0 where
  NoPort : Port
  OnePort : (port : DotId) → Port
  TwoPorts : (port side : DotId) → Port

-- node_id : ID [port]
pub record NodeId : Type 0 where
  pub name : DotId
  pub port : Port

-- graph | node | edge
pub data Default : Type 0 where
  GraphDefault : Default
  NodeDefault : Default
  EdgeDefault : Default

-- a statement, all but subgraphs. Each of the lists stands in brackets of its own:
-- attr_list : '[' [a_list] ']' [attr_list]
pub data Statement : Type 0 where
  -- node_stmt : node_id [attr_list]
  NodeStatement : (node : NodeId) (lists : List (List Attribute)) → Statement
  -- edge_stmt : node_id edgeRHS [attr_list], where edgeRHS : edgeop node_id [edgeRHS]
  EdgeStatement : (first second : NodeId) (others : List NodeId) (lists : List (List Attribute)) → Statement
  -- attr_stmt : (graph | node | edge) attr_list
  DefaultStatement : (default : Default) (first : List Attribute) (lists : List (List Attribute)) → Statement
  -- ID '=' ID
  SettingStatement : (name value : DotId) → Statement

-- [subgraph [ID]]
pub data SubgraphHead : Type 0 where
  NoHead : SubgraphHead
  WordHead : SubgraphHead
  NamedHead : (name : DotId) → SubgraphHead

-- stmt_list : [stmt [';'] stmt_list], and subgraph : [subgraph [ID]] '{' stmt_list '}'
pub data Statements : Type 0 where
  NoStatement : Statements
  OneStatement : (statement : Statement) (semicolon : Bool) (behind : Statements) → Statements
  OneSubgraph : (head : SubgraphHead) (body : Statements) (semicolon : Bool) (behind : Statements) → Statements

-- graph : [strict] (graph | digraph) [ID] '{' stmt_list '}'
pub record DotTree : Type 0 where
  pub strict : Bool
  pub directed : Bool
  pub name : Option DotId
  pub statements : Statements

-- ---- spelling: the marks of a tree, with these marks after them

-- a semicolon, a comma or nothing
abbrev pub separator_marks : Separator → List Mark → List Mark
separator_marks NoSeparator behind = behind
separator_marks SemicolonSeparator behind = SignMark kind.Semicolon ∷ behind
separator_marks CommaSeparator behind = SignMark kind.Comma ∷ behind

-- a list of attributes, and its closing bracket
abbrev pub attribute_marks : List Attribute → List Mark → List Mark
attribute_marks [] behind = SignMark kind.BracketClose ∷ behind
attribute_marks (a ∷ attributes) behind = IdMark a.name ∷ SignMark kind.Assign ∷ IdMark a.value ∷ separator_marks a.separator (attribute_marks attributes behind)

-- lists of attributes, each in brackets
abbrev pub list_marks : List (List Attribute) → List Mark → List Mark
list_marks [] behind = behind
list_marks (attributes ∷ lists) behind = SignMark kind.BracketOpen ∷ attribute_marks attributes (list_marks lists behind)

-- a node's ports, each after a colon
abbrev pub port_marks : Port → List Mark → List Mark
port_marks NoPort behind = behind
port_marks (OnePort port) behind = SignMark kind.Colon ∷ IdMark port ∷ behind
port_marks (TwoPorts port side) behind = SignMark kind.Colon ∷ IdMark port ∷ SignMark kind.Colon ∷ IdMark side ∷ behind

-- a node: its name, and its ports
abbrev pub node_marks : NodeId → List Mark → List Mark
node_marks n behind = IdMark n.name ∷ port_marks n.port behind

-- an edge's sign, in a directed graph or in one that is not
abbrev pub edge_sign : Bool → TokenKind
edge_sign true = kind.Arrow
edge_sign false = kind.Dashes

-- nodes, each after an edge's sign
abbrev pub joined_marks : Bool → List NodeId → List Mark → List Mark
joined_marks directed [] behind = behind
joined_marks directed (n ∷ nodes) behind = SignMark (edge_sign directed) ∷ node_marks n (joined_marks directed nodes behind)

-- the word before attributes of the graph, of all nodes or of all edges
abbrev pub default_sign : Default → TokenKind
default_sign GraphDefault = kind.Graph
default_sign NodeDefault = kind.Node
default_sign EdgeDefault = kind.Edge

-- a statement; directed: the graph is
abbrev pub statement_marks : Bool → Statement → List Mark → List Mark
statement_marks directed (NodeStatement node lists) behind = node_marks node (list_marks lists behind)
statement_marks directed (EdgeStatement first second others lists) behind = node_marks first (joined_marks directed (second ∷ others) (list_marks lists behind))
statement_marks directed (DefaultStatement default first lists) behind = SignMark (default_sign default) ∷ list_marks (first ∷ lists) behind
statement_marks directed (SettingStatement name value) behind = IdMark name ∷ SignMark kind.Assign ∷ IdMark value ∷ behind

-- what stands before a subgraph's statements, with the opening brace
abbrev pub head_marks : SubgraphHead → List Mark → List Mark
head_marks NoHead behind = SignMark kind.BraceOpen ∷ behind
head_marks WordHead behind = SignMark kind.Subgraph ∷ SignMark kind.BraceOpen ∷ behind
head_marks (NamedHead name) behind = SignMark kind.Subgraph ∷ IdMark name ∷ SignMark kind.BraceOpen ∷ behind

-- a semicolon, where one follows a statement
abbrev pub semicolon_marks : Bool → List Mark → List Mark
semicolon_marks true behind = SignMark kind.Semicolon ∷ behind
semicolon_marks false behind = behind

-- statements, each with its semicolon where it has one; those of a subgraph stand in braces
abbrev pub statements_marks : Bool → Statements → List Mark → List Mark
statements_marks directed NoStatement behind = behind
statements_marks directed (OneStatement statement semicolon more) behind = statement_marks directed statement (semicolon_marks semicolon (statements_marks directed more behind))
statements_marks directed (OneSubgraph head body semicolon more) behind =
    head_marks head (statements_marks directed body (SignMark kind.BraceClose ∷ semicolon_marks semicolon (statements_marks directed more behind)))

-- a graph's name, where it has one
abbrev pub name_marks : Option DotId → List Mark → List Mark
name_marks None behind = behind
name_marks (Some id) behind = IdMark id ∷ behind

-- the word for a directed graph, or for one that is not
abbrev pub graph_sign : Bool → TokenKind
graph_sign true = kind.Digraph
graph_sign false = kind.Graph

-- a graph from that word on, to the text's end
abbrev pub kind_marks : DotTree → List Mark
kind_marks g = SignMark (graph_sign g.directed) ∷ name_marks g.name (SignMark kind.BraceOpen ∷ statements_marks g.directed g.statements (SignMark kind.BraceClose ∷ SignMark kind.End ∷ []))

-- the whole text of a tree: strict or not, and the graph
abbrev pub tree_marks : DotTree → List Mark
tree_marks g = if g.strict then SignMark kind.Strict ∷ kind_marks g else kind_marks g

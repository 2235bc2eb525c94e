-- What a tree of the grammar means: the nodes that it names, and the edges; and which trees are read.
use Rattle.std.specs.Prelude.{◌≡◌, ◌≤◌, ℕ, ◌+◌, max, Bool, true, false, not, ◌&&◌, List, [], ◌∷◌, ◌++◌, map, filter, flat_map, Option, Result, Ok, Err, IsOk}
use Rattle.std.specs.List.{list_any, AllByRecursion}
use Rattle.import_lines.specs.declared.weight_fault.WeightFault.{WeightFault}
use Rattle.import_lines.specs.declared.weight.Weight.{Weight}
use Rattle.import_lines.specs.Weights.{weight_of}
use Rattle.import_lines.specs.Named.{NamedEdge}
use Rattle.import_formats.specs.dot.Lexemes.{Lexeme}
use Rattle.import_formats.specs.dot.Lexing.{Lexes}
use Rattle.import_formats.specs.dot.Grammar.{is_weight, most_depth}
use Rattle.import_formats.specs.dot.Graphs.{DotMention, DotGraph, is_backslash, is_control, chain, unsaid_weight}
use Rattle.import_formats.specs.dot.Syntax.{DotId, marks_of, Attribute, NodeId, EdgeDefault, Statement, NodeStatement, EdgeStatement, DefaultStatement, SettingStatement, Statements, NoStatement, OneStatement, OneSubgraph, DotTree, tree_marks}

-- a node's name has no angle brackets, no backslash and no control character
abbrev pub IsNodeName : DotId → Type 0
IsNodeName id = (id.is_html ≡ false) × (list_any is_backslash id.text ≡ false) × (list_any is_control id.text ≡ false)

-- the node that an ID names
abbrev pub node_of : NodeId → DotMention
node_of n = record { name = n.name.text; line = n.name.line }

-- an attribute is the weight
abbrev pub names_weight : DotId → Bool
names_weight id = not id.is_html && is_weight id.text

-- what a list's attributes that are the weight are set to
abbrev pub list_weights : List Attribute → List (List ℕ)
list_weights attributes = map (λ a. a.value.text) (filter (λ a. names_weight a.name) attributes)

-- the same of lists, one after another
abbrev pub weights_said : List (List Attribute) → List (List ℕ)
weights_said lists = flat_map list_weights lists

-- the weight of a word, where it says one; else the weight so far
abbrev pub weight_or : Weight → Result Weight WeightFault → Weight
weight_or sofar (Ok weight) = weight
weight_or sofar (Err fault) = sofar

-- the weight of the last of the words, or this one where there is none
abbrev pub last_weight : Option ℕ → Weight → List (List ℕ) → Weight
last_weight factor weight [] = weight
last_weight factor weight (word ∷ words) = last_weight factor (weight_or weight (weight_of factor word)) words

-- the nodes of a statement, in order
abbrev pub statement_nodes : Statement → List DotMention
statement_nodes (NodeStatement node lists) = node_of node ∷ []
statement_nodes (EdgeStatement first second others lists) = node_of first ∷ node_of second ∷ map node_of others
statement_nodes (DefaultStatement default first lists) = []
statement_nodes (SettingStatement name value) = []

-- the edges of a statement: between each of its nodes and the next, with the weight that it says last, or without one 1
-- times the factor
abbrev pub statement_edges : Option ℕ → Statement → List NamedEdge
statement_edges factor (NodeStatement node lists) = []
statement_edges factor (EdgeStatement first second others lists) =
    chain (last_weight factor (unsaid_weight factor) (weights_said lists)) (node_of first ∷ node_of second ∷ map node_of others)
statement_edges factor (DefaultStatement default first lists) = []
statement_edges factor (SettingStatement name value) = []

-- the nodes of statements, in order. A subgraph's nodes and edges are those of its statements
abbrev pub nodes_in : Statements → List DotMention
nodes_in NoStatement = []
nodes_in (OneStatement statement semicolon behind) = statement_nodes statement ++ nodes_in behind
nodes_in (OneSubgraph head body semicolon behind) = nodes_in body ++ nodes_in behind

-- the edges of statements, in order
abbrev pub edges_of : Option ℕ → Statements → List NamedEdge
edges_of factor NoStatement = []
edges_of factor (OneStatement statement semicolon behind) = statement_edges factor statement ++ edges_of factor behind
edges_of factor (OneSubgraph head body semicolon behind) = edges_of factor body ++ edges_of factor behind

-- the graph that a tree means
abbrev pub meaning : Option ℕ → DotTree → DotGraph
meaning factor g = record { nodes = nodes_in g.statements; edges = edges_of factor g.statements }

-- ---- which trees are read

-- of all words a weight can be read
abbrev pub AreWeights : Option ℕ → List (List ℕ) → Type 0
AreWeights factor words = AllByRecursion (λ word. IsOk (weight_of factor word)) words

-- nodes have names, an edge statement's weights can be read, and no weight is set for all edges
abbrev pub IsStatement : Option ℕ → Statement → Type 0
IsStatement factor (NodeStatement node lists) = IsNodeName node.name
IsStatement factor (EdgeStatement first second others lists) = AllByRecursion (λ n. IsNodeName n.name) (first ∷ second ∷ others) × AreWeights factor (weights_said lists)
IsStatement factor (DefaultStatement EdgeDefault first lists) = weights_said (first ∷ lists) ≡ []
IsStatement factor (DefaultStatement default first lists) = Unit {0}
IsStatement factor (SettingStatement name value) = Unit {0}

-- all statements are such, also those of subgraphs
abbrev pub AreStatements : Option ℕ → Statements → Type 0
AreStatements factor NoStatement = Unit {0}
AreStatements factor (OneStatement statement semicolon behind) = IsStatement factor statement × AreStatements factor behind
AreStatements factor (OneSubgraph head body semicolon behind) = AreStatements factor body × AreStatements factor behind

-- how deep subgraphs are nested
abbrev pub depth_of : Statements → ℕ
depth_of NoStatement = 0
depth_of (OneStatement statement semicolon behind) = depth_of behind
depth_of (OneSubgraph head body semicolon behind) = max (depth_of body + 1) (depth_of behind)

-- a tree that is read; undirected: a directed graph is read as an undirected one
pub record IsTree (undirected : Bool) (factor : Option ℕ) (g : DotTree) : Type 0 where
  pub kind : g.directed ≡ true → undirected ≡ true
  pub depth : depth_of g.statements ≤ most_depth
  pub statements : AreStatements factor g.statements

-- the text is a spelling of this tree, which is read: the marks of the lexemes of which it consists are the tree's
pub record Spells (undirected : Bool) (factor : Option ℕ) (text : List ℕ) (g : DotTree) : Type 0 where
  pub tree : IsTree undirected factor g
  pub lexemes : List Lexeme
  pub lexes : Lexes text lexemes
  pub marks : marks_of lexemes ≡ tree_marks g

-- Networks of edges whose ends are names: the file of these names, and why there is none.
use Rattle.std.specs.Prelude.{◌≡◌, ◌≢◌, ◌⊎◌, ℕ, List, [], map, Result, Ok, Err}
use Rattle.net_names.specs.Naming.{AreNames}
use Rattle.net_names.specs.NamesFiles.{text_of, HasNames}
use Rattle.import_lines.specs.declared.mention.Mention.{Mention}
use Rattle.import_lines.specs.Named.{NamedEdge}
use Rattle.import_formats.specs.declared.edges.fault.EdgeFault.{EdgeFault}
use Rattle.import_formats.specs.declared.edges.row_fault.TableFault.{TableFault}
use Rattle.import_formats.specs.declared.json.fault.JsonFault.{JsonFault}
use Rattle.import_formats.specs.json.Graphs.{NodeLinks, unplaced}
use Rattle.import_formats.specs.declared.dot.fault.DotFault.{DotFault}
use Rattle.import_formats.specs.dot.Graphs.{DotMention, DotGraph}
use Rattle.import_formats.specs.dot.View.{mention_of}
use Rattle.import_links.specs.declared.join_fault.JoinFault.{JoinFault}
use Rattle.import_links.specs.declared.join_fault.JoinFault.TheVariants as join
use Rattle.import_links.specs.Joining.{names_with}
use Rattle.import_links.specs.Refusals.{IsRefusal, IsMentionRefusal}
use Rattle.import_network.specs.declared.making.Making.{Making}
use Rattle.import_network.specs.Makings.{most_of}
use Rattle.import_network.specs.declared.fault.ImportFault.{ImportFault}
use Rattle.import_network.specs.declared.fault.ImportFault.TheVariants.{Json, Join, Memory}
use Rattle.import_network.specs.Faults.{edge_fault, table_fault, dot_fault}
use Rattle.import_network.specs.Drafts.{graph_names, named_draft, node_links_draft, made}

-- the bytes are a line for each name, and a reader of files of names reads these names
pub record IsNameFile (names : List (List ℕ)) (bytes : List ℕ) : Type 0 where
  pub text : bytes ≡ text_of names
  pub reads_back : HasNames bytes names

-- edges were read, and the bytes are a file of their names, in the order of their first appearance
pub record IsNamesOf {E : Type 0} (read : Result (List NamedEdge) E) (bytes : List ℕ) : Type 0 where
  pub edges : List NamedEdge
  pub is_read : read ≡ Ok edges
  pub names : IsNameFile (names_with [] edges) bytes

-- a text says a graph, and the bytes are a file of the names of its nodes, in the order of their first appearance
pub record IsNamesOfGraph (says : Result DotGraph DotFault → Type 0) (bytes : List ℕ) : Type 0 where
  pub graph : DotGraph
  pub is_said : says (Ok graph)
  pub names : IsNameFile (names_with (graph_names graph) graph.edges) bytes

-- a graph in node-link JSON was read, and the bytes are a file of the names of its nodes, in its order
pub record IsNamesOfNodes (read : Result NodeLinks JsonFault) (bytes : List ℕ) : Type 0 where
  pub graph : NodeLinks
  pub is_read : read ≡ Ok graph
  pub names : IsNameFile graph.names bytes

-- why edges make no network where nodes have these names: an end that has no number; where each has one, the fault of their links; or running out of memory
abbrev pub IsJoinFault : Making → List (List ℕ) → List NamedEdge → ImportFault → Type 0
IsJoinFault making names edges Memory = Unit {0}
IsJoinFault making names edges (Join fault) = (fault ≢ join.Memory) × IsRefusal (most_of making) names edges fault
IsJoinFault making names edges fault = AreNames (names_with names edges) × (made making (named_draft names edges) ≡ Err fault)

-- why a list of edges makes no network: a bad line; where none is bad, the fault of its edges
abbrev pub IsEdgesFault : Making → Result (List NamedEdge) EdgeFault → ImportFault → Type 0
IsEdgesFault making (Err bad) fault = fault ≡ edge_fault bad
IsEdgesFault making (Ok edges) fault = IsJoinFault making [] edges fault

-- why a table of edges makes no network: a bad row; where none is bad, the fault of its edges; or running out of memory
abbrev pub IsTableFault : Making → Result (List NamedEdge) TableFault → ImportFault → Type 0
IsTableFault making (Err bad) fault = fault ≢ Memory → fault ≡ table_fault bad
IsTableFault making (Ok edges) fault = IsJoinFault making [] edges fault

-- nodes that a text names have no numbers: the first that has none
pub record IsUnnumbered (most : ℕ) (nodes : List DotMention) (fault : JoinFault) : Type 0 where
  pub mentions : List Mention
  pub are_these : map mention_of mentions ≡ nodes
  pub some : fault ≢ join.Memory
  pub why : IsMentionRefusal most mentions fault

-- why a graph makes no network: a node that has no number; where each has one, the fault of its edges
abbrev pub IsGraphFault : Making → DotGraph → ImportFault → Type 0
IsGraphFault making g (Join fault) = IsUnnumbered (most_of making) g.nodes fault ⊎ IsJoinFault making (graph_names g) g.edges (Join fault)
IsGraphFault making g fault = IsJoinFault making (graph_names g) g.edges fault

-- why what a text in Graphviz's language says makes no network: the text's first fault, or the fault of its graph
abbrev pub IsSaidFault : Making → Result DotGraph DotFault → ImportFault → Type 0
IsSaidFault making (Err bad) fault = fault ≡ dot_fault bad
IsSaidFault making (Ok g) fault = IsGraphFault making g fault

-- why a text in Graphviz's language makes no network, by what it says
pub record IsDotFault (making : Making) (says : Result DotGraph DotFault → Type 0) (fault : ImportFault) : Type 0 where
  pub said : Result DotGraph DotFault
  pub is_said : says said
  pub why : IsSaidFault making said fault

-- a fault of a text of JSON is told, and where the text is no JSON about where
pub record IsToldOf (bad : JsonFault) (fault : ImportFault) : Type 0 where
  pub why : JsonFault
  pub told : fault ≡ Json why
  pub same : bad ≡ unplaced why

-- why a text of node-link JSON makes no network: its first fault; where it has none, the fault of its links; or running out of memory
abbrev pub IsJsonFault : Making → Result NodeLinks JsonFault → ImportFault → Type 0
IsJsonFault making (Err bad) fault = fault ≢ Memory → IsToldOf bad fault
IsJsonFault making (Ok g) fault = fault ≢ Memory → made making (node_links_draft g) ≡ Err fault

-- What texts in other formats say, and the networks that are made of it.
use Rattle.std.specs.Prelude.{◌≡◌, ◌+◌, ℕ, Bool, not, List, [], length, count_by, Option, Result, Ok}
use Rattle.link_net.specs.Reading.{reading_of}
use Rattle.net_text.specs.Listing.{Listing, described}
use Rattle.import_lines.specs.Named.{NamedEdge}
use Rattle.import_formats.specs.declared.edges.reader.Reading.{Reading}
use Rattle.import_formats.specs.edges.Edges.{edges_of}
use Rattle.import_formats.specs.declared.edges.row_reader.TableReading.{TableReading}
use Rattle.import_formats.specs.edges.Tables.{table_edges}
use Rattle.import_links.specs.Joining.{names_in, names_with, links_of}
use Rattle.import_links.specs.Numbering.{links_in, nodes_of}
use Rattle.import_links.specs.declared.placed.PlacedLink.{PlacedLink}
use Rattle.import_links.specs.declared.mending.Mending.{Mending}
use Rattle.import_links.specs.Settling.{left_by, settled}
use Rattle.import_formats.specs.matrix_market.Matrices.{MatrixLinks}
use Rattle.import_formats.specs.declared.matrix_market.fault.MatrixFault.{MatrixFault}
use Rattle.import_formats.specs.declared.dot.fault.DotFault.{DotFault}
use Rattle.import_formats.specs.dot.Graphs.{DotGraph, names}
use Rattle.import_formats.specs.json.Graphs as json
use Rattle.import_formats.specs.matrix_market.Steps.{and_then, told_as}
use Rattle.import_network.specs.declared.fault.ImportFault.{ImportFault}
use Rattle.import_network.specs.declared.imported.Imported.{Imported}
use Rattle.import_network.specs.declared.making.Making.{Making}
use Rattle.import_network.specs.declared.making.Making.TheVariants.{File, Packed}
use Rattle.import_network.specs.Makings.{led}
use Rattle.large_pack.specs.declared.options.PackOptions.{PackOptions}
use Rattle.large_net.specs.File.{large_of}
use Rattle.large_pack.specs.Rows.{HasArcs}
use Rattle.large_pack.specs.Packing.{Packing}
use Rattle.link_net.specs.Neighbours.{Neighbours}
use Rattle.import_network.specs.LinkPacking.{pack_fault, packing_in}
use Rattle.import_network.specs.Faults.{edge_fault, table_fault, matrix_fault, json_fault, number_fault, settle_fault}

-- what a text says: how many nodes there are, and the links in its order
pub record Draft : Type 0 where
  pub nodes : ℕ
  pub links : List PlacedLink

-- what a matrix says
abbrev pub matrix_draft : MatrixLinks → Draft
matrix_draft m = record { nodes = m.nodes; links = m.links }

-- what edges say whose ends are numbers of nodes, of which there may be so many
abbrev pub numbered_draft : ℕ → List NamedEdge → Result Draft ImportFault
numbered_draft most edges = and_then (told_as number_fault (links_in most edges)) (λ links. Ok (record { nodes = nodes_of links; links = links }))

-- what a text says, a list of edges whose ends are numbers of nodes
abbrev pub numbers_draft : ℕ → Reading → List ℕ → Result Draft ImportFault
numbers_draft most reading text = and_then (told_as edge_fault (edges_of reading text)) (numbered_draft most)

-- what edges say whose ends are names: nodes have the names that are given, and others are numbered after them, in the order of their first appearance
abbrev pub named_draft : List (List ℕ) → List NamedEdge → Draft
named_draft names edges = record { nodes = length (names_with names edges); links = links_of names edges }

-- what a text says, a list of edges whose ends are names
abbrev pub edges_draft : Reading → List ℕ → Result Draft ImportFault
edges_draft reading text = and_then (told_as edge_fault (edges_of reading text)) (λ edges. Ok (named_draft [] edges))

-- what a table of edges says whose ends are names, and one whose ends are numbers of nodes
abbrev pub table_draft : TableReading → List ℕ → Result Draft ImportFault
table_draft reading text = and_then (told_as table_fault (table_edges reading text)) (λ edges. Ok (named_draft [] edges))

abbrev pub table_numbers_draft : ℕ → TableReading → List ℕ → Result Draft ImportFault
table_numbers_draft most reading text = and_then (told_as table_fault (table_edges reading text)) (numbered_draft most)

-- the names of a graph's nodes, each once, in the order of their first appearance
abbrev pub graph_names : DotGraph → List (List ℕ)
graph_names g = names_in [] (names g.nodes)

-- what a graph says
abbrev pub graph_draft : DotGraph → Draft
graph_draft g = named_draft (graph_names g) g.edges

-- what a graph in node-link JSON says
abbrev pub node_links_draft : json.NodeLinks → Draft
node_links_draft g = record { nodes = length g.names; links = g.links }

-- what a text says, a graph in node-link JSON of so many nodes at most
abbrev pub json_draft : ℕ → Bool → Option ℕ → List ℕ → Result Draft ImportFault
json_draft most undirected factor text = and_then (told_as json_fault (json.graph_of most undirected factor text)) (λ g. Ok (node_links_draft g))

-- the links of a network file, self-loops and parallel edges mended, or why there are none
abbrev pub filed : Mending → Draft → Result Listing ImportFault
filed mending draft = told_as settle_fault (settled draft.nodes mending draft.links)

-- what is packed by these options, or why nothing is
abbrev pub packing_of : PackOptions → Draft → Result Packing ImportFault
packing_of options draft = told_as (pack_fault draft.links) (packing_in draft.nodes options draft.links)

-- a network is made of a draft, or why none is
abbrev pub made : Making → Draft → Result (Unit {0}) ImportFault
made (File mending) draft = and_then (filed mending draft) (λ _. Ok tt)
made (Packed options) draft = and_then (packing_of options draft) (λ _. Ok tt)

-- a network is made of the matrix that a text says, whose links lead one way or both, or why none is
abbrev pub matrix_made : Making → Result MatrixLinks MatrixFault → Result (Unit {0}) ImportFault
matrix_made making read = and_then (told_as matrix_fault read) (λ m. made (led m.is_directed making) (matrix_draft m))

-- a network is made of what a text says, or why none is
abbrev pub made_in : Making → Result Draft ImportFault → Result (Unit {0}) ImportFault
made_in making said = and_then said (made making)

-- the weight is not the one that stands in the text
abbrev pub is_rounded : PlacedLink → Bool
is_rounded p = not p.exact

-- a reader of network files reads exactly the draft's network, of phase 0 and without initial values; and the three numbers are how many links were dropped, merged and rounded
pub record IsFiled (mending : Mending) (draft : Draft) (imported : Imported) : Type 0 where
  pub listing : Listing
  pub is_settled : settled draft.nodes mending draft.links ≡ Ok listing
  pub network : reading_of imported.network.items ≡ Ok (described listing 0 [])
  pub dropped : imported.dropped + length (left_by mending.self_loops draft.links) ≡ length draft.links
  pub merged : imported.merged + length listing.links ≡ length (left_by mending.self_loops draft.links)
  pub rounded : imported.rounded ≡ count_by is_rounded draft.links

-- a reader of packed networks reads exactly the network that the draft is packed into; and the three numbers are how many links were dropped, merged and rounded
pub record IsPacked (options : PackOptions) (draft : Draft) (imported : Imported) : Type 0 where
  pub packing : Packing
  pub is_packed : packing_of options draft ≡ Ok packing
  pub rows : Neighbours
  pub has_arcs : HasArcs packing.nodes packing.arcs rows
  pub network : large_of imported.network.items ≡ Ok rows
  pub dropped : imported.dropped ≡ packing.dropped_loops
  pub merged : imported.merged ≡ packing.merged
  pub rounded : imported.rounded ≡ count_by is_rounded draft.links

-- this was made of a draft, in the form that is asked for
abbrev pub IsMadeOf : Making → Draft → Imported → Type 0
IsMadeOf (File mending) = IsFiled mending
IsMadeOf (Packed options) = IsPacked options

-- a text says something, and this was made of it
pub record IsImported (making : Making) (said : Result Draft ImportFault) (imported : Imported) : Type 0 where
  pub draft : Draft
  pub is_said : said ≡ Ok draft
  pub made_of : IsMadeOf making draft imported

-- a matrix was read, and this was made of it
pub record IsImportedMatrix (making : Making) (read : Result MatrixLinks MatrixFault) (imported : Imported) : Type 0 where
  pub matrix : MatrixLinks
  pub is_read : read ≡ Ok matrix
  pub made_of : IsMadeOf (led matrix.is_directed making) (matrix_draft matrix) imported

-- a text says a graph, and this was made of it
pub record IsImportedGraph (making : Making) (says : Result DotGraph DotFault → Type 0) (imported : Imported) : Type 0 where
  pub graph : DotGraph
  pub is_said : says (Ok graph)
  pub made_of : IsMadeOf making (graph_draft graph) imported

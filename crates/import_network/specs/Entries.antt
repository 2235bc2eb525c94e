-- The edges of a matrix, and what they are packed into.
use Rattle.std.specs.Prelude.{ℕ, Bool, false, List, map, Some, Result, Ok, if◌then◌else◌}
use Rattle.link_net.specs.Limits.{most_rows}
use Rattle.import_links.specs.declared.placed.PlacedLink.{PlacedLink}
use Rattle.import_formats.specs.declared.matrix_market.matrix.EntryReading.{EntryReading}
use Rattle.import_formats.specs.declared.matrix_market.matrix.Direction.TheVariants.{LeftAside, Kept}
use Rattle.import_formats.specs.matrix_market.Steps.{and_then, told_as}
use Rattle.import_formats.specs.matrix_market.Matrices.{MatrixLinks, entries_of}
use Rattle.large_pack.specs.declared.edge_line.EdgeLine.{EdgeLine}
use Rattle.large_pack.specs.declared.options.PackOptions.{PackOptions}
use Rattle.large_pack.specs.declared.fault.PackFault.{PackFault}
use Rattle.large_pack.specs.Sound.{loop_fault, first_fault, unless}
use Rattle.large_pack.specs.Packing.{Packing, packing_in}
use Rattle.import_network.specs.declared.packed_matrix.fault.MatrixPackFault.{MatrixPackFault}
use Rattle.import_network.specs.declared.packed_matrix.options.MatrixOptions.{MatrixOptions}
use Rattle.import_network.specs.MatrixFaults.{matrix_fault, edges_fault}

-- the edge of an entry: from its row to its column
abbrev pub edge_of : PlacedLink → EdgeLine
edge_of p = record { first = p.link.0; second = p.link.1; weight = p.link.2; line = p.line }

-- the edges of all entries
abbrev pub edges_of : List PlacedLink → List EdgeLine
edges_of links = map edge_of links

-- how the entries are read: a general matrix has a direction, unless that is left aside
abbrev pub reading_of : MatrixOptions → EntryReading
reading_of options = record { most_nodes = most_rows; direction = if options.undirected then LeftAside else Kept; factor = options.factor }

-- how the edges between so many nodes are packed
abbrev pub packing_options : MatrixOptions → ℕ → Bool → PackOptions
packing_options options nodes is_directed = record {
  nodes = Some nodes;
  is_directed = is_directed;
  reverse = false;
  factor = options.factor;
  header = false;
  self_loops = options.self_loops;
  parallel = options.parallel;
}

-- the matrix, or its first self-loop, where these are refused
abbrev pub straight_in : MatrixOptions → MatrixLinks → Result MatrixLinks PackFault
straight_in options m = unless (first_fault (loop_fault options.self_loops) (edges_of m.links)) (Ok m)

-- the matrix of a text, or the first fault: of the text, or a self-loop
abbrev pub sound_of : MatrixOptions → List ℕ → Result MatrixLinks MatrixPackFault
sound_of options text = and_then (told_as matrix_fault (entries_of (reading_of options) text)) (λ m. told_as edges_fault (straight_in options m))

-- what the edges of a matrix are packed into, or their first fault
abbrev pub matrix_packing : MatrixOptions → MatrixLinks → Result Packing PackFault
matrix_packing options m = packing_in (packing_options options m.nodes m.is_directed) (edges_of m.links)

-- what the matrix of a text is packed into, or the first fault
abbrev pub packing_of : MatrixOptions → List ℕ → Result Packing MatrixPackFault
packing_of options text = and_then (sound_of options text) (λ m. told_as edges_fault (matrix_packing options m))

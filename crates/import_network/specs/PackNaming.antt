-- Edges between named nodes, and what they are packed into. A node's number is the place of its name.
use Rattle.std.specs.Prelude.{ℕ, Bool, true, List, [], length, map, nat_lt, Option, Some, None, Result, Ok, Err, if◌then◌else◌}
use Rattle.std.specs.List.{filter_map, slice_get}
use Rattle.std.specs.Str.{bytes_eq}
use Rattle.link_net.specs.Limits.{most_rows}
use Rattle.import_lines.specs.Named.{NamedEdge}
use Rattle.import_formats.specs.declared.edges.reader.Reading.{Reading}
use Rattle.import_formats.specs.edges.Steps.{and_then, fault_as}
use Rattle.import_lines.specs.Texts.{edge_lines}
use Rattle.import_formats.specs.edges.Edges.{edges_in}
use Rattle.import_links.specs.Joining.{names_with}
use Rattle.net_names.specs.Naming.{place_in}
use Rattle.large_pack.specs.declared.edge_line.EdgeLine.{EdgeLine}
use Rattle.large_pack.specs.declared.options.PackOptions.{PackOptions}
use Rattle.large_pack.specs.declared.options.SelfLoops.{SelfLoops}
use Rattle.large_pack.specs.declared.options.SelfLoops.TheVariants.{Refuse as RefuseLoops, Drop as DropLoops, Keep as KeepLoops}
use Rattle.large_pack.specs.declared.fault.PackFault.{PackFault}
use Rattle.large_pack.specs.declared.fault.PackFault.TheVariants.{SelfLoop}
use Rattle.large_pack.specs.Lines.{turned}
use Rattle.large_pack.specs.Sound.{node_fault, unless}
use Rattle.large_pack.specs.Packing.{Packing, packing_in}
use Rattle.import_network.specs.declared.packed_names.fault.NamesPackFault.{NamesPackFault}
use Rattle.import_network.specs.declared.packed_names.fault.NamesPackFault.TheVariants.{TooManyNames}
use Rattle.import_network.specs.NamesFaults.{lines_fault, edges_fault}

-- the edge between the numbers of its ends, turned round where that is asked
abbrev pub edge_in : Bool → List (List ℕ) → NamedEdge → EdgeLine
edge_in reverse names e = turned reverse (record { first = place_in names e.first; second = place_in names e.second; weight = e.weight; line = e.line })

-- all edges
abbrev pub numbered : Bool → List (List ℕ) → List NamedEdge → List EdgeLine
numbered reverse names es = map (edge_in reverse names) es

-- the fault of an edge whose ends have the same name, where that is refused
abbrev pub loop_of : SelfLoops → NamedEdge → Option PackFault
loop_of RefuseLoops e = if bytes_eq e.first e.second then Some (SelfLoop e.line) else None
loop_of DropLoops e = None
loop_of KeepLoops e = None

-- the fault of the first such edge
abbrev pub first_loop : SelfLoops → List NamedEdge → Option PackFault
first_loop self_loops es = slice_get (filter_map (loop_of self_loops) es) 0

-- the edges, or their first fault: that there is none, a self-loop
abbrev pub sound_in : SelfLoops → List NamedEdge → Result (List NamedEdge) PackFault
sound_in self_loops es = unless (node_fault (length es)) (unless (first_loop self_loops es) (Ok es))

-- how the lines are read: all words of a line are meant, and any number of blanks, tabs and commas part two of them
abbrev pub reading_of : PackOptions → Reading
reading_of options = record { header = options.header; columns = None; gaps = true; factor = options.factor }

-- the edges of a text, or the first fault: a bad line, or one of theirs
abbrev pub sound_of : PackOptions → List ℕ → Result (List NamedEdge) NamesPackFault
sound_of options text = and_then (fault_as lines_fault (edges_in (reading_of options) (edge_lines options.header text))) (λ es. fault_as edges_fault (sound_in options.self_loops es))

-- the names of the nodes of a text: each once, in the order of their first appearance
abbrev pub names_of : PackOptions → List ℕ → Result (List (List ℕ)) NamesPackFault
names_of options text = and_then (sound_of options text) (λ es. Ok (names_with [] es))

-- these options, for so many nodes
abbrev pub named_options : PackOptions → ℕ → PackOptions
named_options options nodes = record {
  nodes = Some nodes;
  is_directed = options.is_directed;
  reverse = options.reverse;
  factor = options.factor;
  header = options.header;
  self_loops = options.self_loops;
  parallel = options.parallel;
}

-- what edges are packed into, or their first fault: too many names, or one of the numbered edges
abbrev pub named_packing : PackOptions → List NamedEdge → Result Packing NamesPackFault
named_packing options es =
    let names = names_with [] es in
    if nat_lt most_rows (length names) then Err TooManyNames
    else fault_as edges_fault (packing_in (named_options options (length names)) (numbered options.reverse names es))

-- what the edges of a text are packed into, or the first fault
abbrev pub packing_of : PackOptions → List ℕ → Result Packing NamesPackFault
packing_of options text = and_then (sound_of options text) (named_packing options)

-- Links between numbered nodes, and what they are packed into. An edge stands in the line that is its link's place: several links may stand in one line of a text, and each has a place of its own.
use Rattle.std.specs.Prelude.{ℕ, ◌+◌, Bool, List, [], ◌∷◌, slice_get, Option, Some, None, Result}
use Rattle.import_links.specs.declared.placed.PlacedLink.{PlacedLink}
use Rattle.import_links.specs.declared.settle_fault.SettleFault.TheVariants as settle
use Rattle.large_pack.specs.declared.edge_line.EdgeLine.{EdgeLine}
use Rattle.large_pack.specs.declared.options.PackOptions.{PackOptions}
use Rattle.large_pack.specs.declared.fault.PackFault.{PackFault}
use Rattle.large_pack.specs.declared.fault.PackFault.TheVariants as pack
use Rattle.large_pack.specs.Lines.{and_then, turned}
use Rattle.large_pack.specs.Sound.{sound_in}
use Rattle.large_pack.specs.Packing as packing
use Rattle.large_pack.specs.Packing.{Packing}
use Rattle.import_network.specs.PackNaming.{named_options}
use Rattle.import_network.specs.declared.fault.ImportFault.{ImportFault}
use Rattle.import_network.specs.declared.fault.ImportFault.TheVariants.{Settle, Packing as NotPacked, Memory}

-- the edge of the link at a place, turned round where that is asked
abbrev pub edge_at : Bool → ℕ → PlacedLink → EdgeLine
edge_at reverse place p = turned reverse (record { first = p.link.0; second = p.link.1; weight = p.link.2; line = place })

-- the edges of links, of which the first stands at this place
abbrev pub edges_from : Bool → ℕ → List PlacedLink → List EdgeLine
edges_from reverse place [] = []
edges_from reverse place (p ∷ ps) = edge_at reverse place p ∷ edges_from reverse (place + 1) ps

-- what links between so many nodes are packed into, or the first fault, which has places for lines
abbrev pub packing_in : ℕ → PackOptions → List PlacedLink → Result Packing PackFault
packing_in nodes options ps =
    let here = named_options options nodes in
    and_then (sound_in here (edges_from here.reverse 0 ps)) (packing.packing_in here)

-- the line of a link that is there
abbrev pub line_of : Option PlacedLink → ℕ
line_of None = 0
line_of (Some p) = p.line

-- the line of the link at a place
abbrev pub line_at : List PlacedLink → ℕ → ℕ
line_at ps place = line_of (slice_get ps place)

-- a fault that has places for lines as one that has the lines of the links there
abbrev pub pack_fault : List PlacedLink → PackFault → ImportFault
pack_fault ps (pack.SelfLoop place) = Settle (settle.SelfLoop (line_at ps place))
pack_fault ps (pack.ParallelEdge place earlier) = Settle (settle.ParallelEdge (line_at ps place) (line_at ps earlier))
pack_fault ps (pack.NodeOutside place node) = NotPacked (pack.NodeOutside (line_at ps place) node)
pack_fault ps pack.Memory = Memory
pack_fault ps fault = NotPacked fault

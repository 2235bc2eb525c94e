-- Edges that can be packed: their ends are nodes, and no self-loop is refused.
use Rattle.std.specs.Prelude.{ℕ, ◌+◌, ◌==◌, Bool, List, nat_le, max, slice_get, Option, Some, None, Result, Ok, Err, if◌then◌else◌}
use Rattle.std.specs.Option.{unwrap_or}
use Rattle.std.specs.List.{filter_map, fold}
use Rattle.large_pack.specs.declared.edge_line.EdgeLine.{EdgeLine}
use Rattle.large_pack.specs.declared.options.PackOptions.{PackOptions}
use Rattle.large_pack.specs.declared.options.SelfLoops.{SelfLoops}
use Rattle.large_pack.specs.declared.options.SelfLoops.TheVariants.{Refuse as RefuseLoops, Drop as DropLoops, Keep as KeepLoops}
use Rattle.large_pack.specs.declared.fault.PackFault.{PackFault}
use Rattle.large_pack.specs.declared.fault.PackFault.TheVariants.{NoNode, NodeOutside, SelfLoop}
use Rattle.large_pack.specs.Lines.{and_then, edges_of}

-- the edge joins a node with itself
abbrev pub is_loop : EdgeLine → Bool
is_loop e = e.first == e.second

-- the least number above those of all ends
abbrev pub reach : List EdgeLine → ℕ
reach edges = fold (λ n e. max (max n (e.first + 1)) (e.second + 1)) 0 edges

-- how many nodes there are: the given number, or as many as the edges reach
abbrev pub node_count : Option ℕ → List EdgeLine → ℕ
node_count given edges = unwrap_or given (reach edges)

-- the fault of an edge with an end that is not below the number of nodes, where that is given
abbrev pub outside_fault : Option ℕ → EdgeLine → Option PackFault
outside_fault None e = None
outside_fault (Some n) e =
    if nat_le n e.first then Some (NodeOutside e.line e.first)
    else if nat_le n e.second then Some (NodeOutside e.line e.second)
    else None

-- the fault of a self-loop, where it is refused
abbrev pub loop_fault : SelfLoops → EdgeLine → Option PackFault
loop_fault RefuseLoops e = if is_loop e then Some (SelfLoop e.line) else None
loop_fault DropLoops e = None
loop_fault KeepLoops e = None

-- the first fault of this kind
abbrev pub first_fault : (EdgeLine → Option PackFault) → List EdgeLine → Option PackFault
first_fault fault_of edges = slice_get (filter_map fault_of edges) 0

-- the fault that there is no node
abbrev pub node_fault : ℕ → Option PackFault
node_fault n = if n == 0 then Some NoNode else None

-- the fault, where there is one, else the result
abbrev pub unless : {A : Type 0} → Option PackFault → Result A PackFault → Result A PackFault
unless None r = r
unless (Some fault) r = Err fault

-- the edges, or their first fault: that there is no node, an end that is none, a self-loop
abbrev pub sound_in : PackOptions → List EdgeLine → Result (List EdgeLine) PackFault
sound_in options edges =
    unless (node_fault (node_count options.nodes edges))
    (unless (first_fault (outside_fault options.nodes) edges)
    (unless (first_fault (loop_fault options.self_loops) edges) (Ok edges)))

-- the edges of a text, or the first fault: a bad line, or one of theirs
abbrev pub sound_of : PackOptions → List ℕ → Result (List EdgeLine) PackFault
sound_of options text = and_then (edges_of options text) (sound_in options)

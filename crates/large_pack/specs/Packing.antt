-- Edges packed: which of them stay, and the network that these make.
use Rattle.std.specs.Prelude.{◌≡◌, ◌≢◌, ℕ, ◌-◌, ◌==◌, Bool, true, false, not, ◌&&◌, ◌||◌, List, [], ◌∷◌, length, nat_lt, Option, Some, None, option_map, option_and_then, find, Result, Ok, Err, if◌then◌else◌}
use Rattle.std.specs.List.{list_any, filter, flat_map}
use Rattle.link_net.specs.Arcs.{Arc}
use Rattle.link_net.specs.Limits.{most_rows}
use Rattle.import_lines.specs.Weights.{most_weight}
use Rattle.large_pack.specs.declared.edge_line.EdgeLine.{EdgeLine}
use Rattle.large_pack.specs.declared.options.PackOptions.{PackOptions}
use Rattle.large_pack.specs.declared.options.SelfLoops.{SelfLoops}
use Rattle.large_pack.specs.declared.options.SelfLoops.TheVariants.{Refuse as RefuseLoops, Drop as DropLoops, Keep as KeepLoops}
use Rattle.large_pack.specs.declared.options.Parallel.{Parallel}
use Rattle.large_pack.specs.declared.options.Parallel.TheVariants.{Refuse, Keep, Least, Greatest, First}
use Rattle.large_pack.specs.declared.fault.PackFault.{PackFault}
use Rattle.large_pack.specs.declared.fault.PackFault.TheVariants.{ParallelEdge, TooManyEdges, Memory}
use Rattle.large_pack.specs.declared.pack.Packed.{Packed}
use Rattle.large_pack.specs.Lines.{and_then}
use Rattle.large_pack.specs.Rows.{HasArcs}
use Rattle.large_pack.specs.Sound.{is_loop, node_count, unless, sound_of}

-- the edges that stay where self-loops are treated so
abbrev pub straight_edges : SelfLoops → List EdgeLine → List EdgeLine
straight_edges DropLoops edges = filter (λ e. not (is_loop e)) edges
straight_edges RefuseLoops edges = edges
straight_edges KeepLoops edges = edges

-- both join the same two nodes: in the same direction, or where edges have none either way round
abbrev pub join_alike : Bool → EdgeLine → EdgeLine → Bool
join_alike is_directed d e = (d.first == e.first && d.second == e.second) || (not is_directed && (d.first == e.second && d.second == e.first))

-- the rank of an edge of this weight: the lower, the sooner it stays
abbrev pub rank_of : Parallel → ℕ → ℕ
rank_of Least weight = weight
rank_of Greatest weight = most_weight - weight
rank_of Refuse weight = 0
rank_of Keep weight = 0
rank_of First weight = 0

-- d goes before e: its rank is lower, or it is the same and d stands in an earlier line
abbrev pub goes_before : Parallel → EdgeLine → EdgeLine → Bool
goes_before parallel d e =
    nat_lt (rank_of parallel d.weight) (rank_of parallel e.weight)
    || (rank_of parallel d.weight == rank_of parallel e.weight && nat_lt d.line e.line)

-- some edge that joins the same two nodes goes before it
abbrev pub is_behind : PackOptions → List EdgeLine → EdgeLine → Bool
is_behind options edges e = list_any (λ d. join_alike options.is_directed d e && goes_before options.parallel d e) edges

-- edges that join the same two nodes are merged into one of them
abbrev pub merges : Parallel → Bool
merges Least = true
merges Greatest = true
merges First = true
merges Refuse = false
merges Keep = false

-- an edge that joins the same two nodes as an earlier one is refused
abbrev pub refuses : Parallel → Bool
refuses Refuse = true
refuses Keep = false
refuses Least = false
refuses Greatest = false
refuses First = false

-- the edges that stay: all, or of those that join the same two nodes the one that goes before the others
abbrev pub kept_edges : PackOptions → List EdgeLine → List EdgeLine
kept_edges options edges = if merges options.parallel then filter (λ e. not (is_behind options edges e)) edges else edges

-- the arcs of an edge: to its second end, and where edges have no direction also back, but once for a self-loop
abbrev pub edge_arcs : Bool → EdgeLine → List Arc
edge_arcs is_directed e = (e.first, e.second, e.weight) ∷ (if is_directed || is_loop e then [] else (e.second, e.first, e.weight) ∷ [])

-- the arcs of all edges
abbrev pub arcs_of : Bool → List EdgeLine → List Arc
arcs_of is_directed edges = flat_map (edge_arcs is_directed) edges

-- the fault that e repeats an edge, the first that joins the same two nodes
abbrev pub repeat_of : PackOptions → List EdgeLine → EdgeLine → Option PackFault
repeat_of options edges e = option_map (λ d. ParallelEdge e.line d.line) (find (λ d. join_alike options.is_directed d e) edges)

-- the fault of the first edge that joins the same two nodes as an earlier one, where that is refused
abbrev pub repeat_fault : PackOptions → List EdgeLine → Option PackFault
repeat_fault options edges =
    if refuses options.parallel then option_and_then (repeat_of options edges) (find (is_behind options edges) edges) else None

-- the fault that there are too many arcs
abbrev pub crowd_fault : List Arc → Option PackFault
crowd_fault arcs = if nat_lt most_rows (length arcs) then Some TooManyEdges else None

-- what edges are packed into: so many nodes and these arcs; how many edges there are, how many of these are self-loops that are left out, and how many are merged into others
pub record Packing : Type 0 where
  pub nodes : ℕ
  pub arcs : List Arc
  pub lines : ℕ
  pub dropped_loops : ℕ
  pub merged : ℕ

-- what sound edges are packed into, or their fault: one that repeats another, too many arcs
abbrev pub packing_in : PackOptions → List EdgeLine → Result Packing PackFault
packing_in options edges =
    let straight = straight_edges options.self_loops edges in
    let kept = kept_edges options straight in
    let arcs = arcs_of options.is_directed kept in
    unless (repeat_fault options straight)
    (unless (crowd_fault arcs)
    (Ok (record { nodes = node_count options.nodes edges; arcs = arcs; lines = length edges; dropped_loops = length edges - length straight; merged = length straight - length kept })))

-- what the edges of a text are packed into, or the first fault
abbrev pub packing_of : PackOptions → List ℕ → Result Packing PackFault
packing_of options text = and_then (sound_of options text) (packing_in options)

-- what was returned is packed so
pub record IsPackedAs (packing : Packing) (packed : Packed) : Type 0 where
  pub network : HasArcs packing.nodes packing.arcs packed.network
  pub lines : packed.lines ≡ packing.lines
  pub dropped_loops : packed.dropped_loops ≡ packing.dropped_loops
  pub merged : packed.merged ≡ packing.merged

-- what was returned is the defined packing or its fault, or stands for running out of memory, whose fault this is
abbrev pub IsAnswerOr : {E : Type 0} → E → Result Packing E → Result Packed E → Type 0
IsAnswerOr memory (Ok packing) (Ok packed) = IsPackedAs packing packed
IsAnswerOr memory (Err fault) (Ok packed) = ⊥
IsAnswerOr memory defined (Err fault) = fault ≢ memory → defined ≡ Err fault

abbrev pub IsAnswer : Result Packing PackFault → Result Packed PackFault → Type 0
IsAnswer = IsAnswerOr Memory

-- Edges as they are compared. Public clauses cite ranked, LinesRise, RankedWithin and AreTied; the rest is internal.
use Rattle.std.specs.Prelude.{◌≡◌, ℕ, ◌==◌, ◌<◌, Bool, not, ◌&&◌, ◌||◌, List, [], ◌∷◌, map, nat_lt, nat_le, Option, Some, None, option_map, option_and_then, find, Result, Ok, if◌then◌else◌}
use Rattle.std.specs.List.{list_any, filter, AllByRecursion}
use Rattle.link_net.specs.Arcs.{Arc}
use Rattle.large_pack.specs.declared.edge_line.EdgeLine.{EdgeLine}
use Rattle.large_pack.specs.declared.options.PackOptions.{PackOptions}
use Rattle.large_pack.specs.declared.options.SelfLoops.{SelfLoops}
use Rattle.large_pack.specs.declared.options.SelfLoops.TheVariants.{Refuse as RefuseLoops, Drop as DropLoops, Keep as KeepLoops}
use Rattle.large_pack.specs.declared.fault.PackFault.{PackFault}
use Rattle.large_pack.specs.declared.ranked.Ranked.{Ranked}
use Rattle.large_pack.specs.Lines.{and_then}
use Rattle.large_pack.specs.Packing.{rank_of, merges, refuses}
use Rattle.large_pack.specs.declared.options.Parallel.{Parallel}
use Rattle.large_pack.specs.declared.fault.PackFault.TheVariants.{ParallelEdge}

-- the two ends, the lower first where edges have no direction
abbrev pub ends_of : Bool → ℕ → ℕ → ℕ × ℕ
ends_of is_directed a b = if not is_directed && nat_lt b a then (b, a) else (a, b)

-- an edge as it is compared
abbrev pub ranked : PackOptions → EdgeLine → Ranked
ranked options e = record {
  first = (ends_of options.is_directed e.first e.second).0;
  second = (ends_of options.is_directed e.first e.second).1;
  rank = rank_of options.parallel e.weight;
  line = e.line;
  weight = e.weight;
}

-- the edges that are read, as they are compared
abbrev pub ranked_in : PackOptions → Result (List EdgeLine) PackFault → Result (List Ranked) PackFault
ranked_in options read = and_then read (λ edges. Ok (map (ranked options) edges))

-- both join the same two nodes
abbrev pub alike : Ranked → Ranked → Bool
alike d e = d.first == e.first && d.second == e.second

-- d joins the same two nodes as e and goes before it
abbrev pub beats : Ranked → Ranked → Bool
beats d e = alike d e && (nat_lt d.rank e.rank || (d.rank == e.rank && nat_lt d.line e.line))

-- some edge does so
abbrev pub is_beaten : List Ranked → Ranked → Bool
is_beaten edges e = list_any (λ d. beats d e) edges

-- the edges that none goes before
abbrev pub unbeaten : List Ranked → List Ranked
unbeaten edges = filter (λ e. not (is_beaten edges e)) edges

-- those that stay
abbrev pub kept_ranked : Parallel → List Ranked → List Ranked
kept_ranked parallel edges = if merges parallel then unbeaten edges else edges

-- the line of the first edge that another goes before, and the first line that joins the same two nodes
abbrev pub repeat_in : List Ranked → Option (ℕ × ℕ)
repeat_in edges = option_and_then (λ e. option_map (λ d. (e.line, d.line)) (find (λ d. alike d e) edges)) (find (is_beaten edges) edges)

-- its fault, where that is refused
abbrev pub repeat_ranked : Parallel → List Ranked → Option PackFault
repeat_ranked parallel edges = if refuses parallel then option_map (λ p. ParallelEdge p.0 p.1) (repeat_in edges) else None

-- the repeat of the lower line
abbrev pub sooner : Option (ℕ × ℕ) → ℕ × ℕ → Option (ℕ × ℕ)
sooner None p = Some p
sooner (Some q) p = if nat_le q.0 p.0 then Some q else Some p

-- of the edges after the head and of what is known, the least repeat
abbrev pub repeat_behind : Ranked → Option (ℕ × ℕ) → List Ranked → Option (ℕ × ℕ)
repeat_behind head known [] = known
repeat_behind head known (e ∷ edges) =
    if alike e head then repeat_behind head (sooner known (e.line, head.line)) edges else repeat_behind e known edges

abbrev pub least_repeat : List Ranked → Option (ℕ × ℕ)
least_repeat [] = None
least_repeat (e ∷ edges) = repeat_behind e None edges

-- those that are no self-loops, where these are dropped
abbrev pub straight_ranked : SelfLoops → List Ranked → List Ranked
straight_ranked DropLoops edges = filter (λ e. not (e.first == e.second)) edges
straight_ranked RefuseLoops edges = edges
straight_ranked KeepLoops edges = edges

-- each edge stands in a line before those of the edges after it
abbrev pub LinesRise : List Ranked → Type 0
LinesRise [] = Unit {0}
LinesRise (e ∷ edges) = AllByRecursion (λ d. e.line < d.line) edges × LinesRise edges

-- no edge is ranked before another
abbrev pub AreTied : List Ranked → Type 0
AreTied edges = AllByRecursion (λ e. e.rank ≡ 0) edges

-- the arcs of an edge
abbrev pub ranked_arcs : Bool → Ranked → List Arc
ranked_arcs is_directed e = (e.first, e.second, e.weight) ∷ (if is_directed || e.first == e.second then [] else (e.second, e.first, e.weight) ∷ [])

-- both ends of each edge are below n
abbrev pub RankedWithin : ℕ → List Ranked → Type 0
RankedWithin n edges = AllByRecursion (λ e. (e.first < n) × (e.second < n)) edges

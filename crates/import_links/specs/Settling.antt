-- Links of a text, made into those of a network.
use Rattle.std.specs.Prelude.{ℕ, Bool, not, List, [], ◌∷◌, ◌++◌, map, filter, Option, Some, None, option_map, Result, Ok, Err}
use Rattle.std.specs.List.{find}
use Rattle.std.specs.Option.{option_or}
use Rattle.link_net.specs.declared.fault.NetFault.{NetFault}
use Rattle.link_net.specs.Links.{is_self_link}
use Rattle.net_text.specs.Listing.{Link, Listing, listing_of}
use Rattle.import_links.specs.declared.placed.PlacedLink.{PlacedLink}
use Rattle.import_links.specs.declared.mending.SelfLoops.{SelfLoops}
use Rattle.import_links.specs.declared.mending.SelfLoops.TheVariants as self_loops
use Rattle.import_links.specs.declared.mending.ParallelLinks.{ParallelLinks}
use Rattle.import_links.specs.declared.mending.ParallelLinks.TheVariants as parallel
use Rattle.import_links.specs.declared.mending.Mending.{Mending}
use Rattle.import_links.specs.declared.settle_fault.SettleFault.{SettleFault}
use Rattle.import_links.specs.declared.settle_fault.SettleFault.TheVariants.{SelfLoop, ParallelEdge, Net}
use Rattle.import_links.specs.Merging.{are_parallel, merged}

-- the link joins a node with itself
abbrev pub is_self_loop : PlacedLink → Bool
is_self_loop p = is_self_link p.link

-- the links without their lines
abbrev pub links_of : List PlacedLink → List Link
links_of ps = map (λ p. p.link) ps

-- the links that join different nodes
abbrev pub straight : List PlacedLink → List PlacedLink
straight ps = filter (λ p. not (is_self_loop p)) ps

-- the line of the first link of a node with itself
abbrev pub first_self_loop : List PlacedLink → Option ℕ
first_self_loop ps = option_map (λ p. p.line) (find is_self_loop ps)

-- the links that are left, where those of a node with itself are dropped or refused
abbrev pub left_by : SelfLoops → List PlacedLink → List PlacedLink
left_by self_loops.Dropped ps = straight ps
left_by self_loops.Refused ps = ps

-- the line of the first link that is refused, since it joins a node with itself
abbrev pub refused_self_loop : SelfLoops → List PlacedLink → Option ℕ
refused_self_loop self_loops.Dropped ps = None
refused_self_loop self_loops.Refused ps = first_self_loop ps

-- both links join the same two nodes
abbrev pub are_twins : PlacedLink → PlacedLink → Bool
are_twins p q = are_parallel q.link p.link

-- the first link that joins the same two nodes as an earlier one, and the first of those: their lines
abbrev pub parallel_behind : List PlacedLink → List PlacedLink → Option (ℕ × ℕ)
parallel_behind earlier [] = None
parallel_behind earlier (p ∷ ps) = option_or (option_map (λ q. (p.line, q.line)) (find (are_twins p) earlier)) (parallel_behind (earlier ++ p ∷ []) ps)

abbrev pub first_parallel : List PlacedLink → Option (ℕ × ℕ)
first_parallel ps = parallel_behind [] ps

-- the lines of two links that are refused, since they join the same two nodes
abbrev pub refused_parallel : ParallelLinks → List PlacedLink → Option (ℕ × ℕ)
refused_parallel parallel.Refused ps = first_parallel ps
refused_parallel (parallel.Merged kept) ps = None

-- the links that are left, where several join the same two nodes
abbrev pub single_by : ParallelLinks → List PlacedLink → List Link
single_by parallel.Refused ps = links_of ps
single_by (parallel.Merged kept) ps = merged kept (links_of ps)

-- the value, or a fault where there is one
abbrev pub or_fault : {A B : Type 0} → (B → SettleFault) → Option B → A → Result A SettleFault
or_fault fault None x = Ok x
or_fault fault (Some y) x = Err (fault y)

-- the links without those of a node with itself, or the first of these
abbrev pub unlooped : SelfLoops → List PlacedLink → Result (List PlacedLink) SettleFault
unlooped l ps = or_fault SelfLoop (refused_self_loop l ps) (left_by l ps)

-- the links, one for each two nodes, or the first that is not the only one
abbrev pub single : ParallelLinks → List PlacedLink → Result (List Link) SettleFault
single d ps = or_fault (λ lines. ParallelEdge lines.0 lines.1) (refused_parallel d ps) (single_by d ps)

-- a fault of the network's links as one of the text's
abbrev pub as_settled : Result Listing NetFault → Result Listing SettleFault
as_settled (Ok l) = Ok l
as_settled (Err fault) = Err (Net fault)

-- the next step, at the value of a step that succeeds
abbrev pub and_then : {A B : Type 0} → Result A SettleFault → (A → Result B SettleFault) → Result B SettleFault
and_then (Ok x) next = next x
and_then (Err fault) next = Err fault

-- the network's links that links of a text make, or why they make none
abbrev pub settled : ℕ → Mending → List PlacedLink → Result Listing SettleFault
settled nodes m ps = and_then (unlooped m.self_loops ps) (λ qs. and_then (single m.parallel qs) (λ ls. as_settled (listing_of nodes ls)))

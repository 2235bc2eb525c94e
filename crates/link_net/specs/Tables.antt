-- What the maker of tables is given, and what it answers.
use Rattle.std.specs.Prelude.{ℕ, ℤ, ◌-◌, Bool, List, map, Result, Ok, Err, if◌then◌else◌}
use Rattle.std.specs.Option.{unwrap_or, is_none, ok_or}
use Rattle.std.specs.List.{list_any}
use Rattle.link_net.specs.declared.draft.Draft.{Draft}
use Rattle.link_net.specs.declared.fault.NetFault.{NetFault}
use Rattle.link_net.specs.declared.fault.NetFault.TheVariants.{NodeCount, BadLink, BadPhase, BadWeight}
use Rattle.link_net.specs.Limits.{most_nodes, most_weight}
use Rattle.link_net.specs.Links.{network_of}
use Rattle.link_net.specs.Neighbours.{Neighbours}
use Rattle.link_net.specs.Reading.{and_then, number_in, all_placed, sound}

-- the link with its weight, or with 0 in place of a number that is no weight
abbrev pub settled : ℕ × ℕ × ℤ → ℕ × ℕ × ℕ
settled l = (l.0, l.1, unwrap_or (number_in 0 most_weight l.2) 0)

-- the third number is no weight
abbrev pub is_off : {A : Type 0} → A × A × ℤ → Bool
is_off l = is_none (number_in 0 most_weight l.2)

-- the network with n nodes and these links, or the first fault of their ends
abbrev pub network_in : ℕ → List (ℕ × ℕ × ℕ) → Result Neighbours NetFault
network_in n links = and_then (sound n links) (λ ls. Ok (network_of n ls))

-- the network of a draft, or the first fault of its nodes and of the ends of its links
abbrev pub drawn : Draft → Result Neighbours NetFault
drawn d =
    and_then (ok_or (number_in 1 most_nodes d.nodes) NodeCount) (λ n.
    and_then (ok_or (all_placed (n - 1) d.links) BadLink) (λ ends. network_in n (map settled ends)))

-- the phase of a draft, or the fault of the phase or of a weight
abbrev pub opened : Draft → Result ℕ NetFault
opened d = and_then (ok_or (number_in 0 2 d.phase) BadPhase) (λ phase. if list_any is_off d.links then Err BadWeight else Ok phase)

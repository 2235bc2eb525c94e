-- How nodes that a line calls are found, and slots at which they stand: the clauses of private functions speak of this.
use Rattle.std.specs.Prelude.{ℕ, ◌==◌, map, Option, Result}
use Rattle.std.specs.List.{position}
use Rattle.std.specs.Option.{option_and_then, ok_or}
use Rattle.link_net.specs.Neighbours.{Neighbours, row}
use Rattle.run_steps.specs.declared.verify.fault.VerifyFault.{VerifyFault}
use Rattle.run_steps.specs.declared.verify.fault.VerifyFault.TheVariants.{NoNode, NotNeighbour}

-- the node that makes a step, where one is called
abbrev pub node_found : ℕ → Option ℕ → Result ℕ VerifyFault
node_found line called = ok_or called (NoNode line)

-- the place of a node among the neighbours of another
abbrev pub slot_to : Neighbours → ℕ → ℕ → Option ℕ
slot_to network u v = position (λ w. v == w) (map (λ a. a.0) (row network u))

-- the slot of a node at which the one that is called stands as its neighbour
abbrev pub slot_found : Neighbours → ℕ → ℕ → Option ℕ → Result ℕ VerifyFault
slot_found network line u called = ok_or (option_and_then (slot_to network u) called) (NotNeighbour line)

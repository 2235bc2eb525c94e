use Rattle.std.proofs.Common.{◌∙◌}
use Rattle.link_net.specs.Neighbours.{IsNetwork}
use Rattle.link_net.proofs.Parts.{first_column}
use Rattle.link_net.proofs.Looks.{column_short, column_rises}
use Rattle.link_net.proofs.network.Network.neighbours.Goals as goal
use Rattle.link_net.proofs.network.Network.neighbours.Goals.{After-part_of}

whole : (c : After-part_of) → IsNetwork c.args.self.now
whole c = rw (← c.self.view_is) c.self.invariant.network

pub returns-clause-value : goal.returns-clause-value
returns-clause-value c =
    let given = rw (c.as_slice.ensures.value, c.as_slice-2.ensures.value) at c.part_of.ensures in
    rw (← c.self.view_is) (given ∙ first_column c.self.inside.offsets.items c.self.inside.neighbours.items c.self.inside.weights.items c.args.node c.self.invariant.paired)

pub returns-clause-bound : goal.returns-clause-bound
returns-clause-bound c = column_short c.part_of.result (λ a. a.0) c.args.self.now c.args.node (whole c) (returns-clause-value c)

pub returns-clause-rising : goal.returns-clause-rising
returns-clause-rising c = column_rises c.part_of.result c.args.self.now c.args.node ((whole c).rising c.args.node) (returns-clause-value c)

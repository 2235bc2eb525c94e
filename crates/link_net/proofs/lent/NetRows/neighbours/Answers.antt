use Rattle.std.proofs.Common.{◌∙◌}
use Rattle.link_net.specs.Neighbours.{AreRows}
use Rattle.link_net.proofs.Parts.{first_column}
use Rattle.link_net.proofs.LentRows.{row_short}
use Rattle.link_net.proofs.lent.NetRows.neighbours.Goals as goal
use Rattle.link_net.proofs.lent.NetRows.neighbours.Goals.{After-part_of}

whole : (c : After-part_of) → AreRows c.args.self.now
whole c = rw (← c.self.view_is) c.self.invariant.rows

pub returns-clause-value : goal.returns-clause-value
returns-clause-value c =
    rw (← c.self.view_is) (c.part_of.ensures ∙ first_column c.self.inside.offsets.now c.self.inside.neighbours.now c.self.inside.weights.now c.args.node c.self.invariant.paired)

pub returns-clause-bound : goal.returns-clause-bound
returns-clause-bound c = row_short c.part_of.result (λ a. a.0) c.args.self.now c.args.node (whole c) (returns-clause-value c)

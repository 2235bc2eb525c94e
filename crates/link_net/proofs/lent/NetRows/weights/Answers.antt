use Rattle.std.proofs.Common.{◌∙◌}
use Rattle.link_net.proofs.Parts.{second_column}
use Rattle.link_net.proofs.lent.NetRows.weights.Goals as goal

pub returns : goal.returns
returns c = record {
  value = rw (← c.self.view_is) (c.part_of.ensures ∙ second_column c.self.inside.offsets.now c.self.inside.neighbours.now c.self.inside.weights.now c.args.node c.self.invariant.paired);
}

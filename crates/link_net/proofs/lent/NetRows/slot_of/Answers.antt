use Rattle.std.proofs.Common.{◌∙◌, Some}
use Rattle.link_net.proofs.Looks.{column_rises, slot_is}
use Rattle.link_net.proofs.lent.NetRows.slot_of.Goals as goal

pub returns-in_err-slot : goal.returns-in_err-slot
returns-in_err-slot c = record {
  exact = slot_is c.in_ok-neighbours.neighbours.now c.args.self.now c.args.node c.args.other c.binary_search.result c.from_residual-in_err-slot.result
      c.in_ok-neighbours.ensures.value
      (column_rises (Some c.in_ok-neighbours.neighbours) c.args.self.now c.args.node c.requires.rising c.in_ok-neighbours.ensures.value)
      c.binary_search.ensures.position (c.from_residual-in_err-slot.ensures ∙ c.in_err-slot.ensures.value);
}

pub returns : goal.returns
returns c = record {
  exact = slot_is c.in_ok-neighbours.neighbours.now c.args.self.now c.args.node c.args.other c.binary_search.result (Some c.in_ok-slot.slot)
      c.in_ok-neighbours.ensures.value
      (column_rises (Some c.in_ok-neighbours.neighbours) c.args.self.now c.args.node c.requires.rising c.in_ok-neighbours.ensures.value)
      c.binary_search.ensures.position c.in_ok-slot.ensures.value;
}

use Rattle.std.proofs.Common.{sym}
use Rattle.run_steps.proofs.verify.Slots.{slot-is, slot-few}
use Rattle.run_steps.proofs.verify.nodes.slot_to.Goals as goal

pub returns-clause-exact : goal.returns-clause-exact
returns-clause-exact c = sym (slot-is c.args.plan.now.network c.args.node c.args.neighbour c.slot_of.result c.slot_of.ensures.exact)

pub returns-clause-slot : goal.returns-clause-slot
returns-clause-slot c = slot-few c.args.plan.now.network c.args.node c.args.neighbour c.slot_of.result c.slot_of.ensures.exact

use Rattle.std.proofs.Common.{ap, sym, ◌∙◌}
use Rattle.std.specs.Option.{ok_or}
use Rattle.run_steps.specs.declared.script.fault.StepTextFault.TheVariants.{NotNeighbour}
use Rattle.run_steps.proofs.script.Slots.{slot-is}
use Rattle.run_steps.proofs.script.nodes.slot_at.Goals as goal

pub returns-in-Some : goal.returns-in-Some
returns-in-Some c = sym (ap (λ found. ok_or found (NotNeighbour c.args.line)) (slot-is c.args.network.now c.args.node c.args.neighbour c.slot_of.result c.slot_of.ensures.exact ∙ c.in-Some.is))

pub returns-in-None : goal.returns-in-None
returns-in-None c = sym (ap (λ found. ok_or found (NotNeighbour c.args.line)) (slot-is c.args.network.now c.args.node c.args.neighbour c.slot_of.result c.slot_of.ensures.exact ∙ c.in-None.is))

use Rattle.run_steps.proofs.script.Pushes.{reads-push}
use Rattle.run_steps.proofs.script.put.push_reads.Goals as goal

pub loop-slot-preserved : goal.loop-slot-preserved
loop-slot-preserved c = reads-push c.args.steps.now.items c.loop-slot.steps.items c.push.new.self.items c.args.node c.loop-slot.slot c.loop-slot.invariant c.in_ok-push.ensures.items

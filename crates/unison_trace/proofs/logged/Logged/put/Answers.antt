use Rattle.std.proofs.Common.{◌≡◌, ap, ◌∙◌, true}
use Rattle.unison_world.specs.declared.step.Step.TheVariants.{Write}
use Rattle.unison_trace.specs.Histories.{and_step, is_move}
use Rattle.unison_trace.proofs.Leading.{history-put}
use Rattle.unison_trace.proofs.logged.Logged.put.Goals as goal

pub invariant_of-self-else-not-moves : goal.invariant_of-self-else-not-moves
invariant_of-self-else-not-moves c =
    let log = c.in_default.ensures.stored ∙ ap (λ n. and_step c.self.inside.log (Write n)) c.node.ensures.node in
    let moved : is_move c.put-answer.result ≡ true = cc in
    rw log (history-put c.self.inside.world c.put-answer.new.self c.self.inside.log c.args.done.now.work c.put-answer.result c.self.invariant c.put-answer.ensures.answer moved c.put-answer.ensures.after c.in_default.ensures.room)

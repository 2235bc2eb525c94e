use Rattle.std.proofs.Common.{rules, ◌≡◌}
use Rattle.unison_world.specs.declared.step.Step.TheVariants.{Write}
use Rattle.unison_world.specs.declared.step.Answer.TheVariants.{Moved}
use Rattle.unison_world.specs.View.{answer_in}
use Rattle.run_steps.proofs.verify.Answering.{shown-moved}
use Rattle.run_steps.proofs.verify.steps.move_on.Goals as goal

pub returns-clause-shown : goal.returns-clause-shown
returns-clause-shown c =
    let w = c.args.world.now in
    let moved : answer_in w (Write c.args.node) ≡ Moved = search rules in
    shown-moved w c.step.new.self c.args.node c.state-2.result c.nodes-nodes.ensures.shape c.requires.node moved c.step.ensures.after c.state-2.ensures.state

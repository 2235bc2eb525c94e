use Rattle.std.proofs.Common.{rules, ◌≡◌}
use Rattle.run_steps.proofs.Initially.{previous-opened}
use Rattle.run_steps.proofs.previous.opening_states.Goals as goal

pub returns : goal.returns
returns c =
    let w = c.args.world.now in
    let same : c.in_ok-states.states.items ≡ w.plan.opening = search rules in
    record { previous = previous-opened w c.in_ok-states.states.items c.requires.opened c.nodes-nodes.ensures.plan same }

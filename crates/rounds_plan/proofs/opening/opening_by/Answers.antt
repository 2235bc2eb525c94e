use Rattle.std.proofs.Common.{◌≡◌, ◌≤◌, ◌∙◌, ap, subst, length, arith}
use Rattle.link_net.specs.Neighbours.{IsNetwork}
use Rattle.rounds_plan.specs.Plans.{openings_of}
use Rattle.rounds_plan.proofs.Openings.{plan_is}
use Rattle.rounds_plan.proofs.opening.opening_by.Goals as goal

pub returns-clause-plan : goal.returns-clause-plan
returns-clause-plan c =
    let file = c.args.file.now in
    let nodes : c.nodes-nodes.result ≡ length file.network = c.nodes-nodes.ensures.count ∙ ap length c.network.ensures.value in
    let made : c.in_ok-states.states.items ≡ openings_of c.args.program.now (length file.network) file.sets = c.in_ok-states.ensures.states ∙ ap (λ n. openings_of c.args.program.now n c.sets.result.now) nodes ∙ ap (openings_of c.args.program.now (length file.network)) c.sets.ensures.value in
    let phase : file.phase ≤ 2 = omega (arith, c.phase-phase.ensures.value, c.phase-phase.ensures.bound) in
    plan_is c.args.program.now file c.in_ok-states.states.items (subst IsNetwork c.network.ensures.value c.nodes-nodes.ensures.whole) phase (omega (arith, c.field_count-fields.ensures.count, c.field_count-fields.ensures.few)) made c.in_ok-states.ensures.plain

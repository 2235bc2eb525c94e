use Rattle.std.proofs.Common.{◌≡◌, ◌∙◌, ◌<◌, ap, arith}
use Rattle.link_net.specs.Neighbours.{degree}
use Rattle.unison_world.specs.Counting.{marks_of}
use Rattle.unison_world.specs.Progress.{marks_in}
use Rattle.run_steps.specs.explain.Reads.{one_if_read}
use Rattle.run_steps.proofs.explain.Reading.{read-next}
use Rattle.run_steps.proofs.explain.looks.slots_read.Goals as goal

pub loop-slot-preserved : goal.loop-slot-preserved
loop-slot-preserved c =
    let w = c.args.world.now in
    let u = c.args.node in
    let j = c.loop-slot.slot in
    let network : c.rows.result ≡ w.plan.network = c.rows.ensures.rows ∙ ap (λ p. p.network) c.plan.ensures.plan in
    let slots : c.degree_of-slot-end.result ≡ degree w.plan.network u = c.degree_of-slot-end.ensures.exact ∙ ap (λ n. degree n u) network in
    let inside : j < degree w.plan.network u = omega arith in
    let one = c.one_if_read-read.ensures.count ∙ ap one_if_read c.ask.ensures.answer in
    record {
      count = read-next w.plan.network w.stop w.counts u j c.one_if_read-read.result c.loop-slot.read (marks_in (marks_of w.counts u)) c.nodes-nodes.ensures.shape c.nodes-nodes.ensures.in_step inside one c.loop-slot.invariant.count;
      few = omega arith;
    }

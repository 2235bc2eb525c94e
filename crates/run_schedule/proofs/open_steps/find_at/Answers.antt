use Rattle.std.proofs.Common.{◌≡◌, below_more, arith}
use Rattle.link_net.specs.Neighbours.{degree}
use Rattle.unison_world.specs.declared.step.Step.TheVariants.{Read, Write}
use Rattle.run_schedule.proofs.Finding.{find-none, find-opens}
use Rattle.run_schedule.proofs.open_steps.find_at.Goals as goal

pub loop-slot-preserved : goal.loop-slot-preserved
loop-slot-preserved c =
    let step = Read c.args.node c.loop-slot.slot in
    record {
      opens = λ h. find-opens c.args.walk.now step c.loop-slot.found.items c.find.new.found.items c.in_ok-find.ensures.found (c.loop-slot.invariant.opens h);
      none = λ n.
          let f = find-none c.args.walk.now step c.loop-slot.found.items c.find.new.found.items c.in_ok-find.ensures.found n in
          let i = c.loop-slot.invariant.none f.0 in
          (i.0, below_more _ _ i.1 f.1);
    }

pub returns-clause-opens : goal.returns-clause-opens
returns-clause-opens c h = find-opens c.args.walk.now (Write c.args.node) c.loop-slot.found.items c.find-2.new.found.items c.in_ok-find-2.ensures.found (c.loop-slot.invariant.opens h)

pub returns-clause-none : goal.returns-clause-none
returns-clause-none c n =
    let f = find-none c.args.walk.now (Write c.args.node) c.loop-slot.found.items c.find-2.new.found.items c.in_ok-find-2.ensures.found n in
    let i = c.loop-slot.invariant.none f.0 in
    let end : c.degree_of-slot-end.result ≡ degree c.args.walk.now.world.plan.network c.args.node = rw c.network.ensures.network at c.degree_of-slot-end.ensures.exact in
    (i.0, record { reads = λ j h. i.1 j (omega (arith, h, end, c.loop-slot-test.false)); write = f.1 })

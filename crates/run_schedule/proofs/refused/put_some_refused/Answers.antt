use Rattle.std.proofs.Common.{◌<◌, ◌++◌, ◌∷◌, [], refl, ◌∙◌, arith}
use Rattle.run_schedule.proofs.Mixing.{so_far-none, so_far-more}
use Rattle.run_schedule.proofs.refused.put_some_refused.Goals as goal

pub loop-count-init : goal.loop-count-init
loop-count-init c =
    record {
      few = c.requires.few;
      arrives = c.requires.arrives;
      same = refl;
      put = ([], so_far-none c.args.world.now c.args.percent c.args.limit c.args.steps.now.items c.requires.few);
    }

pub loop-count-preserved : goal.loop-count-preserved
loop-count-preserved c =
    let w = c.args.world.now in
    let i = c.loop-count.invariant in
    let put = c.in_ok-put_refused.ensures in
    let some : 0 < c.args.percent = omega arith in
    record {
      few = put.few;
      arrives = put.arrives;
      same = put.same ∙ i.same;
      put = (
        i.put.0 ++ c.in-Some.step ∷ [],
        so_far-more w c.args.percent c.args.limit c.loop-count._count c.args.steps.now.items c.loop-count.steps.items c.put_refused.new.steps.items i.put.0 c.in-Some.step i.put.1 c.in-Some.ensures.refused some put.put,
      );
    }

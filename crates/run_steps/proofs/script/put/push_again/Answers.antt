use Rattle.std.proofs.Common.{ap, length, length-append, arith}
use Rattle.std.specs.List.{slice_range}
use Rattle.run_steps.proofs.script.Pushes.{again-push}
use Rattle.run_steps.proofs.script.put.push_again.Goals as goal

pub loop-time-preserved : goal.loop-time-preserved
loop-time-preserved c =
    let old = c.loop-time.steps.items in
    let items = c.in_ok-extend_from_within.ensures.items in
    let more = length-append old (slice_range old c.args.start c.args.end) in
    let long = ap length items in
    record {
      end = omega (arith, c.loop-time.invariant.end);
      put = again-push c.args.steps.now.items old c.extend_from_within.new.self.items c.args.start c.args.end c.loop-time._time c.requires.start c.requires.end c.loop-time.invariant.put items;
    }

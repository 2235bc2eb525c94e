use Rattle.std.proofs.Common.{◌<◌, append_assoc, arith}
use Rattle.std.proofs.lemmas.Grind.{common_steps}
use Rattle.run_watch.specs.Spans.{count_of, round_at}
use Rattle.run_watch.proofs.Ranges.{map_left}
use Rattle.run_page.proofs.states.round_numbers.Goals as goal

pub loop-place-preserved : goal.loop-place-preserved
loop-place-preserved c =
    let s = c.args.span.now in
    let k = c.loop-place.place in
    let inside : k < count_of s = omega (arith, c.loop-place-test.true, c.loop-place.auto.place-end, c.steps-place-end.ensures.steps) in
    let more = map_left (round_at s) k (count_of s) inside in
    grind (arith, common_steps, more, append_assoc)

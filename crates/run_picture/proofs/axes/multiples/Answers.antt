use Rattle.std.proofs.Common.{◌<◌, ◌+◌, ◌*◌, ◌/◌, ℕ, arith, append_assoc}
use Rattle.std.proofs.lemmas.Grind.{common_steps}
use Rattle.run_watch.proofs.Ranges.{map_left}
use Rattle.run_picture.proofs.axes.multiples.Goals as goal

pub loop-times-preserved : goal.loop-times-preserved
loop-times-preserved c =
    let k = c.loop-times.times in
    let end = c.args.last / c.args.step + 1 in
    let inside : k < end = omega (arith, c.loop-times-test.true) in
    let more = map_left (λ (times : ℕ). times * c.args.step) k end inside in
    grind (arith, common_steps, more, append_assoc)

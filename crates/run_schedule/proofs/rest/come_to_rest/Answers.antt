use Rattle.std.proofs.Common.{◌≡◌, ◌<◌, true, length, vec_len, ap, ◌∙◌, arith}
use Rattle.run_schedule.specs.Walks.{is_open}
use Rattle.run_schedule.proofs.Walking.{goes-on-further, step-goes}
use Rattle.run_schedule.proofs.Ending.{some-there}
use Rattle.run_schedule.proofs.Finding.{pass-lengthens}
use Rattle.run_schedule.proofs.rest.come_to_rest.Goals as goal

pub passes-preserved : goal.passes-preserved
passes-preserved c =
    goes-on-further c.args.walk.now c.passes.walk c.make.new.self c.passes.invariant
    (goes-on-further c.passes.walk c.follow.new.walk c.make.new.self c.follow.ensures.goes (step-goes c.follow.new.walk c.make.new.self c.index-first.result.now c.in_ok-make.ensures.after))

pub passes-smaller : goal.passes-smaller
passes-smaller c =
    let has = some-there (vec_len c.in_ok-found.found) c.is_empty.result c.is_empty.ensures c.if-is_empty.false in
    let some : 0 < length c.in_ok-found.found.items = omega arith in
    let first = c.index-first.result.now in
    let free : is_open c.passes.walk first ≡ true = ap (is_open c.passes.walk) c.index-first.ensures ∙ c.in_ok-found.ensures.opens 0 first some in
    let less = pass-lengthens c.passes.walk c.follow.new.walk c.make.new.self first c.follow.ensures.goes c.in_ok-make.ensures.after free in
    let limit = (step-goes c.follow.new.walk c.make.new.self first c.in_ok-make.ensures.after).limit ∙ c.follow.ensures.goes.limit in
    let few = c.make.ensures.few in
    omega arith

use Rattle.std.proofs.Common.{◌∙◌, vec_len, ap, arith}
use Rattle.run_schedule.specs.Daemons.{is_free}
use Rattle.run_schedule.proofs.Drawn.{free-each, none-free}
use Rattle.run_schedule.proofs.Driven.{none-there}
use Rattle.run_schedule.proofs.Ending.{some-there}
use Rattle.run_schedule.proofs.choosing.Draws.one_free.Goals as goal

pub returns-then-is_empty-clause-none : goal.returns-then-is_empty-clause-none
returns-then-is_empty-clause-none c =
    let free = c.in_ok-free.free.items in
    let empty = none-there free (vec_len c.in_ok-free.free) c.is_empty.result (omega arith) c.is_empty.ensures c.if-is_empty.true in
    none-free c.args.walk.now.world c.args.but free c.in_ok-free.ensures.free empty

pub returns-clause-free : goal.returns-clause-free
returns-clause-free c =
    let free = c.in_ok-free.free.items in
    let w = c.args.walk.now.world in
    let has = some-there (vec_len c.in_ok-free.free) c.is_empty.result c.is_empty.ensures c.if-is_empty.false in
    ap (is_free w c.args.but) c.swap_remove-node.ensures.value ∙ free-each w c.args.but free _ _ c.in_ok-free.ensures.free (omega arith)

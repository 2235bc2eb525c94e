use Rattle.std.proofs.Common.{length, length-append, vec_len, ap, arith}
use Rattle.std.proofs.lemmas.Result.{err_from_is_err_and}
use Rattle.run_schedule.specs.Daemons.{steps_together}
use Rattle.run_schedule.proofs.Driven.{group-longer, moved-more, moved-none, none-rests, none-there, under-all, under-cut}
use Rattle.run_schedule.proofs.Ending.{some-there}
use Rattle.run_schedule.proofs.Walking.{goes-nowhere, goes-on-further}
use Rattle.run_schedule.proofs.driving.drive.Goals as goal

pub groups-init : goal.groups-init
groups-init c =
    record {
      goes = goes-nowhere c.args.walk.now;
      moved = moved-none c.args.walk.now c.args.daemon c.requires.none c.requires.opened c.requires.begun;
    }

pub move_together-requires-clause-none : goal.move_together-requires-clause-none
move_together-requires-clause-none c = c.groups.invariant.moved.still

pub move_together-requires-clause-bare : goal.move_together-requires-clause-bare
move_together-requires-clause-bare c = c.groups.invariant.moved.bare

pub move_together-requires-clause-may : goal.move_together-requires-clause-may
move_together-requires-clause-may c =
    let has = some-there (vec_len c.in_ok-nodes.nodes) c.is_empty.result c.is_empty.ensures c.if-is_empty.false in
    rw c.deref.ensures.value (c.in_ok-nodes.ensures.chosen.choice (omega arith)).may

pub groups-preserved : goal.groups-preserved
groups-preserved c =
    let has = some-there (vec_len c.in_ok-nodes.nodes) c.is_empty.result c.is_empty.ensures c.if-is_empty.false in
    let i = c.groups.invariant in
    let moved = c.in_ok-move_together.ensures in
    let goes = c.move_together.ensures.goes in
    record {
      goes = goes-on-further c.args.walk.now c.groups.walk c.move_together.new.walk i.goes goes;
      moved = moved-more c.groups.walk c.move_together.new.walk c.args.daemon c.in_ok-nodes.nodes.items c.network-network.ensures.walk i.moved (c.in_ok-nodes.ensures.chosen.choice (omega arith)) goes moved.bare (rw c.deref.ensures.value at moved.made);
    }

pub groups-smaller : goal.groups-smaller
groups-smaller c =
    let has = some-there (vec_len c.in_ok-nodes.nodes) c.is_empty.result c.is_empty.ensures c.if-is_empty.false in
    let nodes = c.in_ok-nodes.nodes.items in
    let network = c.groups.walk.world.plan.network in
    let some = group-longer network nodes (omega arith) in
    let many = ap length (rw c.deref.ensures.value at c.in_ok-move_together.ensures.made) in
    let all = length-append c.groups.walk.steps (steps_together network nodes) in
    let limit = c.move_together.ensures.goes.limit in
    let few = c.network-after.ensures.walk.few in
    omega arith

pub returns-then-is_empty-clause-rest : goal.returns-then-is_empty-clause-rest
returns-then-is_empty-clause-rest c =
    let nodes = c.in_ok-nodes.nodes.items in
    let empty = none-there nodes (vec_len c.in_ok-nodes.nodes) c.is_empty.result (omega arith) c.is_empty.ensures c.if-is_empty.true in
    none-rests c.groups.walk c.network-network.ensures.sound c.groups.invariant.moved.still (c.in_ok-nodes.ensures.chosen.none empty)

pub returns-then-is_empty-clause-under : goal.returns-then-is_empty-clause-under
returns-then-is_empty-clause-under c = under-all c.groups.walk c.args.daemon c.network-network.ensures.walk c.groups.invariant.moved

pub returns-in_err-move_together-clause-goes : goal.returns-in_err-move_together-clause-goes
returns-in_err-move_together-clause-goes c = goes-on-further c.args.walk.now c.groups.walk c.move_together.new.walk c.groups.invariant.goes c.move_together.ensures.goes

pub returns-in_err-move_together-clause-full : goal.returns-in_err-move_together-clause-full
returns-in_err-move_together-clause-full c =
    let has = some-there (vec_len c.in_ok-nodes.nodes) c.is_empty.result c.is_empty.ensures c.if-is_empty.false in
    let choice = c.in_ok-nodes.ensures.chosen.choice (omega arith) in
    let p = err_from_is_err_and c.from_residual-in_err-move_together.result c.from_residual-in_err-move_together.ensures.1 in
    rw (p.1, p.2)
    (λ e.
    let f = rw c.deref.ensures.value at (c.in_err-move_together.ensures.full e) in
    (f.0, under-cut c.groups.walk c.move_together.new.walk c.args.daemon c.in_ok-nodes.nodes.items c.network-network.ensures.walk c.groups.invariant.moved choice c.move_together.ensures.goes f.1))

pub returns-in_err-after-clause-goes : goal.returns-in_err-after-clause-goes
returns-in_err-after-clause-goes c = goes-on-further c.args.walk.now c.groups.walk c.move_together.new.walk c.groups.invariant.goes c.move_together.ensures.goes

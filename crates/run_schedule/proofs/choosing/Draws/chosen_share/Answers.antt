use Rattle.std.proofs.Common.{ℕ, vec_len, arith}
use Rattle.run_schedule.specs.declared.daemon.Daemon.TheVariants.{Distributed}
use Rattle.run_schedule.specs.Daemons.{AreChosen}
use Rattle.run_schedule.proofs.Drawn.{if-ok, share-one}
use Rattle.run_schedule.proofs.Driven.{none-there}
use Rattle.run_schedule.proofs.choosing.Draws.chosen_share.Goals as goal

pub returns-in-Some : goal.returns-in-Some
returns-in-Some c =
    let w = c.args.walk.now.world in
    let drawn = c.in_ok-drawn.drawn.items in
    let empty = none-there drawn (vec_len c.in_ok-drawn.drawn) c.is_empty.result (omega arith) c.is_empty.ensures c.if-not-is_empty.false in
    record { chosen = if-ok c.just.result _ (λ v. (seed : ℕ) → AreChosen w (Distributed seed c.args.share) v.items) (λ v one seed. share-one w seed c.args.share c.in-Some.node drawn v.items c.in_ok-drawn.ensures.drawn empty one (rw c.in-Some.is at c.in_ok-node.ensures.free)) c.just.ensures.one }

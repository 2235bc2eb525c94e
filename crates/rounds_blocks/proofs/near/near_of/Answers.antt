use Rattle.std.proofs.Common.{◌≤◌, arith, length}
use Rattle.rounds_blocks.proofs.Homes.{any_near, near_made}
use Rattle.rounds_blocks.proofs.near.near_of.Goals as goal

pub returns-then-len-gt-MOST_NEAR-clause-near :
    goal.returns-then-len-gt-MOST_NEAR-clause-near
returns-then-len-gt-MOST_NEAR-clause-near c = λ batches homes_are.
    any_near c.args.network.now batches c.args.batch.now c.args.homes.now c.requires.network c.requires.batch homes_are

pub returns-clause-near : goal.returns-clause-near
returns-clause-near c = λ batches homes_are.
    let e = c.in_ok-list_batch.ensures in
    let few : length c.list_batch.new.places.items ≤ 256 = omega (arith, c.if-len-gt-MOST_NEAR.false, c.list_batch.new.places.ok.0) in
    near_made c.args.network.now batches c.args.batch.now c.args.homes.now c.requires.network c.requires.batch homes_are
    c.list_batch.new.places c.list_batch.new.stamps c.args.stamp e.listed (e.own few) (e.slots few)

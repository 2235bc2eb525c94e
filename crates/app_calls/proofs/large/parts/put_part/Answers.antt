use Rattle.std.proofs.Common.{length}
use Rattle.app_calls.proofs.PartMade.{made_on}
use Rattle.app_calls.proofs.large.parts.put_part.Goals as goal

pub returns-clause-written : goal.returns-clause-written
returns-clause-written c =
    let a = c.args in
    let made = c.in_ok-changed.ensures in
    made_on a.program.now a.part.now.ids.now c.rows_with-rows.result _ a.round a.from.now (length a.to.now) c.part_round.new.to c.in_ok-changed.changed c.rows_with-rows.ensures.rows
    made.sound made.next made.changed

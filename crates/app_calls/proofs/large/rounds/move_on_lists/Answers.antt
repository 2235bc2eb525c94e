use Rattle.std.proofs.Common.{length}
use Rattle.app_calls.proofs.PartMade.{row_words}
use Rattle.app_calls.proofs.large.rounds.move_on_lists.Goals as goal

pub move_on-requires-clause-count : goal.move_on-requires-clause-count
move_on-requires-clause-count c =
    let origin = c.args.origin.now in
    row_words origin.lists.offsets.now origin.lists.neighbours.now _ c.rows_with-rows.result (length c.args.words.now) (length origin.program.now.fields) c.rows_with-rows.ensures.rows c.requires.count

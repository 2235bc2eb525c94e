use Rattle.std.proofs.Common.{length}
use Rattle.app_calls.proofs.PartMade.{row_words}
use Rattle.app_calls.proofs.large.told.told_on_lists.Goals as goal

pub told_on_rows-requires-clause-count : goal.told_on_rows-requires-clause-count
told_on_rows-requires-clause-count c =
    let origin = c.args.origin.now in
    row_words origin.lists.offsets.now origin.lists.neighbours.now _ c.rows_with-rows.result (length c.args.from.now) (length origin.program.now.fields) c.rows_with-rows.ensures.rows c.requires.count

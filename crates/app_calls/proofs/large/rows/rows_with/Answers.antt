use Rattle.std.proofs.Common.{rules, ◌≡◌, ◌<◌, length}
use Rattle.app_calls.proofs.PartMade.{rows_of_given, rows_of_ones}
use Rattle.app_calls.proofs.large.rows.rows_with.Goals as goal

pub returns-then-is_empty : goal.returns-then-is_empty
returns-then-is_empty c =
    let lists = c.args.lists.now in
    let none : length lists.weights.now ≡ 0 = search rules in
    record { rows = rows_of_ones lists.offsets.now lists.neighbours.now lists.weights.now c.args.ones.now c.new.result none (c.requires.ones none) c.new.ensures.rows }

pub returns : goal.returns
returns c =
    let lists = c.args.lists.now in
    let some : 0 < length lists.weights.now = search rules in
    record { rows = rows_of_given lists.offsets.now lists.neighbours.now lists.weights.now c.new-2.result some c.new-2.ensures.rows }

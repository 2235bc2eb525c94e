use Rattle.std.proofs.Common.{◌≡◌, ◌∙◌, ◌-◌, ◌≤◌, arith, length}
use Rattle.std.proofs.lemmas.Result.{err_from_is_err_and}
use Rattle.link_net.specs.Layout.{rows_of}
use Rattle.link_net.specs.Limits.{most_rows}
use Rattle.large_net.proofs.Parts.{rows_count}
use Rattle.app_calls.specs.CountAnswers.{counts_at}
use Rattle.app_calls.specs.LargeAnswers.{words_plan}
use Rattle.app_calls.specs.Lists.{given_weights}
use Rattle.app_calls.proofs.Counting.{list_uncounted, put_counted, well}
use Rattle.app_calls.proofs.large.counts.put_counts.Goals as goal

pub returns-in_err-check_rounds-clause-refused : goal.returns-in_err-check_rounds-clause-refused
returns-in_err-check_rounds-clause-refused c =
    let a = c.args in
    let p = err_from_is_err_and c.from_residual.result c.from_residual.ensures.1 in
    rw (p.1, p.2)
    (list_uncounted a.origin.now.program.now a.origin.now.lists.offsets.now a.origin.now.lists.neighbours.now (given_weights a.origin.now.lists.neighbours.now a.origin.now.lists.weights.now) a.origin.now.start a.from.now a.asked.now.rounds.now a.asked.now.field a.asked.now.values.now (length a.counts.now) a.fields.now _
    c.in_err-check_rounds.ensures.there)

pub check_counts-checked-requires-clause-few : goal.check_counts-checked-requires-clause-few
check_counts-checked-requires-clause-few c =
    let a = c.args in
    let weights = given_weights a.origin.now.lists.neighbours.now a.origin.now.lists.weights.now in
    let few : length (rows_of a.origin.now.lists.offsets.now a.origin.now.lists.neighbours.now weights) ≤ most_rows = c.requires.rows.held.rows.nodes in
    let count = rows_count a.origin.now.lists.offsets.now a.origin.now.lists.neighbours.now weights in
    omega (arith, few, count)

pub returns-clause-written : goal.returns-clause-written
returns-clause-written c =
    let a = c.args in
    let weights = given_weights a.origin.now.lists.neighbours.now a.origin.now.lists.weights.now in
    let fields = c.field_count-field_count.result in
    let asked = well (length a.origin.now.lists.offsets.now - 1) fields (length a.from.now) a.asked.now.field (length a.asked.now.values.now) (length a.asked.now.rounds.now) (length a.counts.now) c.in_default.ensures.fault in
    let found : c.deref.result.now ≡ counts_at (words_plan a.origin.now.program.now (rows_of a.origin.now.lists.offsets.now a.origin.now.lists.neighbours.now weights) a.from.now a.origin.now.start) a.asked.now.field a.asked.now.values.now a.asked.now.rounds.now =
    c.deref.ensures.value ∙ c.in_ok-found.ensures.words in
    put_counted a.origin.now.program.now a.origin.now.lists.offsets.now a.origin.now.lists.neighbours.now weights a.origin.now.start a.from.now a.asked.now.rounds.now a.asked.now.field a.asked.now.values.now (length a.counts.now) fields
    c.in_ok-check_rounds.ensures.there c.field_count-field_count.ensures.count asked a.counts.now c.put_words.new.words c.deref.result.now found c.put_words.ensures.put

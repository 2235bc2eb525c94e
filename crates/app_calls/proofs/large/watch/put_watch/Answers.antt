use Rattle.std.proofs.Common.{◌≡◌, ◌∙◌, ◌-◌, ◌*◌, ◌<◌, ℕ, length, rules, subst, sym}
use Rattle.std.proofs.lemmas.Result.{err_from_is_err_and}
use Rattle.app_calls.specs.Words.{words_at}
use Rattle.link_net.specs.Layout.{rows_of}
use Rattle.app_calls.specs.LargeAnswers.{words_plan}
use Rattle.app_calls.specs.Lists.{given_weights}
use Rattle.app_calls.proofs.RoundFaults.{list_refused, put_watched, room_refused}
use Rattle.app_calls.proofs.large.watch.put_watch.Goals as goal

pub returns-in_err-check_rounds-clause-refused : goal.returns-in_err-check_rounds-clause-refused
returns-in_err-check_rounds-clause-refused c =
    let a = c.args in
    let p = err_from_is_err_and c.from_residual.result c.from_residual.ensures.1 in
    rw (p.1, p.2)
    (list_refused a.origin.now.program.now a.origin.now.lists.offsets.now a.origin.now.lists.neighbours.now (given_weights a.origin.now.lists.neighbours.now a.origin.now.lists.weights.now) a.origin.now.start a.from.now a.rounds.now (length a.words.now) a.fields.now _
    c.in_err-check_rounds.ensures.there)

pub returns-then-words-room-clause-refused : goal.returns-then-words-room-clause-refused
returns-then-words-room-clause-refused c =
    let a = c.args in
    let count : length a.from.now ≡ (length a.origin.now.lists.offsets.now - 1) * length a.origin.now.program.now.fields = search rules in
    let here : length a.from.now ≡ (length a.origin.now.lists.offsets.now - 1) * c.field_count-field_count.result = search rules in
    let small : length a.words.now < length a.rounds.now * ((length a.origin.now.lists.offsets.now - 1) * c.field_count-field_count.result) = search rules in
    room_refused a.origin.now.program.now a.origin.now.lists.offsets.now a.origin.now.lists.neighbours.now (given_weights a.origin.now.lists.neighbours.now a.origin.now.lists.weights.now) a.origin.now.start a.from.now a.rounds.now (length a.words.now) c.field_count-field_count.result
    c.in_ok-check_rounds.ensures.there c.field_count-field_count.ensures.count count (subst (λ (n : ℕ). length a.words.now < length a.rounds.now * n) (sym here) small)

pub returns-clause-written : goal.returns-clause-written
returns-clause-written c =
    let a = c.args in
    let weights = given_weights a.origin.now.lists.neighbours.now a.origin.now.lists.weights.now in
    let count : length a.from.now ≡ (length a.origin.now.lists.offsets.now - 1) * length a.origin.now.program.now.fields = search rules in
    let found : c.deref.result.now ≡ words_at (words_plan a.origin.now.program.now (rows_of a.origin.now.lists.offsets.now a.origin.now.lists.neighbours.now weights) a.from.now a.origin.now.start) a.rounds.now =
    c.deref.ensures.value ∙ c.in_ok-found.ensures.words in
    put_watched a.origin.now.program.now a.origin.now.lists.offsets.now a.origin.now.lists.neighbours.now weights a.origin.now.start a.from.now a.rounds.now (length a.words.now) c.field_count-field_count.result
    c.in_ok-check_rounds.ensures.there c.field_count-field_count.ensures.count count a.words.now c.put_words.new.words c.deref.result.now found c.put_words.ensures.put

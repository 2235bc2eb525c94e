use Rattle.std.proofs.Common.{◌∙◌, sym}
use Rattle.app_calls.specs.Constants.{IsEnded}
use Rattle.app_calls.proofs.NameLines.{length-ended, sound}
use Rattle.app_calls.proofs.models.constants.checked_names.Goals as goal

pub returns-then-line_feeds-values-clause-refused : goal.returns-then-line_feeds-values-clause-refused
returns-then-line_feeds-values-clause-refused c =
    let ended : IsEnded c.args.names.now = c.is_ended.ensures.exact.0 c.if-not-is_ended.false in
    let lines = length-ended c.args.names.now ended in
    (c.in-Ok.ensures.cases.1, ended, λ same. c.if-line_feeds-values.true (c.line_feeds.ensures.exact ∙ sym lines ∙ same))

pub returns-clause-lines : goal.returns-clause-lines
returns-clause-lines c =
    let ended : IsEnded c.args.names.now = c.is_ended.ensures.exact.0 c.if-not-is_ended.false in
    length-ended c.args.names.now ended ∙ sym c.line_feeds.ensures.exact ∙ c.if-line_feeds-values.false

pub returns-clause-sound : goal.returns-clause-sound
returns-clause-sound c =
    let ended : IsEnded c.args.names.now = c.is_ended.ensures.exact.0 c.if-not-is_ended.false in
    let lines = length-ended c.args.names.now ended ∙ sym c.line_feeds.ensures.exact ∙ c.if-line_feeds-values.false in
    sound c.args.names.now c.args.values c.in-Ok.ensures.cases.1 ended lines

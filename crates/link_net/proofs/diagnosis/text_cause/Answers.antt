use Rattle.std.proofs.Common.{◌≡◌, ◌∙◌, sym, ap}
use Rattle.std.proofs.lemmas.Option.{IfSome_then}
use Rattle.toml.specs.Data.{no_members}
use Rattle.toml.specs.Errors.{IsBlank}
use Rattle.toml.specs.View.{table_view}
use Rattle.link_net.specs.Causes.{refusal_of}
use Rattle.link_net.proofs.Documents.{document_is, reading_is, cause_of, blank_document, blank_is_read, if_err}
use Rattle.link_net.proofs.diagnosis.text_cause.Goals as goal

pub returns-in_ok-cause-in-Ok-clause-agrees : goal.returns-in_ok-cause-in-Ok-clause-agrees
returns-in_ok-cause-in-Ok-clause-agrees c =
    let is = document_is c.args.text.now (table_view c.in-Ok.table) c.utf8.text c.in-Ok.ensures.ok in
    c.in_ok-cause-in-Ok.ensures.agrees ∙ sym (ap refusal_of (reading_is c.args.text.now (table_view c.in-Ok.table) is))

pub returns-in_ok-cause-in-Ok-clause-named : goal.returns-in_ok-cause-in-Ok-clause-named
returns-in_ok-cause-in-Ok-clause-named c =
    let is = document_is c.args.text.now (table_view c.in-Ok.table) c.utf8.text c.in-Ok.ensures.ok in
    IfSome_then c.in_ok-cause-in-Ok.cause c.in_ok-cause-in-Ok.ensures.named (λ k h. cause_of c.args.text.now (table_view c.in-Ok.table) k is h)

pub returns-in_err-cause-in-Ok-clause-at_once : goal.returns-in_err-cause-in-Ok-clause-at_once
returns-in_err-cause-in-Ok-clause-at_once c =
    let read : IsBlank c.args.text.now → ⊥ = λ blank.
    let same : table_view c.in-Ok.table ≡ no_members = cc (blank_document c.args.text.now blank, c.in-Ok.ensures.ok) in
    c.in_err-cause-in-Ok.ensures.at_once same in
    if_err _ read

pub returns-in_err-message-in-Err-clause-at_once : goal.returns-in_err-message-in-Err-clause-at_once
returns-in_err-message-in-Err-clause-at_once c = if_err _ (blank_is_read c.args.text.now c.in-Err.error c.in-Err.ensures.refused c.in-Err.ensures.memory)

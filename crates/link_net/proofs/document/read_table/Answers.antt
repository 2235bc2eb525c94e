use Rattle.std.proofs.Common.{◌≡◌, ◌∙◌, true, false, sym, refl}
use Rattle.std.proofs.lemmas.Str.{is_utf8-from_IsUtf8}
use Rattle.toml.specs.View.{table_view}
use Rattle.link_net.proofs.Documents.{document_is, no_document}
use Rattle.link_net.proofs.document.read_table.Goals as goal

pub returns-in_default-clause-answer : goal.returns-in_default-clause-answer
returns-in_default-clause-answer c = λ other. rw (no_document c.args.bytes.now c.in_default.ensures.cases.0) refl

pub returns-in-Ok-table_from_str-clause-answer : goal.returns-in-Ok-table_from_str-clause-answer
returns-in-Ok-table_from_str-clause-answer c =
    let utf8 = c.in-Ok.ensures.cases.1 in
    let same = c.in-Ok.ensures.cases.0 in
    let parsed = c.in-Ok-table_from_str.ensures.ok in
    rw (document_is c.args.bytes.now (table_view c.in-Ok-table_from_str.table) utf8 (rw (sym same) parsed)) refl

pub returns-in-Ok-table_from_str-clause-at_once : goal.returns-in-Ok-table_from_str-clause-at_once
returns-in-Ok-table_from_str-clause-at_once c none =
    let yes = is_utf8-from_IsUtf8 c.args.bytes.now c.in-Ok.ensures.cases.1 in
    let bad : true ≡ false = sym yes ∙ none in
    cc

pub returns-then-is_memory-clause-at_once : goal.returns-then-is_memory-clause-at_once
returns-then-is_memory-clause-at_once c none =
    let yes = is_utf8-from_IsUtf8 c.args.bytes.now c.in-Ok.ensures.cases.1 in
    let bad : true ≡ false = sym yes ∙ none in
    cc

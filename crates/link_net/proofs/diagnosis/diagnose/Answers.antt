use Rattle.std.proofs.Common.{◌≡◌, ◌≤◌, None, length, inl, arith}
use Rattle.std.proofs.lemmas.Result.{err_from_is_err_and}
use Rattle.std.proofs.lemmas.Str.{IsUtf8-from_is_utf8}
use Rattle.link_net.specs.Reading.{document_of}
use Rattle.link_net.proofs.Documents.{no_document, no_reading}
use Rattle.link_net.proofs.diagnosis.diagnose.Goals as goal

pub returns-in_ok-message-in-Err-clause-agrees : goal.returns-in_ok-message-in-Err-clause-agrees
returns-in_ok-message-in-Err-clause-agrees c = no_reading c.args.bytes.now (no_document c.args.bytes.now c.in-Err.ensures.cases.0)

pub returns-in_ok-message-in-Err-clause-named : goal.returns-in_ok-message-in-Err-clause-named
returns-in_ok-message-in-Err-clause-named c =
    let none : document_of c.args.bytes.now ≡ None = no_document c.args.bytes.now c.in-Err.ensures.cases.0 in
    let within : c.valid_up_to-at.result ≤ length c.args.bytes.now = omega (arith, c.valid_up_to-at.ensures, c.in-Err.ensures.cases.1) in
    inl (none, within)

pub returns-in_err-message-in-Err-clause-at_once : goal.returns-in_err-message-in-Err-clause-at_once
returns-in_err-message-in-Err-clause-at_once c =
    let p = err_from_is_err_and c.from_residual.result c.from_residual.ensures.1 in
    rw p.1 (λ utf8 blank. c.in-Err.ensures.cases.0 (IsUtf8-from_is_utf8 c.args.bytes.now utf8))

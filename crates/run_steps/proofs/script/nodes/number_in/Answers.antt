use Rattle.std.proofs.Common.{sym, ◌∙◌}
use Rattle.run_steps.proofs.script.Numbers.{number-none, number-more, number-some, numbers-read}
use Rattle.run_steps.proofs.script.nodes.number_in.Goals as goal

pub returns-in_err-number : goal.returns-in_err-number
returns-in_err-number c =
    let is = c.from_residual.ensures ∙ sym (number-none c.args.word.now c.as_bytes.result.now c.as_bytes.ensures.value c.in_err-number.ensures) in
    record { exact = is; spelled = numbers-read c.args.word.now _ is }

pub returns-then-not-is_empty : goal.returns-then-not-is_empty
returns-then-not-is_empty c =
    let read = c.in_ok-number.ensures in
    let is = sym (number-more c.args.word.now c.as_bytes.result.now c.in_ok-number.rest.now c.in_ok-number.number c.as_bytes.ensures.value read.0 read.1 read.2 c.if-not-is_empty.ensures) in
    record { exact = is; spelled = numbers-read c.args.word.now _ is }

pub returns : goal.returns
returns c =
    let read = c.in_ok-number.ensures in
    let is = sym (number-some c.args.word.now c.as_bytes.result.now c.in_ok-number.rest.now c.in_ok-number.number c.as_bytes.ensures.value read.0 read.1 c.if-not-is_empty.ensures) in
    record { exact = is; spelled = numbers-read c.args.word.now _ is }

use Rattle.std.proofs.Common.{◌≡◌, ◌-◌, ◌*◌, ◌<◌, ◌≤◌, length, ap, sym, arith}
use Rattle.std.proofs.lemmas.Result.{err_from_is_err_and}
use Rattle.unison_trace.specs.Histories.{most_steps}
use Rattle.run_steps.specs.script.Runs.{few_steps, repeated}
use Rattle.run_steps.proofs.script.Answering.{answer-err}
use Rattle.run_steps.proofs.script.Pushes.{few-put, many-put, repeated-none, repeated-whole, repeated-length}
use Rattle.run_steps.proofs.script.put.put_again.Goals as goal

pub returns-then-last-end : goal.returns-then-last-end
returns-then-last-end c =
    let ss = c.args.steps.now.items in
    let past : length ss ≤ c.args.last.start = omega arith in
    record { put = few-put c.args.line (repeated ss c.args.last) ss (sym (repeated-none ss c.args.last past)) c.requires.few }

pub returns-in_err-check_room : goal.returns-in_err-check_room
returns-in_err-check_room c =
    let ss = c.args.steps.now.items in
    let p = err_from_is_err_and c.from_residual.result c.from_residual.ensures.1 in
    let many = c.in_err-check_room.ensures.many in
    let end : c.len-end.result ≡ length ss = omega arith in
    let same = ap (λ n. c.args.last.again * (n - c.args.last.start)) end in
    let len = repeated-length ss c.args.last in
    let long : most_steps < length (repeated ss c.args.last) = omega (arith, many.1) in
    record { put = answer-err _ (few_steps c.args.line (repeated ss c.args.last)) c.from_residual.result p.0 c.in_err-check_room.field-0.0 p.1 p.2 (λ _. many-put c.args.line (repeated ss c.args.last) c.in_err-check_room.field-0.0 many.0 long) }

pub returns : goal.returns
returns c =
    let ss = c.args.steps.now.items in
    let new = c.push_again.new.steps.items in
    let end : c.len-end.result ≡ length ss = omega arith in
    let same = ap (λ n. c.args.last.again * (n - c.args.last.start)) end in
    let whole : repeated ss c.args.last ≡ new = repeated-whole ss new c.args.last c.len-end.result end c.in_ok-push_again.ensures.put in
    let len = repeated-length ss c.args.last in
    let room = c.in_ok-check_room.ensures.few in
    let low : length new ≤ most_steps = rw (← whole) (omega arith) in
    record { put = few-put c.args.line (repeated ss c.args.last) new (sym whole) low }

use Rattle.std.proofs.Common.{◌<◌, ◌++◌, length, ap, arith}
use Rattle.std.proofs.lemmas.Result.{err_from_is_err_and}
use Rattle.unison_trace.specs.Histories.{most_steps}
use Rattle.run_steps.specs.script.Runs.{few_steps}
use Rattle.run_steps.specs.script.Texts.{reads_of}
use Rattle.run_steps.proofs.script.Answering.{answer-err}
use Rattle.run_steps.proofs.script.Pushes.{few-put, many-put, length-reads}
use Rattle.run_steps.proofs.script.put.put_reads.Goals as goal

pub returns-in_err-check_room : goal.returns-in_err-check_room
returns-in_err-check_room c =
    let ss = c.args.steps.now.items in
    let all = ss ++ reads_of c.args.network.now c.args.node in
    let p = err_from_is_err_and c.from_residual.result c.from_residual.ensures.1 in
    let many = c.in_err-check_room.ensures.many in
    let len = length-reads c.args.network.now ss c.args.node in
    let long : most_steps < length all = omega (arith, many.1) in
    record { put = answer-err _ (few_steps c.args.line all) c.from_residual.result p.0 c.in_err-check_room.field-0.0 p.1 p.2 (λ _. many-put c.args.line all c.in_err-check_room.field-0.0 many.0 long) }

pub returns : goal.returns
returns c =
    let ss = c.args.steps.now.items in
    let new = c.push_reads.new.steps.items in
    let put = c.in_ok-push_reads.ensures.put in
    let same = ap length put in
    let len = length-reads c.args.network.now ss c.args.node in
    let room = c.in_ok-check_room.ensures.few in
    record { put = few-put c.args.line (ss ++ reads_of c.args.network.now c.args.node) new put (omega arith) }

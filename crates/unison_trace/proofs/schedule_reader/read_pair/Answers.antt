use Rattle.unison_trace.proofs.ReadPairs.{pair-no_blank, pair-no_second}
use Rattle.unison_trace.proofs.schedule_reader.read_pair.Goals as goal

pub returns-in_err-rest : goal.returns-in_err-rest
returns-in_err-rest c =
    let read = c.in_ok-first.ensures in
    rw c.from_residual-in_err-rest.ensures (pair-no_blank c.args.bytes.now c.in_ok-first.first c.in_ok-first.blank.now read.0 read.1 read.2 c.in_err-rest.ensures)

pub returns-in_err-second : goal.returns-in_err-second
returns-in_err-second c =
    let read = c.in_ok-first.ensures in
    rw c.from_residual-in_err-second.ensures (
    pair-no_second c.args.bytes.now c.in_ok-first.first c.in_ok-first.blank.now read.0 read.1 read.2 c.in_ok-rest.rest.now c.in_ok-rest.ensures c.in_err-second.ensures)

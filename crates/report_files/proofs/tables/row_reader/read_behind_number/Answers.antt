use Rattle.std.proofs.Common.{length, map, None, Some}
use Rattle.report_files.proofs.tables.RowFronts.{plain_front}
use Rattle.report_files.proofs.tables.row_reader.read_behind_number.Goals as goal

pub returns-then-counted : goal.returns-then-counted
returns-then-counted c = record {
  front = rw c.if-counted.true c.read_moved.ensures.front;
}

pub returns-in_err-state : goal.returns-in_err-state
returns-in_err-state c = record {
  front = let names = map (λ f. f.now) c.args.fields.now in
      rw (c.from_residual.ensures, c.if-counted.false) (plain_front names (length c.args.fields.now) c.args.bytes.now None c.in_err-state.ensures.front);
}

pub returns : goal.returns
returns c = record {
  front = let names = map (λ f. f.now) c.args.fields.now in
      rw c.if-counted.false (plain_front names (length c.args.fields.now) c.args.bytes.now (Some (c.in_ok-state.state, c.in_ok-state.more.now)) c.in_ok-state.ensures.front);
}

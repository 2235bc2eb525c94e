use Rattle.std.proofs.Common.{length, map, None, Some}
use Rattle.report_files.proofs.tables.RowFronts.{moves_no_number, moved_front}
use Rattle.report_files.proofs.tables.row_reader.read_moved.Goals as goal

pub returns-in_err-moves : goal.returns-in_err-moves
returns-in_err-moves c = record {
  front = let names = map (λ f. f.now) c.args.fields.now in
      rw c.from_residual-in_err-moves.ensures (moves_no_number names (length c.args.fields.now) c.args.bytes.now c.in_ok-number.number.now c.in_ok-number.ensures c.in_err-moves.ensures);
}

pub returns-in_err-state : goal.returns-in_err-state
returns-in_err-state c = record {
  front = let names = map (λ f. f.now) c.args.fields.now in
      let read = c.in_ok-moves.ensures in
      rw c.from_residual-in_err-state.ensures (moved_front names (length c.args.fields.now) c.args.bytes.now c.in_ok-number.number.now c.in_ok-number.ensures c.in_ok-moves.moves c.in_ok-moves.values.now read.0 read.1 read.2 None c.in_err-state.ensures.front);
}

pub returns : goal.returns
returns c = record {
  front = let names = map (λ f. f.now) c.args.fields.now in
      let read = c.in_ok-moves.ensures in
      moved_front names (length c.args.fields.now) c.args.bytes.now c.in_ok-number.number.now c.in_ok-number.ensures c.in_ok-moves.moves c.in_ok-moves.values.now read.0 read.1 read.2 (Some (c.in_ok-state.state, c.in_ok-state.more.now)) c.in_ok-state.ensures.front;
}

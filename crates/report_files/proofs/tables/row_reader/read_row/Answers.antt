use Rattle.std.proofs.Common.{◌∙◌, ◌++◌, ap, length, map}
use Rattle.std.specs.Fmt.{decimal}
use Rattle.report_text.specs.Front.{Anything}
use Rattle.report_text.proofs.Fronts.{lead}
use Rattle.report_files.specs.tables.Tables.{IsRow, row_text}
use Rattle.report_files.proofs.tables.RowFronts.{no_number_no_row, other_row}
use Rattle.report_files.proofs.tables.row_reader.read_row.Goals as goal

pub returns-in_err-number : goal.returns-in_err-number
returns-in_err-number c = record {
  front = rw c.from_residual.ensures (no_number_no_row (map (λ f. f.now) c.args.fields.now) (length c.args.fields.now) c.args.node c.args.counted c.args.bytes.now c.ranges.node.fits c.in_err-number.ensures);
}

pub returns-then-number-node : goal.returns-then-number-node
returns-then-number-node c = record {
  front = let read = c.in_ok-number.ensures in
      other_row (map (λ f. f.now) c.args.fields.now) (length c.args.fields.now) c.args.node c.args.counted c.args.bytes.now c.ranges.node.fits c.in_ok-number.number c.in_ok-number.rest.now read.0 read.1 read.2 c.if-number-node.true;
}

pub returns : goal.returns
returns c = record {
  front = let names = map (λ f. f.now) c.args.fields.now in
      let rest = c.in_ok-number.rest.now in
      lead (row_text names) (IsRow (length c.args.fields.now) c.args.counted) Anything (decimal c.args.node) c.args.bytes.now rest _ (c.in_ok-number.ensures.0 ∙ ap (λ n. decimal n ++ rest) c.if-number-node.false) c.read_behind_number.ensures.front;
}

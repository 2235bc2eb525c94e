use Rattle.std.proofs.Common.{◌≡◌, ◌++◌, []}
use Rattle.csv.specs.Records.{fields_of, partial_of}
use Rattle.report_files.specs.tables.Csv.{AreNodes, value_cells}
use Rattle.report_files.proofs.tables.records.put_values.Given as goal

abbrev pub invariant-loop-field : goal.invariant-loop-field
invariant-loop-field l = record {
  whole : partial_of l.line ≡ [];
  cells : fields_of l.line ≡ fields_of l.fn.line ++ value_cells l.by.names.now l.by.marks.now l.row.state.words l.field;
  nodes : AreNodes l.by.names.now l.by.marks.now l.row.state.words l.field;
}

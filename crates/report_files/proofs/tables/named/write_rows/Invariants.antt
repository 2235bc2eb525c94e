use Rattle.std.proofs.Common.{◌≡◌, ◌++◌, length, take}
use Rattle.report_files.specs.tables.Csv.{AreRowsOfNodes, node_records, records_text}
use Rattle.report_files.specs.tables.Writing.{IsReady, written}
use Rattle.report_files.proofs.tables.named.write_rows.Given as goal

abbrev pub invariant-loop-node : goal.invariant-loop-node
invariant-loop-node l = record {
  ready : IsReady l.writer;
  text : written l.writer ≡ written l.fn.writer ++ records_text (node_records l.by.names.now l.by.marks.now (length l.by.table.now.fields) 0 (take l.node l.by.table.now.rows));
  nodes : AreRowsOfNodes l.by.names.now l.by.marks.now (length l.by.table.now.fields) l.by.table.now.rows l.node;
}

use Rattle.csv.specs.Records.{fields_of}
use Rattle.report_files.proofs.tables.CsvLines.{cells_more, nodes_more}
use Rattle.report_files.proofs.tables.records.put_values.Goals as goal

pub loop-field-preserved : goal.loop-field-preserved
loop-field-preserved c =
    let names = c.args.by.now.names.now in
    let marks = c.args.by.now.marks.now in
    let words = c.args.row.now.state.words in
    record {
      whole = c.in_ok-put_value.ensures.whole;
      cells = cells_more names marks words c.loop-field.field (fields_of c.args.line.now) (fields_of c.loop-field.line) (fields_of c.put_value.new.line) c.loop-field.invariant.cells c.in_ok-put_value.ensures.cell;
      nodes = nodes_more names marks words c.loop-field.field c.loop-field.invariant.nodes c.in_ok-put_value.ensures.node;
    }

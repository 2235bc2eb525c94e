use Rattle.std.proofs.Common.{◌≡◌, ◌∙◌, ◌<◌, get_or, ap, sym, length, Some, slice_get, arith}
use Rattle.std.proofs.lemmas.Option.{slice_get-get_or}
use Rattle.report_files.specs.tables.Writing.{written}
use Rattle.report_files.proofs.tables.CsvLines.{text_more, rows_more}
use Rattle.report_files.proofs.tables.named.write_rows.Goals as goal

pub loop-node-preserved : goal.loop-node-preserved
loop-node-preserved c =
    let t = c.args.by.now.table.now in
    let names = c.args.by.now.names.now in
    let marks = c.args.by.now.marks.now in
    let node = c.loop-node.node in
    let row = c.in-Some.row.now in
    let is = c.in-Some.ensures.lookup.1 ∙ ap (λ rows. get_or rows node row) c.rows.ensures.rows in
    let inside : node < length t.rows = omega (arith, c.loop-node-test.true, c.count-node-end.ensures.count, c.requires.counted) in
    let here : slice_get t.rows node ≡ Some row = slice_get-get_or t.rows node row inside ∙ ap Some (sym is) in
    record {
      ready = c.in_ok-write_row.ensures.ready;
      text = text_more names marks (length t.fields) t.rows node row (written c.args.writer.now) (written c.loop-node.writer) (written c.write_row.new.writer) here c.loop-node.invariant.text c.in_ok-write_row.ensures.text;
      nodes = rows_more names marks (length t.fields) t.rows node row here c.in_ok-write_row.ensures.nodes c.loop-node.invariant.nodes;
    }

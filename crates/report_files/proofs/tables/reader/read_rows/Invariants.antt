use Rattle.std.proofs.Common.{◌⊎◌, ◌≡◌, ◌≢◌, ◌++◌, [], All, length, map}
use Rattle.report_files.specs.tables.Tables.{IsRow, row_lines}
use Rattle.report_files.proofs.tables.reader.read_rows.Given as goal

abbrev pub invariant-loop-node : goal.invariant-loop-node
invariant-loop-node l = record {
  count : length l.rows.items ≡ l.node;
  fit : All (IsRow (length l.fields) l.counted) l.rows.items;
  done : l.lines ≡ row_lines (map (λ f. f.now) l.fields) 0 l.rows.items ++ l.rest;
  opened : (l.rows.items ≡ []) ⊎ (l.rest ≢ []);
}

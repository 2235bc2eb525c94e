use Rattle.std.proofs.Common.{◌≡◌, ◌++◌, drop, map, slice_index}
use Rattle.report_files.proofs.tables.column.column_values.Given as goal

abbrev pub invariant-loop-row : goal.invariant-loop-row
invariant-loop-row l = l.values.items ++ map (λ r. slice_index r.state.words l.place) (drop l.row-index l.rows) ≡ map (λ r. slice_index r.state.words l.place) l.rows

use Rattle.std.proofs.Common.{◌≡◌, drop, map}
use Rattle.std.specs.Result.{result_err}
use Rattle.import_formats.specs.edges.Tables.{edges_in}
use Rattle.import_formats.specs.edges.View.{row_of}
use Rattle.import_formats.proofs.edges.row_reader.first_fault.Given as goal

abbrev pub invariant-loop-row : goal.invariant-loop-row
invariant-loop-row l = result_err (edges_in l.reading (map row_of (drop l.row-index l.rows))) ≡ result_err (edges_in l.fn.reading (map row_of l.rows))

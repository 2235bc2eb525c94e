use Rattle.std.proofs.Common.{rules, ◌≡◌, Err}
use Rattle.import_formats.specs.edges.Tables.{table_edges}
use Rattle.import_network.specs.declared.fault.ImportFault.TheVariants.{Memory}
use Rattle.import_network.specs.Faults.{table_fault}
use Rattle.import_network.proofs.TableSteps.{no_rows, no_edges}
use Rattle.import_network.proofs.table.network_from_table.Goals as goal

pub returns-in_err-rows-clause-fault : goal.returns-in_err-rows-clause-fault
returns-in_err-rows-clause-fault c =
    let is : c.from_residual.result ≡ Err Memory = search rules in
    no_rows c.args.making (table_edges c.args.reading.now c.args.text.now) c.from_residual.result is

pub returns-in_err-edges-clause-fault : goal.returns-in_err-edges-clause-fault
returns-in_err-edges-clause-fault c =
    let why = c.in_err-edges.field-0.0 in
    let is : c.from_residual-in_err-edges.result ≡ Err (table_fault why) = search rules in
    no_edges c.args.making (table_edges c.args.reading.now c.args.text.now) why c.from_residual-in_err-edges.result
    (rw (c.as_slice.ensures.value, c.in_ok-rows.ensures.rows) at c.in_err-edges.ensures.answer) is

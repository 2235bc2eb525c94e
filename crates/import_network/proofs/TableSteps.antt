-- Networks of tables of edges.
use Rattle.std.proofs.Common.{◌≡◌, ◌≢◌, List, Result, Ok, Err, IfErr, refl}
use Rattle.import_lines.specs.Named.{NamedEdge}
use Rattle.import_formats.specs.declared.edges.row_fault.TableFault.{TableFault}
use Rattle.import_formats.specs.declared.edges.row_fault.TableFault.TheVariants as table
use Rattle.import_network.specs.declared.making.Making.{Making}
use Rattle.import_network.specs.declared.fault.ImportFault.{ImportFault}
use Rattle.import_network.specs.declared.fault.ImportFault.TheVariants.{Memory}
use Rattle.import_network.specs.declared.imported.Imported.{Imported}
use Rattle.import_network.specs.Faults.{table_fault}
use Rattle.import_network.specs.Naming.{IsTableFault}

-- running out of memory
no_room : (making : Making) (read : Result (List NamedEdge) TableFault) → IsTableFault making read Memory
no_room making (Ok edges) = tt
no_room making (Err bad) = λ some. absurd (some refl)

-- the same of what was returned
pub no_rows : (making : Making) (read : Result (List NamedEdge) TableFault) (r : Result Imported ImportFault) → r ≡ Err Memory → IfErr r (IsTableFault making read)
no_rows making read r is = rw is (no_room making read)

bad_row : (making : Making) (read : Result (List NamedEdge) TableFault) (why : TableFault) → read ≡ Err why → IsTableFault making read (table_fault why)
bad_row making read why is = rw is (λ some. refl)

-- a table with a bad row
edges_refused : (making : Making) (read : Result (List NamedEdge) TableFault) (why : TableFault) → (why ≢ table.Memory → read ≡ Err why) → IsTableFault making read (table_fault why)
edges_refused making read (table.BadRow line fault) bad = bad_row making read (table.BadRow line fault) (bad (λ e. cc))
edges_refused making read table.Memory bad = no_room making read

pub no_edges : (making : Making) (read : Result (List NamedEdge) TableFault) (why : TableFault) (r : Result Imported ImportFault) → (why ≢ table.Memory → read ≡ Err why) → r ≡ Err (table_fault why) → IfErr r (IsTableFault making read)
no_edges making read why r bad is = rw is (edges_refused making read why bad)

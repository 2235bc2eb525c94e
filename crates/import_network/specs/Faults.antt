-- The faults of the steps as those of taking. Running out of memory is told in one form, whichever step it comes in.
use Rattle.import_formats.specs.declared.edges.fault.EdgeFault.{EdgeFault}
use Rattle.import_formats.specs.declared.edges.fault.EdgeFault.TheVariants as edges
use Rattle.import_formats.specs.declared.edges.row_fault.TableFault.{TableFault}
use Rattle.import_formats.specs.declared.edges.row_fault.TableFault.TheVariants as table
use Rattle.import_formats.specs.declared.matrix_market.fault.MatrixFault.{MatrixFault}
use Rattle.import_formats.specs.declared.matrix_market.fault.MatrixFault.TheVariants as matrix
use Rattle.import_formats.specs.declared.dot.fault.DotFault.{DotFault}
use Rattle.import_formats.specs.declared.dot.fault.DotFault.TheVariants as dot
use Rattle.import_formats.specs.declared.json.fault.JsonFault.{JsonFault}
use Rattle.import_formats.specs.declared.json.fault.JsonFault.TheVariants as json
use Rattle.import_links.specs.declared.join_fault.JoinFault.{JoinFault}
use Rattle.import_links.specs.declared.join_fault.JoinFault.TheVariants as join
use Rattle.import_links.specs.declared.numbers.NumberFault.{NumberFault}
use Rattle.import_links.specs.declared.numbers.NumberFault.TheVariants as numbers
use Rattle.import_links.specs.declared.settle_fault.SettleFault.{SettleFault}
use Rattle.import_links.specs.declared.settle_fault.SettleFault.TheVariants as settle
use Rattle.import_network.specs.declared.fault.ImportFault.{ImportFault}
use Rattle.import_network.specs.declared.fault.ImportFault.TheVariants.{Edges, Table, Matrix, Dot, Json, Join, Numbers, Settle, Memory}

abbrev pub edge_fault : EdgeFault → ImportFault
edge_fault edges.Memory = Memory
edge_fault fault = Edges fault

abbrev pub table_fault : TableFault → ImportFault
table_fault table.Memory = Memory
table_fault fault = Table fault

abbrev pub matrix_fault : MatrixFault → ImportFault
matrix_fault matrix.Memory = Memory
matrix_fault fault = Matrix fault

abbrev pub dot_fault : DotFault → ImportFault
dot_fault dot.Memory = Memory
dot_fault fault = Dot fault

abbrev pub json_fault : JsonFault → ImportFault
json_fault json.Memory = Memory
json_fault fault = Json fault

abbrev pub join_fault : JoinFault → ImportFault
join_fault join.Memory = Memory
join_fault fault = Join fault

abbrev pub number_fault : NumberFault → ImportFault
number_fault numbers.Memory = Memory
number_fault fault = Numbers fault

abbrev pub settle_fault : SettleFault → ImportFault
settle_fault settle.Memory = Memory
settle_fault fault = Settle fault

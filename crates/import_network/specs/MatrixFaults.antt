-- The faults of the two steps as those of packing a matrix. Running out of memory is told in one form.
use Rattle.import_formats.specs.declared.matrix_market.fault.MatrixFault.{MatrixFault}
use Rattle.import_formats.specs.declared.matrix_market.fault.MatrixFault.TheVariants as matrix
use Rattle.large_pack.specs.declared.fault.PackFault.{PackFault}
use Rattle.large_pack.specs.declared.fault.PackFault.TheVariants as edges
use Rattle.import_network.specs.declared.packed_matrix.fault.MatrixPackFault.{MatrixPackFault}
use Rattle.import_network.specs.declared.packed_matrix.fault.MatrixPackFault.TheVariants.{Matrix, Edges, Memory}

abbrev pub matrix_fault : MatrixFault → MatrixPackFault
matrix_fault matrix.Memory = Memory
matrix_fault fault = Matrix fault

abbrev pub edges_fault : PackFault → MatrixPackFault
edges_fault edges.Memory = Memory
edges_fault fault = Edges fault

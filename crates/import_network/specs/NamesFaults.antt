-- The faults of the steps as those of packing edges between named nodes. Running out of memory is told in one form.
use Rattle.import_formats.specs.declared.edges.fault.EdgeFault.{EdgeFault}
use Rattle.import_formats.specs.declared.edges.fault.EdgeFault.TheVariants as lines
use Rattle.net_names.specs.declared.fault.NameListFault.{NameListFault}
use Rattle.net_names.specs.declared.fault.NameListFault.TheVariants as names
use Rattle.large_pack.specs.declared.fault.PackFault.{PackFault}
use Rattle.large_pack.specs.declared.fault.PackFault.TheVariants as edges
use Rattle.import_network.specs.declared.packed_names.fault.NamesPackFault.{NamesPackFault}
use Rattle.import_network.specs.declared.packed_names.fault.NamesPackFault.TheVariants.{Lines, TooManyNames, Edges, Memory}

abbrev pub lines_fault : EdgeFault → NamesPackFault
lines_fault lines.Memory = Memory
lines_fault fault = Lines fault

abbrev pub names_fault : NameListFault → NamesPackFault
names_fault names.TooManyNames = TooManyNames
names_fault names.Memory = Memory

abbrev pub edges_fault : PackFault → NamesPackFault
edges_fault edges.Memory = Memory
edges_fault fault = Edges fault

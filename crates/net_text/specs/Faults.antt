-- Faults of links as those of rows.
use Rattle.link_net.specs.declared.fault.NetFault.{NetFault}
use Rattle.link_net.specs.declared.fault.NetFault.TheVariants as net
use Rattle.net_text.specs.declared.fault.RowsFault.{RowsFault}
use Rattle.net_text.specs.declared.fault.RowsFault.TheVariants.{Links, Memory}

-- the fault of rows whose links have this one
abbrev pub fault_as : NetFault → RowsFault
fault_as net.Memory = Memory
fault_as fault = Links fault

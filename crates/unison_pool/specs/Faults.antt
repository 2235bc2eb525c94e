-- The faults of a run that are those of its world.
use Rattle.unison_world.specs.declared.fault.OpenFault.{OpenFault}
use Rattle.unison_world.specs.declared.fault.OpenFault.TheVariants as opening
use Rattle.unison_world.specs.declared.fault.FinishFault.{FinishFault}
use Rattle.unison_world.specs.declared.fault.FinishFault.TheVariants as finish
use Rattle.unison_pool.specs.declared.fault.RunFault.{RunFault}
use Rattle.unison_pool.specs.declared.fault.RunFault.TheVariants.{StopTooLarge, Foreign, Unfinished, Memory, StopBelowStart}

-- why no world was opened
abbrev pub fault_at_opening : OpenFault → RunFault
fault_at_opening opening.StopTooLarge = StopTooLarge
fault_at_opening opening.Memory = Memory
fault_at_opening opening.StopBelowStart = StopBelowStart

-- why a world was not finished
abbrev pub fault_at_finish : FinishFault → RunFault
fault_at_finish finish.Foreign = Foreign
fault_at_finish (finish.Unfinished node moves) = Unfinished node moves
fault_at_finish finish.Memory = Memory

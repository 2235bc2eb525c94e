-- What a list of each manner is, and which lists there are not.
use Rattle.std.specs.Prelude.{◌≡◌, ℕ, List, take, length, nat_lt, nat_le, Option, Some, None, if◌then◌else◌}
use Rattle.std.specs.Option.{option_or}
use Rattle.link_net.specs.Neighbours.{Neighbours}
use Rattle.rounds_plan.specs.Configs.{most_rounds}
use Rattle.rounds_plan.specs.Plans.{PlanView}
use Rattle.unison_world.specs.declared.step.Step.{Step}
use Rattle.run_schedule.specs.declared.daemon.Daemon.TheVariants.{Adversary}
use Rattle.run_schedule.specs.declared.fault.ListFault.{ListFault}
use Rattle.run_schedule.specs.declared.fault.ListFault.TheVariants.{StopTooLarge, StopBelowStart, NoNode, NotLinked, Memory}
use Rattle.run_schedule.specs.declared.manner.Manner.{Manner}
use Rattle.run_schedule.specs.declared.manner.Manner.TheVariants.{Sweeps, Random, Starve, Ahead, SlowLinks, Under}
use Rattle.run_schedule.specs.Daemons.{IsUnderDaemon, is_linked}
use Rattle.run_schedule.specs.Leading.{LeadsNode}
use Rattle.run_schedule.specs.Lists.{GoesToStop}
use Rattle.run_schedule.specs.Sweeps.{sweeps_of}
use Rattle.run_schedule.specs.Starving.{StarvesNode}

-- the sweeps up to the stop, or the first of their steps
pub record IsSwept (plan : PlanView) (stop limit : ℕ) (steps : List Step) : Type 0 where
  pub exact : steps ≡ take limit (sweeps_of plan stop)
  pub goes : GoesToStop plan stop limit steps

-- what a list of each manner is; how the steps of two of them are drawn is not said, so that any list that goes on to the stop is one of those
abbrev pub HasManner : PlanView → ℕ → Manner → ℕ → List Step → Type 0
HasManner plan stop Sweeps limit steps = IsSwept plan stop limit steps
HasManner plan stop (Random seed) limit steps = GoesToStop plan stop limit steps
HasManner plan stop (Starve node) limit steps = StarvesNode plan stop node limit steps
HasManner plan stop (Ahead node) limit steps = LeadsNode plan stop node limit steps
HasManner plan stop (SlowLinks seed) limit steps = GoesToStop plan stop limit steps
HasManner plan stop (Under daemon) limit steps = IsUnderDaemon plan stop daemon limit steps

-- the node that a manner names
abbrev pub node_in : Manner → Option ℕ
node_in (Starve node) = Some node
node_in (Ahead node) = Some node
node_in manner = None

-- the two nodes that a manner names
abbrev pub pair_in : Manner → Option (ℕ × ℕ)
pair_in (Under (Adversary seed ahead behind)) = Some (ahead, behind)
pair_in manner = None

-- the fault of a node that is none of the network's
abbrev pub node_fault : Neighbours → Option ℕ → Option ListFault
node_fault network None = None
node_fault network (Some node) = if nat_le (length network) node then Some (NoNode node) else None

-- the fault of two nodes, of which one is none of the network's, or which are not linked
abbrev pub pair_fault : Neighbours → Option (ℕ × ℕ) → Option ListFault
pair_fault network None = None
pair_fault network (Some pair) =
    if nat_le (length network) pair.0 then Some (NoNode pair.0)
    else if nat_le (length network) pair.1 then Some (NoNode pair.1)
    else if is_linked network pair.0 pair.1 then None
    else Some (NotLinked pair.0 pair.1)

-- the fault of the nodes that a manner names
abbrev pub named_fault : Neighbours → Manner → Option ListFault
named_fault network manner = option_or (node_fault network (node_in manner)) (pair_fault network (pair_in manner))

-- why there is no list, whatever memory there is
abbrev pub refusal_of : PlanView → ℕ → Manner → Option ListFault
refusal_of plan stop manner =
    if nat_lt most_rounds stop then Some StopTooLarge
    else if nat_lt stop plan.start then Some StopBelowStart
    else named_fault plan.network manner

-- the fault is that of the plan, the stop and the manner; running out of memory comes only where these have none
abbrev pub IsFaultOf : PlanView → ℕ → Manner → ListFault → Type 0
IsFaultOf plan stop manner Memory = refusal_of plan stop manner ≡ None
IsFaultOf plan stop manner fault = refusal_of plan stop manner ≡ Some fault

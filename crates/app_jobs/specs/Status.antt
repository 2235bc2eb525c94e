-- The status with which the program ends.
use Rattle.std.specs.Prelude.{ℕ}
use Rattle.rule_lang.specs.declared.fault.LangFault.TheVariants as lang
use Rattle.rule_check.specs.declared.fault.CheckFault.TheVariants as check
use Rattle.link_net.specs.declared.fault.NetFault.TheVariants as net
use Rattle.rounds_plan.specs.declared.fault.PlanFault.TheVariants as plan
use Rattle.report_text.specs.declared.fault.ReportFault.TheVariants as report
use Rattle.unison_trace.specs.declared.fault.ScheduleFault.TheVariants as schedule
use Rattle.unison_trace.specs.declared.fault.ReplayFault.{ReplayFault}
use Rattle.unison_trace.specs.declared.fault.ReplayFault.TheVariants as replay
use Rattle.app_jobs.specs.declared.fault.ServeFault.{ServeFault}
use Rattle.app_jobs.specs.declared.fault.ServeFault.TheVariants as fault

-- 3 for a refused schedule; 1 for running out of memory, a device's fault and a refused opening
abbrev pub replay_status : ReplayFault → ℕ
replay_status replay.Read = 1
replay_status replay.TooManyTurns = 3
replay_status (replay.Schedule schedule.Memory) = 1
replay_status (replay.Schedule _) = 3
replay_status (replay.Opening _) = 1
replay_status (replay.Write _) = 1
replay_status replay.Memory = 1

-- 1 for running out of memory, a device's fault and a fault of a run; 3 for a refused program, network, plan, report or schedule
abbrev pub status_of : ServeFault → ℕ
status_of (fault.Lang lang.Memory) = 1
status_of (fault.Lang _) = 3
status_of (fault.Check check.Memory) = 1
status_of (fault.Check _) = 3
status_of (fault.Net net.Memory) = 1
status_of (fault.Net _) = 3
status_of (fault.Plan plan.Memory) = 1
status_of (fault.Plan _) = 3
status_of (fault.Report report.Memory) = 1
status_of (fault.Report _) = 3
status_of (fault.Round _) = 1
status_of (fault.Run _) = 1
status_of (fault.Replay f) = replay_status f
status_of (fault.Write _) = 1
status_of fault.Memory = 1

-- The numbers of the faults: 1 for running out of memory, wherever it comes; 2 to 15 for what a call alone refuses;
-- from 16 on sixteen numbers for each part. 3 stands for faults that no call answers.
use Rattle.std.specs.Prelude.{ℕ, ◌≡◌}
use Rattle.rule_lang.specs.declared.fault.LangFault.{LangFault}
use Rattle.rule_lang.specs.declared.fault.LangFault.TheVariants as lang
use Rattle.rule_check.specs.declared.fault.CheckFault.{CheckFault}
use Rattle.rule_check.specs.declared.fault.CheckFault.TheVariants as check
use Rattle.link_net.specs.declared.fault.NetFault.{NetFault}
use Rattle.link_net.specs.declared.fault.NetFault.TheVariants as net
use Rattle.rounds_plan.specs.declared.fault.PlanFault.{PlanFault}
use Rattle.rounds_plan.specs.declared.fault.PlanFault.TheVariants as plan
use Rattle.report_text.specs.declared.fault.ReportFault.{ReportFault}
use Rattle.report_text.specs.declared.fault.ReportFault.TheVariants as report
use Rattle.rounds_plan.specs.declared.fault.RoundFault.{RoundFault}
use Rattle.rounds_plan.specs.declared.fault.RoundFault.TheVariants as round
use Rattle.run_settle.specs.declared.fault.SettleFault.{SettleFault}
use Rattle.run_settle.specs.declared.fault.SettleFault.TheVariants as settle
use Rattle.unison_world.specs.declared.fault.OpenFault.{OpenFault}
use Rattle.unison_world.specs.declared.fault.OpenFault.TheVariants as opening
use Rattle.unison_trace.specs.declared.fault.ScheduleFault.{ScheduleFault}
use Rattle.unison_trace.specs.declared.fault.ScheduleFault.TheVariants as schedule
use Rattle.unison_trace.specs.declared.fault.ReplayFault.{ReplayFault}
use Rattle.unison_trace.specs.declared.fault.ReplayFault.TheVariants as replay
use Rattle.app_jobs.specs.declared.fault.ServeFault.{ServeFault}
use Rattle.app_jobs.specs.declared.fault.ServeFault.TheVariants as serve
use Rattle.app_calls.specs.declared.fault.Fault.{Fault}
use Rattle.app_calls.specs.declared.fault.Fault.TheVariants as fault

-- of a program's text
abbrev pub lang_number : LangFault → ℕ
lang_number lang.Memory = 1
lang_number lang.TooLong = 16
lang_number (lang.Lex at) = 17
lang_number (lang.Syntax at) = 18

-- of a program that is not well formed
abbrev pub check_number : CheckFault → ℕ
check_number check.Memory = 1
check_number check.TooManyFields = 32
check_number check.FieldTwice = 33
check_number check.NextTwice = 34
check_number check.UnknownName = 35
check_number check.NeighbourOutside = 36
check_number check.NestedAggregate = 37
check_number check.TooManyAggregates = 38

-- of a network
abbrev pub net_number : NetFault → ℕ
net_number net.Memory = 1
net_number net.NotToml = 48
net_number net.UnknownKey = 49
net_number net.BadShape = 50
net_number net.NodeCount = 51
net_number net.BadLink = 52
net_number net.SelfLink = 53
net_number net.LinkTwice = 54
net_number net.TooManyLinks = 55
net_number net.TooManyNeighbours = 56
net_number net.BadPhase = 57
net_number net.BadWeight = 58

-- of a plan
abbrev pub plan_number : PlanFault → ℕ
plan_number plan.Memory = 1
plan_number plan.UnknownField = 64
plan_number plan.BadNode = 65
plan_number plan.BadValue = 66
plan_number plan.SetTwice = 67

-- of a round
abbrev pub round_number : RoundFault → ℕ
round_number round.Memory = 1
round_number round.TooManyRounds = 80
round_number round.RoundsBelowStart = 81

-- of a schedule
abbrev pub schedule_number : ScheduleFault → ℕ
schedule_number schedule.Memory = 1
schedule_number (schedule.BadLine line) = 96
schedule_number schedule.TooManySteps = 97

-- of a stop
abbrev pub opening_number : OpenFault → ℕ
opening_number opening.Memory = 1
opening_number opening.StopTooLarge = 98
opening_number opening.StopBelowStart = 99

-- of a replay
abbrev pub replay_number : ReplayFault → ℕ
replay_number replay.Memory = 1
replay_number (replay.Schedule f) = schedule_number f
replay_number (replay.Opening f) = opening_number f
replay_number replay.Read = 3
replay_number replay.TooManyTurns = 3
replay_number (replay.Write written) = 3

-- of a report
abbrev pub report_number : ReportFault → ℕ
report_number report.Memory = 1
report_number (report.BadLine line) = 112
report_number report.TooManyRounds = 113

-- of what becomes of the rounds
abbrev pub settle_number : SettleFault → ℕ
settle_number settle.Memory = 1
settle_number settle.ReadsRound = 128
settle_number settle.LimitTooLarge = 129
settle_number settle.LimitBelowStart = 130

-- of texts that have no program or no plan
abbrev pub texts_number : ServeFault → ℕ
texts_number (serve.Lang f) = lang_number f
texts_number (serve.Check f) = check_number f
texts_number (serve.Net f) = net_number f
texts_number (serve.Plan f) = plan_number f
texts_number (serve.Report f) = report_number f
texts_number serve.Memory = 1
texts_number (serve.Round f) = 3
texts_number (serve.Run f) = 3
texts_number (serve.Replay f) = 3
texts_number (serve.Write written) = 3

-- the number of a fault
abbrev pub number_of : Fault → ℕ
number_of (fault.Texts f) = texts_number f
number_of (fault.Round f) = round_number f
number_of (fault.Replay f) = replay_number f
number_of (fault.Settle f) = settle_number f
number_of fault.NotRising = 4
number_of fault.NoJob = 5
number_of fault.Room = 2
number_of fault.Memory = 1

-- a fault that is so has this number
pub record IsNumberOf (P : Fault → Type 0) (n : ℕ) : Type 0 where
  pub of : Fault
  pub number : n ≡ number_of of
  pub is : P of

use Rattle.std.proofs.Common.{◌≡◌, ◌++◌, All, drop, take, string_bytes}
use Rattle.unison_trace.specs.Schedules.{IsStep}
use Rattle.unison_trace.proofs.ScheduleLines.{text_of}
use Rattle.unison_trace.proofs.schedule_writer.write_schedule.Given as goal

abbrev pub invariant-loop-step : goal.invariant-loop-step
invariant-loop-step l = record {
  text : string_bytes l.out ++ text_of (drop l.step-index l.steps) ≡ text_of l.steps;
  numbers : All IsStep (take l.step-index l.steps);
}

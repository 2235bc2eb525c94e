use Rattle.std.proofs.Common.{◌≤◌, ◌+◌, length}
use Rattle.unison_trace.proofs.ScheduleLines.{IsReadTo}
use Rattle.unison_trace.proofs.schedule_reader.read_schedule.Given as goal

abbrev pub invariant-loop-rest : goal.invariant-loop-rest
invariant-loop-rest l = record {
  read : IsReadTo l.text l.rest l.count l.steps.items;
  far : l.count + length l.rest ≤ length l.text;
}

abbrev pub decreases-loop-rest : goal.decreases-loop-rest
decreases-loop-rest l = length l.rest

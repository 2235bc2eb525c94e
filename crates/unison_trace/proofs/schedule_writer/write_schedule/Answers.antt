use Rattle.std.proofs.Common.{arith, All, ◌≡◌, subst}
use Rattle.std.proofs.lemmas.Grind.{common_steps}
use Rattle.std.proofs.lemmas.List.{take_all}
use Rattle.std.proofs.lemmas.List.Elements.{All-more}
use Rattle.unison_trace.specs.Schedules.{IsStep}
use Rattle.unison_trace.proofs.ScheduleLines.{steps_whole, text_of}
use Rattle.unison_trace.proofs.schedule_writer.write_schedule.Goals as goal

pub loop-step-preserved : goal.loop-step-preserved
loop-step-preserved c = record {
  text = grind (arith, common_steps);
  numbers = All-more IsStep c.args.steps.now c.loop-step.step-index _ c.loop-step-test.true c.loop-step.invariant.numbers c.put_step.ensures.numbers;
}

pub returns : goal.returns
returns c =
    let steps = c.args.steps.now in
    let text : c.into_bytes.result.items ≡ text_of steps = grind (arith, common_steps) in
    let each : All IsStep steps = subst (All IsStep) (take_all c.loop-step.step-index steps c.loop-step-test.false) c.loop-step.invariant.numbers in
    record { schedule = steps_whole c.into_bytes.result.items steps text each }

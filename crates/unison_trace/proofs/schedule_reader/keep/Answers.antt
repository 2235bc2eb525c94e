use Rattle.std.proofs.Common.{arith}
use Rattle.unison_trace.specs.Histories.{most_steps}
use Rattle.unison_trace.proofs.ScheduleLines.{keep-fits, keep-full}
use Rattle.unison_trace.proofs.schedule_reader.keep.Goals as goal

pub returns-in_ok-push-clause-kept : goal.returns-in_ok-push-clause-kept
returns-in_ok-push-clause-kept c = keep-fits most_steps c.args.steps.now.items c.push.new.self.items c.args.step c.in_ok-push.ensures.items (omega arith)

pub returns-else-count-lt-MOST_STEPS-clause-kept : goal.returns-else-count-lt-MOST_STEPS-clause-kept
returns-else-count-lt-MOST_STEPS-clause-kept c = keep-full most_steps c.args.steps.now.items c.args.step (omega arith)

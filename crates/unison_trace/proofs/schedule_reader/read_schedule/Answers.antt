use Rattle.std.proofs.Common.{arith, ◌≡◌, ◌≢◌, ◌∙◌, ◌+◌, [], sym, subst, ap}
use Rattle.std.specs.Prelude.{Err}
use Rattle.unison_trace.specs.declared.fault.ScheduleFault.TheVariants.{BadLine}
use Rattle.unison_trace.specs.Schedules.{HasSteps}
use Rattle.unison_trace.proofs.ScheduleLines.{read_bad, read_all, read_more, read_line_shorter, kept_all, kept_length, steps_once, alone, no_step_first, no_end_first, no_bytes, some_bytes}
use Rattle.unison_trace.proofs.schedule_reader.read_schedule.Goals as goal

pub returns-in_default-clause-refused : goal.returns-in_default-clause-refused
returns-in_default-clause-refused c =
    let some : c.loop-rest.rest.now ≢ [] = some_bytes c.loop-rest.rest.now c.loop-rest-test.ensures in
    read_bad c.args.text.now c.loop-rest.rest.now c.loop-rest.count c.loop-rest.steps.items c.loop-rest.invariant.read some c.in_default.ensures

pub keep-requires : goal.keep-requires
keep-requires c = record { kept = kept_length c.args.text.now c.loop-rest.rest.now c.loop-rest.count c.loop-rest.steps.items c.loop-rest.invariant.read }

pub loop-rest-preserved : goal.loop-rest-preserved
loop-rest-preserved c = record {
  read = read_more c.args.text.now c.loop-rest.rest.now c.in-Some.more.now c.loop-rest.count c.loop-rest.steps.items c.keep.new.steps.items c.in-Some.step c.loop-rest.invariant.read c.in-Some.ensures.0 c.in-Some.ensures.1 c.in_ok-keep.ensures.kept;
  far = let shorter = read_line_shorter c.loop-rest.rest.now c.in-Some.more.now c.in-Some.step c.in-Some.ensures.0 in omega (arith, c.loop-rest.invariant.far);
}

pub returns-then-count-gt-MOST_STEPS-clause-refused : goal.returns-then-count-gt-MOST_STEPS-clause-refused
returns-then-count-gt-MOST_STEPS-clause-refused c =
    let r = c.loop-rest.invariant.read in
    let none : c.loop-rest.rest.now ≡ [] = no_bytes c.loop-rest.rest.now c.loop-rest-test.ensures in
    (r.good, read_all c.args.text.now c.loop-rest.rest.now c.loop-rest.count c.loop-rest.steps.items r none, omega (arith, r.many))

pub returns-clause-steps : goal.returns-clause-steps
returns-clause-steps c =
    let r = c.loop-rest.invariant.read in
    let whole = read_all c.args.text.now c.loop-rest.rest.now c.loop-rest.count c.loop-rest.steps.items r (no_bytes c.loop-rest.rest.now c.loop-rest-test.ensures) in
    let kept = kept_all c.args.text.now c.loop-rest.rest.now c.loop-rest.count c.loop-rest.steps.items r c.if-count-gt-MOST_STEPS.false in
    subst (HasSteps c.args.text.now) (sym kept) whole

pub returns-clause-only : goal.returns-clause-only
returns-clause-only c =
    let r = c.loop-rest.invariant.read in
    let whole = read_all c.args.text.now c.loop-rest.rest.now c.loop-rest.count c.loop-rest.steps.items r (no_bytes c.loop-rest.rest.now c.loop-rest-test.ensures) in
    let kept = kept_all c.args.text.now c.loop-rest.rest.now c.loop-rest.count c.loop-rest.steps.items r c.if-count-gt-MOST_STEPS.false in
    λ steps has. steps_once c.args.text.now steps r.good has whole ∙ sym kept

pub returns-clause-few : goal.returns-clause-few
returns-clause-few c =
    let long = kept_length c.args.text.now c.loop-rest.rest.now c.loop-rest.count c.loop-rest.steps.items c.loop-rest.invariant.read in
    omega arith

pub returns-in_default-clause-at_once : goal.returns-in_default-clause-at_once
returns-in_default-clause-at_once c bad =
    let none = alone c.args.text.now c.loop-rest.rest.now c.loop-rest.count c.loop-rest.steps.items c.loop-rest.invariant.read bad in
    ap (λ n. Err (BadLine (n + 1))) none

pub returns-in_err-keep-clause-at_once : goal.returns-in_err-keep-clause-at_once
returns-in_err-keep-clause-at_once c bad =
    absurd (no_step_first c.args.text.now c.loop-rest.rest.now c.in-Some.more.now c.loop-rest.count c.loop-rest.steps.items c.in-Some.step c.loop-rest.invariant.read c.in-Some.ensures.0 c.in-Some.ensures.1 bad)

pub returns-then-count-gt-MOST_STEPS-clause-at_once : goal.returns-then-count-gt-MOST_STEPS-clause-at_once
returns-then-count-gt-MOST_STEPS-clause-at_once c bad =
    absurd (no_end_first c.args.text.now c.loop-rest.rest.now c.loop-rest.count c.loop-rest.steps.items c.loop-rest.invariant.read (no_bytes c.loop-rest.rest.now c.loop-rest-test.ensures) bad)

pub returns-clause-at_once : goal.returns-clause-at_once
returns-clause-at_once c bad =
    absurd (no_end_first c.args.text.now c.loop-rest.rest.now c.loop-rest.count c.loop-rest.steps.items c.loop-rest.invariant.read (no_bytes c.loop-rest.rest.now c.loop-rest-test.ensures) bad)

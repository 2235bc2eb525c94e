use Rattle.std.proofs.Common.{not}
use Rattle.std.specs.List.{list_any}
use Rattle.rule_check.specs.Value.{names_of}
use Rattle.rule_check.specs.WellFormed.{is_among}
use Rattle.rounds_plan.specs.declared.fault.PlanFault.TheVariants.{UnknownField}
use Rattle.rounds_plan.specs.PlanCauses.{first_place}
use Rattle.rounds_plan.proofs.Entries.{any_place, fails, search_end}
use Rattle.rounds_plan.proofs.plan_cause.unknown_field.Goals as goal

pub returns-clause-agrees : goal.returns-clause-agrees
returns-clause-agrees c =
    let sets = c.args.sets.now in
    fails (list_any (λ set. not (is_among (names_of c.args.program.now) set.name)) sets) UnknownField (first_place (λ set. not (is_among (names_of c.args.program.now) set.name)) sets) (any_place (λ set. not (is_among (names_of c.args.program.now) set.name)) 0 sets)
    (search_end (λ set. not (is_among (names_of c.args.program.now) set.name)) sets c.loop-key.key c.loop-key-test.false c.loop-key.invariant)

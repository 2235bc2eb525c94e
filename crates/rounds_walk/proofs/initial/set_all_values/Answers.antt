use Rattle.std.proofs.Common.{List, All, arith, length, subst, sym}
use Rattle.rule_check.specs.declared.state.State.{State}
use Rattle.rounds_plan.specs.Configs.{IsPlain}
use Rattle.rounds_walk.proofs.Plain.{all_plain_with}
use Rattle.rounds_walk.proofs.initial.set_all_values.Goals as goal

pub returns-clause-plain : goal.returns-clause-plain
returns-clause-plain c = λ plain.
    let a = c.args in
    let fields = length a.program.now.fields in
    subst (λ (states : List State). All (IsPlain fields) states) (sym c.fill.ensures.each)
    (all_plain_with fields a.field a.value a.states.now (omega (arith, c.field_count.ensures.count, c.if-field-field_count.false)) plain)

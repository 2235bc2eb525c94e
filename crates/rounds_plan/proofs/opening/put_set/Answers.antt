use Rattle.std.proofs.Common.{◌≡◌, false, ◌∙◌, sym, ap, arith, length, get_or}
use Rattle.std.proofs.lemmas.Grind.{common_steps}
use Rattle.rule_check.specs.declared.state.State.{State}
use Rattle.rounds_plan.specs.Configs.{blank}
use Rattle.rounds_plan.specs.Opening.{with_value}
use Rattle.rounds_plan.specs.Plans.{value_in}
use Rattle.rule_check.specs.Value.{names_of, place, opening_of}
use Rattle.rule_check.specs.WellFormed.{is_among, has_twice}
use Rattle.rounds_plan.proofs.Names.{place-below, some_place, name_count}
use Rattle.rounds_plan.proofs.Faultless.{names_differ}
use Rattle.rounds_plan.proofs.Openings.{openings-more}
use Rattle.rounds_plan.proofs.opening.put_set.Goals as goal

pub put_values-requires-clause-field : goal.put_values-requires-clause-field
put_values-requires-clause-field c =
    let names = names_of c.args.program.now in
    let at = some_place (is_among names c.as_str.result.now) c.in-Some.field (place names c.as_str.result.now) c.in-Some.ensures.index (ap (is_among names) c.as_str.ensures.text ∙ c.requires.known) in
    let below = place-below names c.as_str.result.now (ap (is_among names) c.as_str.ensures.text ∙ c.requires.known) in
    omega (arith, at, below, name_count c.args.program.now, c.field_count-few.ensures.count, c.field_count-few.ensures.few)

pub returns-in-Some : goal.returns-in-Some
returns-in-Some c = record {
  more = λ before old.
      let names = names_of c.args.program.now in
      let at = some_place (is_among names c.as_str.result.now) c.in-Some.field (place names c.as_str.result.now) c.in-Some.ensures.index (ap (is_among names) c.as_str.ensures.text ∙ c.requires.known) in
      let whole = c.field_count-few.ensures in
      let differ : has_twice names ≡ false = grind (arith, common_steps, names_differ, whole) in
      let here : c.in-Some.field ≡ place names c.args.set.now.name = at ∙ ap (place names) c.as_str.ensures.text in
      let h = c.opening-opening.type_inv in
      let words : length (opening_of c.args.program.now).words ≡ 8 = ap (λ (o : State). length o.words) (sym c.opening-opening.ensures.exact) ∙ grind (arith, common_steps, h) in
      openings-more c.args.program.now (length c.args.states.now) before c.args.set.now c.in-Some.field c.args.states.now c.put_values.new.states differ c.requires.known here
      (omega (arith, words, name_count c.args.program.now, c.field_count-few.ensures.count, c.field_count-few.ensures.few)) old c.put_values.auto.states (λ u h. c.put_values.ensures.each u h ∙ ap (λ ps. with_value c.in-Some.field (value_in ps u) (get_or c.args.states.now u blank)) c.as_slice.ensures.items);
}

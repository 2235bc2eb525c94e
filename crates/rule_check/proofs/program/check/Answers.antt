use Rattle.std.proofs.Common.{List, Some, None, ◌≡◌, ◌<◌, ap, ◌∙◌, sym, subst, arith, length, map}
use Rattle.rule_lang.specs.Tree.{ItemTree}
use Rattle.rule_lang.specs.View.{items_of}
use Rattle.std.specs.List.{list_any}
use Rattle.rule_check.specs.declared.program.Program.TheInside.{Inside}
use Rattle.rule_check.specs.declared.fault.CheckFault.TheVariants.{TooManyFields, FieldTwice, NextTwice, UnknownName, NeighbourOutside, NestedAggregate, TooManyAggregates}
use Rattle.rule_check.specs.WellFormed.{first_fault, has_twice, is_unknown, looks_outside, nests, all_parts}
use Rattle.rule_check.specs.Gathering.{numbered}
use Rattle.rule_check.specs.Compiled.{decoded, IsCompiled, rule_code, part_code}
use Rattle.rule_check.specs.Fields.{field_names}
use Rattle.rule_check.specs.Items.{rules_of, fields_of, nexts_of}
use Rattle.rule_check.proofs.Decode.{is_compiled, decoded_is}
use Rattle.rule_check.proofs.Checked.{Passes, well_formed, no_fault}
use Rattle.rule_check.proofs.Faults.{holds, fails, above, not_above, not_many, many_parts}
use Rattle.rule_check.proofs.program.check.Goals as goal

-- what the tests have shown
record Made (p : Inside) (src : List ItemTree) : Type 0 where
  stands_for : decoded p ≡ rules_of src
  compiled : IsCompiled p
  faultless : first_fault (rules_of src) ≡ None

made : (c : goal.In_ok-rules) → Made (record { fields = c.in_ok-fields.fields; gatherers = c.in_ok-gatherers.gatherers; rules = c.in_ok-rules.rules }) c.args.source.now
made c =
    let p : Inside = record { fields = c.in_ok-fields.fields; gatherers = c.in_ok-gatherers.gatherers; rules = c.in_ok-rules.rules } in
    let src = c.args.source.now in
    let e0 = c.items-items.ensures.same in
    let e1 : c.in_ok-fields.fields.items ≡ fields_of src = c.in_ok-fields.ensures.exact ∙ ap fields_of e0 in
    let passes : Passes src = record {
      few_fields = omega (arith, c.count_fields.ensures.exact, ap (λ is. length (fields_of is)) e0, c.if-count_fields-gt8.false);
      fields_differ = ap (λ fs. has_twice (field_names fs)) (sym (c.deref.ensures.value ∙ e1)) ∙ sym c.repeats.ensures.exact ∙ c.if-repeats.false;
      nexts_differ = ap (λ is. has_twice (map (λ n. n.name) (nexts_of is))) (sym e0) ∙ sym c.in_ok-twice.ensures.exact ∙ c.if-twice.false;
      known = ap (λ fs. list_any (is_unknown (field_names fs)) (nexts_of src)) (sym (c.deref-2.ensures.value ∙ e1)) ∙ ap (λ is. list_any (is_unknown (field_names c.deref-2.result.now)) (nexts_of is)) (sym e0) ∙ sym c.some_unknown.ensures.exact ∙ c.if-some_unknown.false;
      inside = ap (λ is. list_any (λ n. looks_outside n.body) (nexts_of is)) (sym e0) ∙ sym c.some_outside.ensures.exact ∙ c.if-some_outside.false;
      flat = ap (λ is. list_any (λ n. nests n.body) (nexts_of is)) (sym e0) ∙ sym c.some_nest.ensures.exact ∙ c.if-some_nest.false;
      few_aggregates = omega (arith, c.count_all.ensures.exact, ap (λ is. length (all_parts (nexts_of is))) e0, c.if-count_all-gt16.false);
    } in
    let well = well_formed src c.items-items.ensures.whole passes in
    let rules = c.in_ok-rules.ensures.exact ∙ ap (λ fs. map (rule_code (field_names fs)) (numbered 0 (nexts_of (items_of c.items-items.result.now)))) c.deref-4.ensures.value ∙ ap (λ is. map (rule_code (field_names p.fields.items)) (numbered 0 (nexts_of is))) e0 in
    let sums = c.in_ok-gatherers.ensures.exact ∙ ap (λ fs. map (part_code (field_names fs)) (all_parts (nexts_of (items_of c.items-items.result.now)))) c.deref-3.ensures.value ∙ ap (λ is. map (part_code (field_names p.fields.items)) (all_parts (nexts_of is))) e0 in
    record {
      stands_for = decoded_is p (rules_of src) e1 well rules sums;
      compiled = is_compiled p (rules_of src) e1 well rules sums;
      faultless = no_fault (rules_of src) well;
    }

pub invariant_of-result : goal.invariant_of-result
invariant_of-result c = (made c).compiled

pub returns-clause-ok : goal.returns-clause-ok
returns-clause-ok c = ((made c).faultless, (made c).stands_for)

pub returns-then-count_fields-gt8-clause-err : goal.returns-then-count_fields-gt8-clause-err
returns-then-count_fields-gt8-clause-err c = λ _.
    let I : List ItemTree = items_of c.items-items.result.now in
    let e : first_fault (rules_of I) ≡ Some TooManyFields = (holds _ _ _ (above 8 (length (fields_of I)) c.count_fields.result c.count_fields.ensures.exact c.if-count_fields-gt8.true)) in
    ap (λ is. first_fault (rules_of is)) (sym c.items-items.ensures.same) ∙ e

pub returns-then-repeats-clause-err : goal.returns-then-repeats-clause-err
returns-then-repeats-clause-err c = λ _.
    let I : List ItemTree = items_of c.items-items.result.now in
    let e : first_fault (rules_of I) ≡ Some FieldTwice = (fails _ _ _ _ (not_above 8 (length (fields_of I)) c.count_fields.result c.count_fields.ensures.exact c.if-count_fields-gt8.false) (holds _ _ _ (ap (λ fs. has_twice (field_names fs)) (sym (c.deref.ensures.value ∙ c.in_ok-fields.ensures.exact)) ∙ sym c.repeats.ensures.exact ∙ c.if-repeats.true))) in
    ap (λ is. first_fault (rules_of is)) (sym c.items-items.ensures.same) ∙ e

pub returns-then-repeats-clause-many : goal.returns-then-repeats-clause-many
returns-then-repeats-clause-many c = λ h. absurd (not_many (length (fields_of (items_of c.items-items.result.now))) c.count_fields.result c.count_fields.ensures.exact c.if-count_fields-gt8.false (subst (λ is. 8 < length (fields_of is)) (sym c.items-items.ensures.same) h))

pub returns-then-twice-clause-err : goal.returns-then-twice-clause-err
returns-then-twice-clause-err c = λ _.
    let I : List ItemTree = items_of c.items-items.result.now in
    let e : first_fault (rules_of I) ≡ Some NextTwice = (fails _ _ _ _ (not_above 8 (length (fields_of I)) c.count_fields.result c.count_fields.ensures.exact c.if-count_fields-gt8.false) (fails _ _ _ _ (ap (λ fs. has_twice (field_names fs)) (sym (c.deref.ensures.value ∙ c.in_ok-fields.ensures.exact)) ∙ sym c.repeats.ensures.exact ∙ c.if-repeats.false) (holds _ _ _ (sym c.in_ok-twice.ensures.exact ∙ c.if-twice.true)))) in
    ap (λ is. first_fault (rules_of is)) (sym c.items-items.ensures.same) ∙ e

pub returns-then-twice-clause-many : goal.returns-then-twice-clause-many
returns-then-twice-clause-many c = λ h. absurd (not_many (length (fields_of (items_of c.items-items.result.now))) c.count_fields.result c.count_fields.ensures.exact c.if-count_fields-gt8.false (subst (λ is. 8 < length (fields_of is)) (sym c.items-items.ensures.same) h))

pub returns-then-some_unknown-clause-err : goal.returns-then-some_unknown-clause-err
returns-then-some_unknown-clause-err c = λ _.
    let I : List ItemTree = items_of c.items-items.result.now in
    let e : first_fault (rules_of I) ≡ Some UnknownName = (fails _ _ _ _ (not_above 8 (length (fields_of I)) c.count_fields.result c.count_fields.ensures.exact c.if-count_fields-gt8.false) (fails _ _ _ _ (ap (λ fs. has_twice (field_names fs)) (sym (c.deref.ensures.value ∙ c.in_ok-fields.ensures.exact)) ∙ sym c.repeats.ensures.exact ∙ c.if-repeats.false) (fails _ _ _ _ (sym c.in_ok-twice.ensures.exact ∙ c.if-twice.false) (holds _ _ _ (ap (λ fs. list_any (is_unknown (field_names fs)) (nexts_of I)) (sym (c.deref-2.ensures.value ∙ c.in_ok-fields.ensures.exact)) ∙ sym c.some_unknown.ensures.exact ∙ c.if-some_unknown.true))))) in
    ap (λ is. first_fault (rules_of is)) (sym c.items-items.ensures.same) ∙ e

pub returns-then-some_unknown-clause-many : goal.returns-then-some_unknown-clause-many
returns-then-some_unknown-clause-many c = λ h. absurd (not_many (length (fields_of (items_of c.items-items.result.now))) c.count_fields.result c.count_fields.ensures.exact c.if-count_fields-gt8.false (subst (λ is. 8 < length (fields_of is)) (sym c.items-items.ensures.same) h))

pub returns-then-some_outside-clause-err : goal.returns-then-some_outside-clause-err
returns-then-some_outside-clause-err c = λ _.
    let I : List ItemTree = items_of c.items-items.result.now in
    let e : first_fault (rules_of I) ≡ Some NeighbourOutside = (fails _ _ _ _ (not_above 8 (length (fields_of I)) c.count_fields.result c.count_fields.ensures.exact c.if-count_fields-gt8.false) (fails _ _ _ _ (ap (λ fs. has_twice (field_names fs)) (sym (c.deref.ensures.value ∙ c.in_ok-fields.ensures.exact)) ∙ sym c.repeats.ensures.exact ∙ c.if-repeats.false) (fails _ _ _ _ (sym c.in_ok-twice.ensures.exact ∙ c.if-twice.false) (fails _ _ _ _ (ap (λ fs. list_any (is_unknown (field_names fs)) (nexts_of I)) (sym (c.deref-2.ensures.value ∙ c.in_ok-fields.ensures.exact)) ∙ sym c.some_unknown.ensures.exact ∙ c.if-some_unknown.false) (holds _ _ _ (sym c.some_outside.ensures.exact ∙ c.if-some_outside.true)))))) in
    ap (λ is. first_fault (rules_of is)) (sym c.items-items.ensures.same) ∙ e

pub returns-then-some_outside-clause-many : goal.returns-then-some_outside-clause-many
returns-then-some_outside-clause-many c = λ h. absurd (not_many (length (fields_of (items_of c.items-items.result.now))) c.count_fields.result c.count_fields.ensures.exact c.if-count_fields-gt8.false (subst (λ is. 8 < length (fields_of is)) (sym c.items-items.ensures.same) h))

pub returns-then-some_nest-clause-err : goal.returns-then-some_nest-clause-err
returns-then-some_nest-clause-err c = λ _.
    let I : List ItemTree = items_of c.items-items.result.now in
    let e : first_fault (rules_of I) ≡ Some NestedAggregate = (fails _ _ _ _ (not_above 8 (length (fields_of I)) c.count_fields.result c.count_fields.ensures.exact c.if-count_fields-gt8.false) (fails _ _ _ _ (ap (λ fs. has_twice (field_names fs)) (sym (c.deref.ensures.value ∙ c.in_ok-fields.ensures.exact)) ∙ sym c.repeats.ensures.exact ∙ c.if-repeats.false) (fails _ _ _ _ (sym c.in_ok-twice.ensures.exact ∙ c.if-twice.false) (fails _ _ _ _ (ap (λ fs. list_any (is_unknown (field_names fs)) (nexts_of I)) (sym (c.deref-2.ensures.value ∙ c.in_ok-fields.ensures.exact)) ∙ sym c.some_unknown.ensures.exact ∙ c.if-some_unknown.false) (fails _ _ _ _ (sym c.some_outside.ensures.exact ∙ c.if-some_outside.false) (holds _ _ _ (sym c.some_nest.ensures.exact ∙ c.if-some_nest.true))))))) in
    ap (λ is. first_fault (rules_of is)) (sym c.items-items.ensures.same) ∙ e

pub returns-then-some_nest-clause-many : goal.returns-then-some_nest-clause-many
returns-then-some_nest-clause-many c = λ h. absurd (not_many (length (fields_of (items_of c.items-items.result.now))) c.count_fields.result c.count_fields.ensures.exact c.if-count_fields-gt8.false (subst (λ is. 8 < length (fields_of is)) (sym c.items-items.ensures.same) h))

pub returns-then-count_all-gt16-clause-err : goal.returns-then-count_all-gt16-clause-err
returns-then-count_all-gt16-clause-err c = λ _.
    let I : List ItemTree = items_of c.items-items.result.now in
    let e : first_fault (rules_of I) ≡ Some TooManyAggregates = (fails _ _ _ _ (not_above 8 (length (fields_of I)) c.count_fields.result c.count_fields.ensures.exact c.if-count_fields-gt8.false) (fails _ _ _ _ (ap (λ fs. has_twice (field_names fs)) (sym (c.deref.ensures.value ∙ c.in_ok-fields.ensures.exact)) ∙ sym c.repeats.ensures.exact ∙ c.if-repeats.false) (fails _ _ _ _ (sym c.in_ok-twice.ensures.exact ∙ c.if-twice.false) (fails _ _ _ _ (ap (λ fs. list_any (is_unknown (field_names fs)) (nexts_of I)) (sym (c.deref-2.ensures.value ∙ c.in_ok-fields.ensures.exact)) ∙ sym c.some_unknown.ensures.exact ∙ c.if-some_unknown.false) (fails _ _ _ _ (sym c.some_outside.ensures.exact ∙ c.if-some_outside.false) (fails _ _ _ _ (sym c.some_nest.ensures.exact ∙ c.if-some_nest.false) (holds _ _ _ (many_parts (length (all_parts (nexts_of I))) c.count_all.result c.count_all.ensures.exact c.if-count_all-gt16.true)))))))) in
    ap (λ is. first_fault (rules_of is)) (sym c.items-items.ensures.same) ∙ e

pub returns-then-count_all-gt16-clause-many : goal.returns-then-count_all-gt16-clause-many
returns-then-count_all-gt16-clause-many c = λ h. absurd (not_many (length (fields_of (items_of c.items-items.result.now))) c.count_fields.result c.count_fields.ensures.exact c.if-count_fields-gt8.false (subst (λ is. 8 < length (fields_of is)) (sym c.items-items.ensures.same) h))

pub returns-in_err-twice-clause-many : goal.returns-in_err-twice-clause-many
returns-in_err-twice-clause-many c = λ h. absurd (not_many (length (fields_of (items_of c.items-items.result.now))) c.count_fields.result c.count_fields.ensures.exact c.if-count_fields-gt8.false (subst (λ is. 8 < length (fields_of is)) (sym c.items-items.ensures.same) h))

pub returns-in_err-gatherers-clause-many : goal.returns-in_err-gatherers-clause-many
returns-in_err-gatherers-clause-many c = λ h. absurd (not_many (length (fields_of (items_of c.items-items.result.now))) c.count_fields.result c.count_fields.ensures.exact c.if-count_fields-gt8.false (subst (λ is. 8 < length (fields_of is)) (sym c.items-items.ensures.same) h))

pub returns-in_err-rules-clause-many : goal.returns-in_err-rules-clause-many
returns-in_err-rules-clause-many c = λ h. absurd (not_many (length (fields_of (items_of c.items-items.result.now))) c.count_fields.result c.count_fields.ensures.exact c.if-count_fields-gt8.false (subst (λ is. 8 < length (fields_of is)) (sym c.items-items.ensures.same) h))

pub returns-clause-many : goal.returns-clause-many
returns-clause-many c = λ h. absurd (not_many (length (fields_of (items_of c.items-items.result.now))) c.count_fields.result c.count_fields.ensures.exact c.if-count_fields-gt8.false (subst (λ is. 8 < length (fields_of is)) (sym c.items-items.ensures.same) h))

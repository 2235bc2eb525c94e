use Rattle.std.proofs.Common.{◌≡◌, ◌∙◌, Some, true, sym, ap, subst, slice_get}
use Rattle.std.specs.List.{list_any}
use Rattle.rounds_plan.specs.declared.fault.PlanFault.TheVariants.{SetTwice}
use Rattle.rounds_plan.specs.Plans.{has_number_twice, nodes_in, sets_twice}
use Rattle.rounds_plan.specs.PlanCauses.{first_place, IsNodeRepeat}
use Rattle.rounds_plan.proofs.Entries.{any_place, place_at, fails, search_found, search_end, at_element}
use Rattle.rounds_plan.proofs.plan_cause.set_twice.Goals as goal

pub returns-in-Some-clause-named : goal.returns-in-Some-clause-named
returns-in-Some-clause-named c = λ names.
    let sets = c.args.sets.now in
    let set = c.index-sets-key.result in
    let entry = c.in-Some.repeat.entry in
    let earlier = c.in-Some.repeat.earlier in
    let at : slice_get sets c.loop-key.key ≡ Some set = place_at sets c.loop-key.key set c.loop-key-test.true ∙ ap (λ s. Some s) (sym c.index-sets-key.is) in
    let twice : sets_twice set ≡ true = ap (λ ps. has_number_twice (nodes_in ps)) (sym c.as_slice.ensures.items) ∙ sym c.in-Some.ensures.found in
    let place : first_place sets_twice sets ≡ Some c.loop-key.key = search_found sets_twice sets c.loop-key.key set at twice c.loop-key.invariant.left in
    let repeat : IsNodeRepeat set.pairs entry earlier = subst (λ ps. IsNodeRepeat ps entry earlier) c.as_slice.ensures.items c.in-Some.ensures.named in
    (place, at_element (slice_get sets c.loop-key.key) set (λ s. IsNodeRepeat s.pairs entry earlier) at repeat)

pub returns-clause-agrees : goal.returns-clause-agrees
returns-clause-agrees c =
    let sets = c.args.sets.now in
    fails (list_any sets_twice sets) SetTwice (first_place sets_twice sets) (any_place sets_twice 0 sets)
    (search_end sets_twice sets c.loop-key.key c.loop-key-test.false c.loop-key.invariant.left)

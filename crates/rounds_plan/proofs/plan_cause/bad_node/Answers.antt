use Rattle.std.proofs.Common.{◌≡◌, ◌∙◌, Some, None, not, sym, ap, slice_get}
use Rattle.std.specs.List.{list_any}
use Rattle.rounds_plan.specs.declared.fault.PlanFault.TheVariants.{BadNode}
use Rattle.rounds_plan.specs.Plans.{is_below, has_bad_node}
use Rattle.rounds_plan.specs.PlanCauses.{first_place}
use Rattle.rounds_plan.proofs.Entries.{any_place, place_at, holds, fails, some_place, no_place, search_found, search_more, search_end, at_element}
use Rattle.rounds_plan.proofs.plan_cause.bad_node.Goals as goal

pub returns-in-Some-clause-agrees : goal.returns-in-Some-clause-agrees
returns-in-Some-clause-agrees c =
    let sets = c.args.sets.now in
    let set = c.index-sets-key.result in
    let at : slice_get sets c.loop-key.key ≡ Some set = place_at sets c.loop-key.key set c.loop-key-test.true ∙ ap (λ s. Some s) (sym c.index-sets-key.is) in
    let entry : first_place (λ p. not (is_below c.args.nodes p.0)) set.pairs ≡ Some c.in-Some.entry = ap (first_place (λ p. not (is_below c.args.nodes p.0))) (sym c.as_slice.ensures.items) ∙ sym c.in-Some.ensures.exact in
    let place : first_place (has_bad_node c.args.nodes) sets ≡ Some c.loop-key.key = search_found (has_bad_node c.args.nodes) sets c.loop-key.key set at (some_place (λ p. not (is_below c.args.nodes p.0)) set.pairs c.in-Some.entry entry) c.loop-key.invariant in
    holds (list_any (has_bad_node c.args.nodes) sets) BadNode (first_place (has_bad_node c.args.nodes) sets) c.loop-key.key (any_place (has_bad_node c.args.nodes) 0 sets) place

pub returns-in-Some-clause-named : goal.returns-in-Some-clause-named
returns-in-Some-clause-named c = λ names.
    let sets = c.args.sets.now in
    let set = c.index-sets-key.result in
    let at : slice_get sets c.loop-key.key ≡ Some set = place_at sets c.loop-key.key set c.loop-key-test.true ∙ ap (λ s. Some s) (sym c.index-sets-key.is) in
    let entry : first_place (λ p. not (is_below c.args.nodes p.0)) set.pairs ≡ Some c.in-Some.entry = ap (first_place (λ p. not (is_below c.args.nodes p.0))) (sym c.as_slice.ensures.items) ∙ sym c.in-Some.ensures.exact in
    let place : first_place (has_bad_node c.args.nodes) sets ≡ Some c.loop-key.key = search_found (has_bad_node c.args.nodes) sets c.loop-key.key set at (some_place (λ p. not (is_below c.args.nodes p.0)) set.pairs c.in-Some.entry entry) c.loop-key.invariant in
    (place, at_element (slice_get sets c.loop-key.key) set (λ s. first_place (λ p. not (is_below c.args.nodes p.0)) s.pairs ≡ Some c.in-Some.entry) at entry)

pub loop-key-preserved : goal.loop-key-preserved
loop-key-preserved c =
    let sets = c.args.sets.now in
    let set = c.index-sets-key.result in
    let at : slice_get sets c.loop-key.key ≡ Some set = place_at sets c.loop-key.key set c.loop-key-test.true ∙ ap (λ s. Some s) (sym c.index-sets-key.is) in
    let none : first_place (λ p. not (is_below c.args.nodes p.0)) set.pairs ≡ None = ap (first_place (λ p. not (is_below c.args.nodes p.0))) (sym c.as_slice.ensures.items) ∙ sym c.bad_node_entry.ensures.exact ∙ c.in_default.is in
    search_more (has_bad_node c.args.nodes) sets c.loop-key.key set at (no_place (λ p. not (is_below c.args.nodes p.0)) set.pairs none) c.loop-key.invariant

pub returns-clause-agrees : goal.returns-clause-agrees
returns-clause-agrees c =
    let sets = c.args.sets.now in
    fails (list_any (has_bad_node c.args.nodes) sets) BadNode (first_place (has_bad_node c.args.nodes) sets) (any_place (has_bad_node c.args.nodes) 0 sets) (search_end (has_bad_node c.args.nodes) sets c.loop-key.key c.loop-key-test.false c.loop-key.invariant)

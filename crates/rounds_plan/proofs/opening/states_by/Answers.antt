use Rattle.std.proofs.Common.{◌≡◌, ◌∙◌, ◌+◌, ◌++◌, ◌∷◌, [], Bool, Some, true, false, not, ap, refl, subst, All, slice_index, slice_get, sym, length, replicate, take, arith}
use Rattle.std.proofs.lemmas.Grind.{common_steps}
use Rattle.std.proofs.lemmas.List.{take_all, take_at, take_more}
use Rattle.rule_check.specs.declared.state.State.{State}
use Rattle.rule_check.specs.Value.{names_of, opening_of}
use Rattle.rounds_plan.specs.Configs.{IsPlain}
use Rattle.rule_check.specs.WellFormed.{is_among}
use Rattle.rounds_plan.specs.Plans.{has_bad_node, has_bad_value, openings_of}
use Rattle.rounds_plan.proofs.Entries.{place_at, none_left}
use Rattle.rounds_plan.proofs.Names.{name_count}
use Rattle.rounds_plan.proofs.Faultless.{faultless}
use Rattle.rounds_plan.proofs.Openings.{openings-none, openings-plain}
use Rattle.rounds_plan.proofs.opening.states_by.Goals as goal
use Rattle.rounds_plan.proofs.opening.states_by.Goals.{After-deref_mut, After-loop-set}

pub loop-set-init : goal.loop-set-init
loop-set-init c =
    let ok = faultless (names_of c.args.program.now) c.args.nodes c.args.sets.now c.requires.sets in
    record {
      count = grind (arith, common_steps);
      known = ok.known;
      nodes = ok.nodes_fit;
      values = ok.values_fit;
      done =
          let made : c.in_ok-states.states.items ≡ replicate c.args.nodes c.opening.result = c.in_ok-states.ensures.items_if_clones_equal (λ y e. e) in
          let words : length (opening_of c.args.program.now).words ≡ 8 = ap (λ (o : State). length o.words) (sym c.opening.ensures.exact) ∙ grind (arith, common_steps, c.opening.type_inv) in
          made ∙ ap (replicate c.args.nodes) c.opening.ensures.exact ∙ openings-none c.args.program.now c.args.nodes (omega (arith, words, name_count c.args.program.now, c.field_count-few.ensures.count, c.field_count-few.ensures.few));
    }

at_set : (c : After-deref_mut) → slice_get c.args.sets.now c.loop-set.set-index ≡ Some c.set-item.result
at_set c = place_at c.args.sets.now c.loop-set.set-index c.set-item.result c.loop-set-test.true ∙ ap (λ s. Some s) (sym c.set-item.is)

so_many : (c : After-deref_mut) → length c.deref_mut.result.now ≡ c.args.nodes
so_many c = c.deref_mut.ensures.len ∙ c.loop-set.invariant.count

from_not : (b : Bool) → not b ≡ false → b ≡ true
from_not true h = refl
from_not false h = cc

pub put_set-requires-clause-few : goal.put_set-requires-clause-few
put_set-requires-clause-few c = let count = so_many c in omega (arith, count, c.requires.few)

pub put_set-requires-clause-known : goal.put_set-requires-clause-known
put_set-requires-clause-known c =
    from_not (is_among (names_of c.args.program.now) c.set-item.result.name)
    (none_left (λ set. not (is_among (names_of c.args.program.now) set.name)) c.args.sets.now c.loop-set.set-index c.set-item.result (at_set c) c.loop-set.invariant.known).0

pub put_set-requires-clause-nodes : goal.put_set-requires-clause-nodes
put_set-requires-clause-nodes c =
    ap (λ n. has_bad_node n c.set-item.result) (so_many c)
    ∙ (none_left (has_bad_node c.args.nodes) c.args.sets.now c.loop-set.set-index c.set-item.result (at_set c) c.loop-set.invariant.nodes).0

pub put_set-requires-clause-values : goal.put_set-requires-clause-values
put_set-requires-clause-values c =
    (none_left has_bad_value c.args.sets.now c.loop-set.set-index c.set-item.result (at_set c) c.loop-set.invariant.values).0

pub loop-set-preserved : goal.loop-set-preserved
loop-set-preserved c =
    let b = (goal.at.loop-set-preserved c).After-deref_mut in
    let sets = c.args.sets.now in
    let i = c.loop-set.set-index in
    let set = c.set-item.result in
    let old = c.deref_mut.ensures.value ∙ c.loop-set.invariant.done ∙ ap (λ n. openings_of c.args.program.now n (take i sets)) (sym (so_many b)) in
    let more : take (i + 1) sets ≡ take i sets ++ set ∷ [] = take_more sets i set c.loop-set-test.true ∙ ap (λ s. take i sets ++ s ∷ []) (sym c.set-item.is) in
    record {
      count = c.loop-set.invariant.count;
      known = (none_left (λ s. not (is_among (names_of c.args.program.now) s.name)) sets i set (at_set b) c.loop-set.invariant.known).1;
      nodes = (none_left (has_bad_node c.args.nodes) sets i set (at_set b) c.loop-set.invariant.nodes).1;
      values = (none_left has_bad_value sets i set (at_set b) c.loop-set.invariant.values).1;
      done =
          take_at c.put_set.new.states _ c.loop-set.states.len (c.put_set.auto.states ∙ c.deref_mut.ensures.len)
          ∙ c.put_set.ensures.more (take i sets) old
          ∙ ap (λ n. openings_of c.args.program.now n (take i sets ++ set ∷ [])) (so_many b)
          ∙ ap (openings_of c.args.program.now c.args.nodes) (sym more);
    }

all_put : (c : After-loop-set) → c.loop-set.states.items ≡ openings_of c.args.program.now c.args.nodes c.args.sets.now
all_put c = c.loop-set.invariant.done ∙ ap (openings_of c.args.program.now c.args.nodes) (take_all c.loop-set.set-index c.args.sets.now c.loop-set-test.false)

pub returns-clause-states : goal.returns-clause-states
returns-clause-states c = all_put c

pub returns-clause-plain : goal.returns-clause-plain
returns-clause-plain c =
    subst (All (IsPlain (length c.args.program.now.fields))) (sym (all_put c))
    (openings-plain c.args.program.now c.args.nodes c.args.sets.now (λ k past. ap (λ (o : State). slice_index o.words k) (sym c.opening.ensures.exact) ∙ c.opening.ensures.rest_is_zero k past))

use Rattle.std.proofs.Common.{◌≡◌, ◌∙◌, Some, true, false, not, sym, ap, length, replicate, slice_get}
use Rattle.std.proofs.lemmas.List.{length-replicate}
use Rattle.std.specs.List.{list_any}
use Rattle.rounds_plan.specs.Plans.{is_below, has_bad_node, has_number_twice, nodes_in, sets_twice}
use Rattle.rounds_plan.proofs.Entries.{place_at, any_found, any_more, any_end, none_left}
use Rattle.rounds_plan.proofs.opening.sets_node_twice.Goals as goal
use Rattle.rounds_plan.proofs.opening.sets_node_twice.Goals.{After-as_slice}

at_set : (c : After-as_slice) → slice_get c.args.sets.now c.loop-set.set-index ≡ Some c.set-item.result
at_set c = place_at c.args.sets.now c.loop-set.set-index c.set-item.result c.loop-set-test.true ∙ ap (λ s. Some s) (sym c.set-item.is)

marks_made : (c : After-as_slice) → c.deref_mut.result.now ≡ replicate c.args.nodes false
marks_made c = c.deref_mut.ensures.value ∙ c.in_ok-seen.ensures.items_if_clones_equal (λ y e. e)

marks_count : (c : After-as_slice) → length c.deref_mut.result.now ≡ c.args.nodes
marks_count c = ap length (marks_made c) ∙ length-replicate c.args.nodes false

pub repeats_node-requires-clause-nodes : goal.repeats_node-requires-clause-nodes
repeats_node-requires-clause-nodes c =
    ap (λ n. list_any (λ p. not (is_below n p.0)) c.as_slice.result.now) (marks_count c)
    ∙ ap (list_any (λ p. not (is_below c.args.nodes p.0))) c.as_slice.ensures.items
    ∙ (none_left (has_bad_node c.args.nodes) c.args.sets.now c.loop-set.set-index c.set-item.result (at_set c) c.loop-set.invariant.nodes).0

pub repeats_node-requires-clause-fresh : goal.repeats_node-requires-clause-fresh
repeats_node-requires-clause-fresh c = marks_made c ∙ ap (λ n. replicate n false) (sym (marks_count c))

pub returns-then-repeats_node : goal.returns-then-repeats_node
returns-then-repeats_node c =
    let b = (goal.at.returns-then-repeats_node c).After-as_slice in
    let twice : sets_twice c.set-item.result ≡ true = ap (λ ps. has_number_twice (nodes_in ps)) (sym c.as_slice.ensures.items) ∙ sym c.repeats_node.ensures.twice ∙ c.if-repeats_node.true in
    record { twice = sym (any_found sets_twice c.args.sets.now c.loop-set.set-index c.set-item.result (at_set b) twice c.loop-set.invariant.left) }

pub loop-set-preserved : goal.loop-set-preserved
loop-set-preserved c =
    let b = (goal.at.loop-set-preserved c).After-as_slice in
    let once : sets_twice c.set-item.result ≡ false = ap (λ ps. has_number_twice (nodes_in ps)) (sym c.as_slice.ensures.items) ∙ sym c.repeats_node.ensures.twice ∙ c.if-repeats_node.false in
    record {
      nodes = (none_left (has_bad_node c.args.nodes) c.args.sets.now c.loop-set.set-index c.set-item.result (at_set b) c.loop-set.invariant.nodes).1;
      left = any_more sets_twice c.args.sets.now c.loop-set.set-index c.set-item.result (at_set b) once c.loop-set.invariant.left;
    }

pub returns : goal.returns
returns c = record { twice = sym (any_end sets_twice c.args.sets.now c.loop-set.set-index c.loop-set-test.false c.loop-set.invariant.left) }

use Rattle.std.proofs.Common.{◌≡◌, ◌∙◌, ◌+◌, ◌-◌, ◌<◌, ◌≤◌, List, ap, arith, length, map, sym}
use Rattle.rule_check.specs.declared.state.State.{State}
use Rattle.rounds_plan.specs.Configs.{most_rounds}
use Rattle.rounds_plan.specs.Lockstep.{state_in}
use Rattle.run_naive.specs.Naive.{node_in}
use Rattle.run_naive.specs.Keeping.{Before, past_of, shown}
use Rattle.run_naive.proofs.Compared.{compared_fewer}
use Rattle.run_naive.proofs.Early.{lockstep_early}
use Rattle.run_naive.proofs.Noting.{written}
use Rattle.run_naive.proofs.rounds.compare.Goals as goal

pub compare_from_start-requires-clause-few : goal.compare_from_start-requires-clause-few
compare_from_start-requires-clause-few c = c.most_moves-rounds.ensures.few most_rounds c.phase-phase.ensures.whole.start c.requires.few

pub compare_from_start-requires-clause-known : goal.compare_from_start-requires-clause-known
compare_from_start-requires-clause-known c =
    let p = c.args.plan.now in
    let shows = map shown c.args.nodes.now in
    let items = c.in_ok-lockstep.ensures.items_if_clones_equal (λ x y same. same) ∙ c.openings.ensures.openings in
    λ u h few. ap (λ (ss : List State). state_in ss u) (c.as_mut_slice.ensures.value ∙ items) ∙ sym (lockstep_early p (node_in shows u).moves u few)

pub returns-clause-first : goal.returns-clause-first
returns-clause-first c =
    let p = c.args.plan.now in
    let nodes = c.args.nodes.now in
    compared_fewer p (map past_of nodes) (Before (c.most_moves-rounds.result - p.start)) (λ u i. p.start + (i + 1) ≤ (node_in (map shown nodes) u).moves) c.in_ok-first.first
    (λ u i seen h there. (let most = c.most_moves-rounds.ensures.most u (omega (arith, h, c.requires.nodes)) in omega (arith, seen, most))) c.in_ok-first.ensures.first

pub returns-clause-known : goal.returns-clause-known
returns-clause-known c =
    let p = c.args.plan.now in
    let old = c.in_ok-lockstep.lockstep in
    let new = c.compare_from_start.new.lockstep in
    let items = c.in_ok-lockstep.ensures.items_if_clones_equal (λ x y same. same) ∙ c.openings.ensures.openings in
    let room = c.in_ok-first.ensures.room in
    let many : length new ≡ length old.items = room ∙ sym (ap length items ∙ c.phase-phase.ensures.whole.opening) in
    let whole = written new old.items old.len old.ok.0 many in
    record {
      one_each = ap length whole ∙ room;
      known = λ u h. ap (λ (ss : List State). state_in ss u) whole ∙ c.in_ok-first.ensures.known u h (c.most_moves-rounds.ensures.most u (omega (arith, h, c.requires.nodes)));
    }

use Rattle.std.proofs.Common.{◌≡◌, ◌<◌, ◌∙◌, length, get_or, subst, sym, arith}
use Rattle.std.specs.Prelude.{Contains}
use Rattle.net_facts.specs.Parts.{IsNeighbour}
use Rattle.net_facts.proofs.Joins.{near, all_more, all_in, grow_on, still_in, is_in}
use Rattle.net_facts.proofs.parts.reach_neighbours.Goals as goal

pub reach-requires-clause-within : goal.reach-requires-clause-within
reach-requires-clause-within c =
    let list = c.neighbours_of-neighbours.result.now in
    let k = c.loop-neighbour.neighbour-index in
    let below : get_or list k 0 < length c.args.network.now = near c.args.network.now c.nodes-nodes.ensures.whole c.args.node k list c.neighbours_of-neighbours.ensures.exact c.loop-neighbour-test.true in
    omega (arith, below, c.loop-neighbour.invariant.size)

pub loop-neighbour-preserved : goal.loop-neighbour-preserved
loop-neighbour-preserved c =
    let network = c.args.network.now in
    let node = c.args.node in
    let list = c.neighbours_of-neighbours.result.now in
    let k = c.loop-neighbour.neighbour-index in
    let x = get_or list k 0 in
    let old = c.args.reached.now.nodes.items in
    let here = c.loop-neighbour.reached.nodes.items in
    let later = c.reach.new.reached.nodes.items in
    let next : IsNeighbour network node x = subst (λ ns. Contains ns x) c.neighbours_of-neighbours.ensures.exact (is_in list k c.loop-neighbour-test.true) in
    let grows = c.in_ok-reach.ensures.grows in
    record {
      whole = c.in_ok-reach.ensures.whole;
      size = c.in_ok-reach.ensures.size ∙ c.loop-neighbour.invariant.size;
      grows = grow_on (IsNeighbour network node) (λ v. v ≡ x) old here later (λ v same. subst (IsNeighbour network node) (sym same) next) c.loop-neighbour.invariant.grows grows;
      fresh = grow_on (λ v. Contains old v → ⊥) (λ v. Contains here v → ⊥) old here later (λ v new has. new (still_in (IsNeighbour network node) old here v c.loop-neighbour.invariant.grows has)) c.loop-neighbour.invariant.fresh c.in_ok-reach.ensures.fresh;
      all = all_more later list k (λ j below. still_in (λ v. v ≡ x) here later (get_or list j 0) grows (c.loop-neighbour.invariant.all j below)) c.in_ok-reach.ensures.node;
    }

pub returns-clause-all : goal.returns-clause-all
returns-clause-all c = λ v next.
    let list = c.neighbours_of-neighbours.result.now in
    all_in c.loop-neighbour.reached.nodes.items list c.loop-neighbour.neighbour-index c.loop-neighbour-test.false c.loop-neighbour.invariant.all v (subst (λ ns. Contains ns v) (sym c.neighbours_of-neighbours.ensures.exact) next)

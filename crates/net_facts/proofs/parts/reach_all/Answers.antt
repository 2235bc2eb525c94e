use Rattle.std.proofs.Common.{◌≡◌, ◌<◌, ◌≤◌, ◌∙◌, length, get_or, subst, sym, arith}
use Rattle.net_facts.specs.Parts.{AreJoined, IsNeighbour}
use Rattle.net_facts.proofs.Joins.{few_nodes, same_list, grow_on, still_in, old_at, new_at, joined_self, joined_on, closed_on, closed_more, all_closed}
use Rattle.net_facts.proofs.parts.reach_all.Goals as goal

pub loop-next-init : goal.loop-next-init
loop-next-init c =
    let network = c.args.network.now in
    let node = c.args.node in
    let old = c.args.reached.now.nodes.items in
    let later = c.reach.new.reached.nodes.items in
    let grows = c.in_ok-reach.ensures.grows in
    record {
      whole = c.in_ok-reach.ensures.whole;
      size = c.in_ok-reach.ensures.size ∙ c.requires.size;
      node = c.in_ok-reach.ensures.node;
      grows = grow_on (AreJoined network node) (λ v. v ≡ node) old old later (λ v same. joined_self network node v same) (same_list (AreJoined network node) old) grows;
      closed = λ i v within next. closed_on network (λ v. v ≡ node) old later (length old) grows (omega arith) c.requires.closed i v (omega (arith, c.len-begin.ensures)) next;
    }

pub returns-in_default-clause-closed : goal.returns-in_default-clause-closed
returns-in_default-clause-closed c = all_closed c.args.network.now c.loop-next.reached.nodes.items c.loop-next.next c.in_default.ensures.none c.loop-next.invariant.closed

pub loop-next-preserved : goal.loop-next-preserved
loop-next-preserved c =
    let network = c.args.network.now in
    let node = c.args.node in
    let old = c.args.reached.now.nodes.items in
    let here = c.loop-next.reached.nodes.items in
    let later = c.reach_neighbours.new.reached.nodes.items in
    let k = c.loop-next.next in
    let at = c.in-Some.at in
    let inside : k < length here = c.in-Some.ensures.node.0 in
    let is : at ≡ get_or here k 0 = c.in-Some.ensures.node.1 in
    let grows = c.in_ok-reach_neighbours.ensures.grows in
    let behind : length old ≤ k = omega (arith, c.len-begin.ensures, c.loop-next.auto.next) in
    let joined : AreJoined network node at = subst (AreJoined network node) (sym is) (new_at (AreJoined network node) old here k c.loop-next.invariant.grows behind inside) in
    record {
      whole = c.in_ok-reach_neighbours.ensures.whole;
      size = c.in_ok-reach_neighbours.ensures.size;
      node = still_in (IsNeighbour network at) here later node grows c.loop-next.invariant.node;
      grows = grow_on (AreJoined network node) (IsNeighbour network at) old here later (λ v next. joined_on network node at v joined next) c.loop-next.invariant.grows grows;
      closed = closed_more network later k (closed_on network (IsNeighbour network at) here later k grows (omega arith) c.loop-next.invariant.closed)
          (λ v next. c.in_ok-reach_neighbours.ensures.all v (subst (λ u. IsNeighbour network u v) (old_at (IsNeighbour network at) here later k grows inside ∙ sym is) next));
    }

pub returns-clause-closed : goal.returns-clause-closed
returns-clause-closed c =
    let nodes = c.loop-next.reached.nodes.items in
    let few = few_nodes c.loop-next.reached.marks.items nodes c.loop-next.invariant.whole in
    all_closed c.args.network.now nodes c.loop-next.next (omega (arith, few, c.loop-next.invariant.size, c.loop-next-test.false, c.nodes-next-end.ensures.count)) c.loop-next.invariant.closed

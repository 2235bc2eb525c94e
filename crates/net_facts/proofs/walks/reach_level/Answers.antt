use Rattle.std.proofs.Common.{◌≡◌, ℕ, ◌<◌, ◌∙◌, length, get_or, subst, sym, arith}
use Rattle.std.specs.Prelude.{Contains}
use Rattle.std.proofs.lemmas.List.{get_or_default}
use Rattle.net_facts.specs.Parts.{IsNeighbour}
use Rattle.net_facts.proofs.Joins.{not_less, grow_on, still_in, old_at, is_in, closed_on, closed_more}
use Rattle.net_facts.proofs.walks.reach_level.Goals as goal

pub loop-place-preserved : goal.loop-place-preserved
loop-place-preserved c =
    let network = c.args.network.now in
    let old = c.args.reached.now.nodes.items in
    let here = c.loop-place.reached.nodes.items in
    let later = c.reach_neighbours.new.reached.nodes.items in
    let k = c.loop-place.place in
    let at = c.index-node.result.now in
    let Joins = λ (v : ℕ). (u : ℕ) × Contains old u × IsNeighbour network u v in
    let more = not_less Joins old here c.loop-place.invariant.grows in
    let inside : k < length old = omega (arith, c.loop-place-test.true, c.len-place-end.ensures) in
    let there : k < length here = omega (arith, more) in
    let is : at ≡ get_or here k 0 = c.index-node.ensures ∙ get_or_default here k at 0 there in
    let was : get_or here k 0 ≡ get_or old k 0 = old_at Joins old here k c.loop-place.invariant.grows inside in
    let in_old : Contains old at = subst (Contains old) (sym (is ∙ was)) (is_in old k inside) in
    let grows = c.in_ok-reach_neighbours.ensures.grows in
    record {
      whole = c.in_ok-reach_neighbours.ensures.whole;
      size = c.in_ok-reach_neighbours.ensures.size;
      grows = grow_on Joins (IsNeighbour network at) old here later (λ v next. (at, in_old, next)) c.loop-place.invariant.grows grows;
      fresh = grow_on (λ v. Contains old v → ⊥) (λ v. Contains here v → ⊥) old here later (λ v new has. new (still_in Joins old here v c.loop-place.invariant.grows has)) c.loop-place.invariant.fresh c.in_ok-reach_neighbours.ensures.fresh;
      closed = closed_more network later k (closed_on network (IsNeighbour network at) here later k grows (omega arith) c.loop-place.invariant.closed)
          (λ v next. c.in_ok-reach_neighbours.ensures.all v (subst (λ u. IsNeighbour network u v) (old_at (IsNeighbour network at) here later k grows there ∙ sym is) next));
    }

pub returns-clause-closed : goal.returns-clause-closed
returns-clause-closed c = λ i v inside next. c.loop-place.invariant.closed i v (omega (arith, c.loop-place-test.false, c.len-place-end.ensures)) next

use Rattle.std.proofs.Common.{◌≡◌, ℕ, ◌<◌, [], length, refl, subst, arith}
use Rattle.std.specs.Prelude.{Contains}
use Rattle.net_facts.specs.Parts.{IsNeighbour}
use Rattle.net_facts.specs.Reaching.{Grows}
use Rattle.net_facts.proofs.Joins.{not_less, still_in}
use Rattle.net_facts.proofs.Levels.{alone_within, more_within, one_far, all_within}
use Rattle.net_facts.proofs.walks.eccentricity.Goals as goal

pub loop-distance-init : goal.loop-distance-init
loop-distance-init c =
    let network = c.args.network.now in
    let node = c.args.node in
    let nodes = c.reach.new.reached.nodes.items in
    let grows = subst (λ xs. Grows (λ v. v ≡ node) xs nodes) c.in_ok-reached.ensures.none c.in_ok-reach.ensures.grows in
    record {
      whole = c.in_ok-reach.ensures.whole;
      size = omega (arith, c.in_ok-reach.ensures.size, c.in_ok-reached.ensures.size, c.nodes.ensures.count);
      begin = omega arith;
      closed = λ i v inside next. absurd (omega arith);
      within = alone_within network node nodes grows c.in_ok-reach.ensures.node;
      far = (node, record { way = ([], refl, refl); least = λ way is. omega arith });
      few = omega (arith, c.in_ok-reach.ensures.node.1);
    }

pub returns-then-len-end : goal.returns-then-len-end
returns-then-len-end c =
    let network = c.args.network.now in
    let node = c.args.node in
    let old = c.loop-distance.reached.nodes.items in
    let later = c.reach_level.new.reached.nodes.items in
    let Joins = λ (v : ℕ). (u : ℕ) × Contains old u × IsNeighbour network u v in
    let grows = c.in_ok-reach_level.ensures.grows in
    let within = c.loop-distance.invariant.within in
    let same : length later ≡ length old = omega (arith, c.if-len-end.true, c.len.ensures, c.len-end.ensures) in
    let has = still_in Joins old later node grows (within.all node ([], refl, omega arith)) in
    record {
      distance = record {
        far = c.loop-distance.invariant.far;
        within = all_within network node c.loop-distance.distance old later within Joins grows same c.in_ok-reach_level.ensures.closed has;
      };
    }

pub loop-distance-preserved : goal.loop-distance-preserved
loop-distance-preserved c =
    let network = c.args.network.now in
    let node = c.args.node in
    let old = c.loop-distance.reached.nodes.items in
    let later = c.reach_level.new.reached.nodes.items in
    let Joins = λ (v : ℕ). (u : ℕ) × Contains old u × IsNeighbour network u v in
    let grows = c.in_ok-reach_level.ensures.grows in
    let closed = c.in_ok-reach_level.ensures.closed in
    let more = not_less Joins old later grows in
    let grown : length old < length later = omega (arith, more, c.if-len-end.false, c.len.ensures, c.len-end.ensures) in
    let within = more_within network node c.loop-distance.distance old later c.loop-distance.invariant.within grows closed in
    record {
      whole = c.in_ok-reach_level.ensures.whole;
      size = c.in_ok-reach_level.ensures.size;
      begin = omega (arith, grown, c.len-end.ensures);
      closed = λ i v inside next. closed i v (omega (arith, inside, c.len-end.ensures)) next;
      within = within;
      far = one_far network node c.loop-distance.distance old later c.loop-distance.invariant.within c.in_ok-reach_level.ensures.fresh within grown;
      few = omega (arith, grown, c.loop-distance.invariant.few);
    }

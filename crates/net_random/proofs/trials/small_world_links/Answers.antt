use Rattle.std.proofs.Common.{ap, ◌∙◌}
use Rattle.net_random.specs.RandomNetworks.{starts}
use Rattle.net_random.proofs.Ring.{few_near, ring_simple}
use Rattle.net_random.proofs.Degrees.{small_world_has}
use Rattle.net_random.proofs.trials.small_world_links.Goals as goal

pub loop-place-init : goal.loop-place-init
loop-place-init c =
    let is = c.in_ok-changed.ensures.links ∙ c.in_ok-ring_links.ensures in
    record {
      known = record {
        simple = rw is (ring_simple c.args.nodes c.args.near (few_near c.args.nodes c.args.near c.requires.some c.requires.room));
        known = rw c.in_ok-changed.ensures.links c.in_ok-changed.ensures.pairs;
      };
      begin = ap starts is;
      kept = λ none. is;
    }

pub returns : goal.returns
returns c =
    rw c.into_links.ensures
    (small_world_has c.args.nodes c.args.near c.args.rewire c.args.of c.loop-place.changed.links.items c.loop-place.invariant.known.simple c.loop-place.invariant.begin c.loop-place.invariant.kept)

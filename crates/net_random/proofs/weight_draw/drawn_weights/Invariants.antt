use Rattle.std.proofs.Common.{◌≡◌, map, take}
use Rattle.net_random.specs.Weights.{ends, AllBetween}
use Rattle.net_random.proofs.weight_draw.drawn_weights.Given as goal

abbrev pub invariant-loop-link : goal.invariant-loop-link
invariant-loop-link l = record {
  ends : map ends l.drawn.items ≡ map ends (take l.link-index l.links);
  weights : AllBetween l.low l.high l.drawn.items;
}

use Rattle.std.proofs.Common.{◌≡◌, ◌++◌, length, map, take, drop, flat_map}
use Rattle.std.specs.List.{sum}
use Rattle.net_initial.proofs.draw.parted.Given as goal

abbrev pub invariant-loop-count : goal.invariant-loop-count
invariant-loop-count l = record {
  counts : map (λ part. length part.items) l.parts.items ≡ take l.count-index l.counts;
  nodes : flat_map (λ part. part.items) l.parts.items ++ l.rest ≡ l.nodes;
  left : sum (drop l.count-index l.counts) ≡ length l.rest;
}

use Rattle.std.proofs.Common.{◌≡◌, take, drop, map}
use Rattle.import_links.specs.Settling.{parallel_behind, first_parallel}
use Rattle.import_links.proofs.Firsts.{noted}
use Rattle.import_links.proofs.parallel.first_parallel.Given as goal

abbrev pub invariant-loop-placed : goal.invariant-loop-placed
invariant-loop-placed l = record {
  noted : l.lines.entries ≡ map noted (take l.placed-index l.links);
  left : parallel_behind (take l.placed-index l.links) (drop l.placed-index l.links) ≡ first_parallel l.links;
}

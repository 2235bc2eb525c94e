use Rattle.std.proofs.Common.{◌≡◌, ◌++◌, drop}
use Rattle.import_links.specs.Settling.{links_of}
use Rattle.import_links.proofs.parallel.plain.Given as goal

abbrev pub invariant-loop-placed : goal.invariant-loop-placed
invariant-loop-placed l = l.plain.items ++ links_of (drop l.placed-index l.links) ≡ links_of l.links

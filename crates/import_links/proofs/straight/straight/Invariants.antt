use Rattle.std.proofs.Common.{◌≡◌, ◌++◌, drop}
use Rattle.import_links.specs.Settling.{straight}
use Rattle.import_links.proofs.straight.straight.Given as goal

abbrev pub invariant-loop-placed : goal.invariant-loop-placed
invariant-loop-placed l = l.left.items ++ straight (drop l.placed-index l.links) ≡ straight l.links

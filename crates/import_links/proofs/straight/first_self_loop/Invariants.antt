use Rattle.std.proofs.Common.{◌≡◌, drop}
use Rattle.import_links.specs.Settling.{first_self_loop}
use Rattle.import_links.proofs.straight.first_self_loop.Given as goal

abbrev pub invariant-loop-placed : goal.invariant-loop-placed
invariant-loop-placed l = first_self_loop (drop l.placed-index l.links) ≡ first_self_loop l.links

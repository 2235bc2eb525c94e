use Rattle.std.proofs.Common.{◌≡◌, drop}
use Rattle.std.specs.Result.{result_err}
use Rattle.import_links.specs.Numbering.{links_in}
use Rattle.import_links.proofs.numbers.first_fault.Given as goal

abbrev pub invariant-loop-edge : goal.invariant-loop-edge
invariant-loop-edge l = result_err (links_in l.fn.most (drop l.edge-index l.edges)) ≡ result_err (links_in l.fn.most l.edges)

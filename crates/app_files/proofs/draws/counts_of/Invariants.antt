use Rattle.std.proofs.Common.{◌≡◌, map, take}
use Rattle.net_initial.specs.Draws.{amount_of}
use Rattle.app_files.proofs.draws.counts_of.Given as goal

abbrev pub invariant-loop-amount : goal.invariant-loop-amount
invariant-loop-amount l = l.counts.items ≡ map (λ amount. amount_of amount l.nodes) (take l.amount-index l.amounts)

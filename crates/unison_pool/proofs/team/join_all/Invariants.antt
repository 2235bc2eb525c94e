use Rattle.std.proofs.Common.{◌≢◌, IfErr}
use Rattle.unison_pool.specs.declared.team.Halted.TheVariants.{NoThread}
use Rattle.unison_pool.proofs.team.join_all.Given as goal

abbrev pub invariant-loop-thread : goal.invariant-loop-thread
invariant-loop-thread g l = IfErr l.joined (λ halted. halted ≢ NoThread)

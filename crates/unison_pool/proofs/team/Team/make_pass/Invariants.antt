use Rattle.std.proofs.Common.{◌≡◌, ◌≤◌, All, drop, take}
use Rattle.unison_pool.specs.declared.worker.Pass.TheVariants.{Ended}
use Rattle.unison_pool.proofs.team.Team.make_pass.Given as goal

abbrev pub invariant-loop-driven : goal.invariant-loop-driven
invariant-loop-driven g l = record {
  later : drop l.driven-index l.driven-items ≡ drop l.driven-index l.fn.nodes.items;
  ended : l.pass ≡ Ended → All (λ d. l.self.stop ≤ d.moves) (take l.driven-index l.fn.nodes.items);
}

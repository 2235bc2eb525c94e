use Rattle.std.proofs.Common.{◌≡◌, ◌++◌, map, take}
use Rattle.unison_world.specs.declared.step.Step.TheVariants.{Write}
use Rattle.run_schedule.proofs.together.put_moves.Given as goal

abbrev pub invariant-loop-node : goal.invariant-loop-node
invariant-loop-node l = l.steps.items ≡ l.initial.steps.items ++ map (λ u. Write u) (take l.node-index l.nodes)

use Rattle.std.proofs.Common.{◌≡◌, ◌++◌, map}
use Rattle.std.specs.List.{range_with_len}
use Rattle.unison_world.specs.declared.step.Step.TheVariants.{Read}
use Rattle.run_steps.proofs.script.put.push_reads.Given as goal

abbrev pub invariant-loop-slot : goal.invariant-loop-slot
invariant-loop-slot l = l.steps.items ≡ l.initial.steps.items ++ map (λ j. Read l.node j) (range_with_len 0 l.slot)

use Rattle.std.proofs.Common.{◌≡◌, ◌++◌, codes, drop, string_bytes}
use Rattle.std.specs.Fmt.{decimal}
use Rattle.std.specs.List.{flat_map}
use Rattle.run_steps.proofs.explain.telling.put_counts.Given as goal

abbrev pub invariant-loop-node : goal.invariant-loop-node
invariant-loop-node l =
    string_bytes l.out ++ flat_map (λ m. codes " " ++ decimal m) (drop l.node l.world.counts.moves) ≡ string_bytes l.initial.out ++ flat_map (λ m. codes " " ++ decimal m) l.world.counts.moves

use Rattle.std.proofs.Common.{◌≡◌, drop}
use Rattle.run_counts.specs.Ensembles.{refusal_in}
use Rattle.run_counts.proofs.together.refusal_in.Given as goal

abbrev pub invariant-loop-variant : goal.invariant-loop-variant
invariant-loop-variant l = refusal_in l.span l.counting (drop l.variant-index l.variants) ≡ refusal_in l.span l.counting l.variants

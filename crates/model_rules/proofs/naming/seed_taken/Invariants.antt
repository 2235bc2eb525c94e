use Rattle.std.proofs.Common.{◌≡◌, drop}
use Rattle.model_text.specs.View.{items_of}
use Rattle.model_rules.specs.Naming.{seed_taken}
use Rattle.model_rules.proofs.naming.seed_taken.Given as goal

abbrev pub invariant-loop-item : goal.invariant-loop-item
invariant-loop-item l = seed_taken (items_of (drop l.item-index l.items)) ≡ seed_taken (items_of l.items)

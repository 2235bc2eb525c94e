use Rattle.std.proofs.Common.{length, drop, ◌-◌, ◌≤◌}
use Rattle.model_text.specs.View.{placed_all, items_of}
use Rattle.model_text.proofs.Leads.{Leads}
use Rattle.model_text.proofs.items.items.Given as goal

abbrev pub invariant-loop-at : goal.invariant-loop-at
invariant-loop-at l = Leads (placed_all l.fn.tokens) (items_of l.items.items) (placed_all (drop l.at l.fn.tokens)) × (l.at ≤ length l.fn.tokens)

abbrev pub decreases-loop-at : goal.decreases-loop-at
decreases-loop-at l = length l.fn.tokens - l.at

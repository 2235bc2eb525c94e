use Rattle.std.proofs.Common.{◌≡◌, drop}
use Rattle.model_text.specs.View.{items_of}
use Rattle.model_rules.specs.Models.{states_count}
use Rattle.model_rules.proofs.rules.count_states.Given as goal

abbrev pub invariant-loop-item : goal.invariant-loop-item
invariant-loop-item l = states_count (items_of (drop l.item-index l.items)) l.name ≡ states_count (items_of l.items) l.name

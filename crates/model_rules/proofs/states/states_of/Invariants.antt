use Rattle.std.proofs.Common.{◌≡◌, ◌++◌, drop}
use Rattle.model_text.specs.View.{items_of}
use Rattle.model_rules.specs.States.{states_of, texts_of}
use Rattle.model_rules.proofs.states.states_of.Given as goal

abbrev pub invariant-loop-item : goal.invariant-loop-item
invariant-loop-item l = texts_of l.names.items ++ states_of (items_of l.items) (items_of (drop l.item-index l.items)) ≡ states_of (items_of l.items) (items_of l.items)

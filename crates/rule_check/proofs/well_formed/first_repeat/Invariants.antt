use Rattle.rule_lang.specs.View.{items_of}
use Rattle.rule_check.specs.Searches.{naming_of}
use Rattle.rule_check.proofs.Repeats.{Seen}
use Rattle.rule_check.proofs.well_formed.first_repeat.Given as goal

abbrev pub invariant-loop-k : goal.invariant-loop-k
invariant-loop-k l = Seen (naming_of l.kind) (items_of l.items) l.k l.seen

use Rattle.std.proofs.Common.{◌≡◌, ◌≤◌, ◌-◌, length, drop}
use Rattle.std.specs.Prelude.{map}
use Rattle.model_text.specs.View.{name_of, placed_all}
use Rattle.model_text.specs.Reading.{names_at}
use Rattle.model_text.proofs.items.names.Given as goal

abbrev pub invariant-loop-found : goal.invariant-loop-found
invariant-loop-found l = (names_at l.fn.end (map name_of l.found.items) (placed_all (drop l.at l.fn.tokens)) ≡ names_at l.fn.end (map name_of l.fn.found.items) (placed_all l.fn.tokens)) × (l.at ≤ length l.fn.tokens)

abbrev pub decreases-loop-found : goal.decreases-loop-found
decreases-loop-found l = length l.fn.tokens - l.at

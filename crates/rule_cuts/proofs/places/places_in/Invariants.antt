use Rattle.std.proofs.Common.{◌≡◌, ◌++◌, drop}
use Rattle.rule_cuts.specs.Places.{places_in}
use Rattle.rule_cuts.proofs.places.places_in.Given as goal

abbrev pub invariant-loop-lexeme : goal.invariant-loop-lexeme
invariant-loop-lexeme l = l.places.items ++ places_in (drop l.lexeme-index l.lexemes) ≡ places_in l.lexemes

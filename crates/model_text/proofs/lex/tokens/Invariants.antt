use Rattle.std.proofs.Common.{length, drop, ◌-◌, ◌≤◌, ◌<◌}
use Rattle.std.specs.List.{AllByRecursion}
use Rattle.model_text.specs.View.{placed_all}
use Rattle.model_text.specs.Lexing.{Lexes}
use Rattle.model_text.proofs.lex.tokens.Given as goal

abbrev pub invariant-loop-at : goal.invariant-loop-at
invariant-loop-at l = Lexes (length l.fn.text) l.fn.text (placed_all l.lexemes.items) (drop l.at l.fn.text) × (l.at ≤ length l.fn.text) × AllByRecursion (λ x. x.at < length l.fn.text) l.lexemes.items

abbrev pub decreases-loop-at : goal.decreases-loop-at
decreases-loop-at l = length l.fn.text - l.at

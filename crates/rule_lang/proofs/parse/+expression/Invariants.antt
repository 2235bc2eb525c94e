use Rattle.std.proofs.Common.{◌*◌, ◌+◌}
use Rattle.rule_lang.proofs.parse.+expression.Given as goal

abbrev pub decreases-expression : goal.decreases-expression
decreases-expression l = 5 * l.depth

abbrev pub decreases-part : goal.decreases-part
decreases-part l = 5 * l.depth + 1

abbrev pub decreases-then_part : goal.decreases-then_part
decreases-then_part l = 5 * l.depth + 2

abbrev pub decreases-else_part : goal.decreases-else_part
decreases-else_part l = 5 * l.depth + 2

abbrev pub decreases-infix : goal.decreases-infix
decreases-infix l = 5 * l.depth + 2

abbrev pub decreases-prefix : goal.decreases-prefix
decreases-prefix l = 5 * l.depth + 4

abbrev pub decreases-choice : goal.decreases-choice
decreases-choice l = 5 * l.depth + 3

use Rattle.std.proofs.Common.{◌*◌, ◌+◌}
use Rattle.model_text.proofs.parse.+expression.Given as goal

abbrev pub decreases-expression : goal.decreases-expression
decreases-expression l = 1000 * l.depth

abbrev pub decreases-part : goal.decreases-part
decreases-part l = 1000 * l.depth + 1

abbrev pub decreases-more : goal.decreases-more
decreases-more l = 1000 * l.depth + 10 + l.joins

abbrev pub decreases-form : goal.decreases-form
decreases-form l = 1000 * l.depth + 5

abbrev pub decreases-worded : goal.decreases-worded
decreases-worded l = 1000 * l.depth + 4

abbrev pub decreases-not : goal.decreases-not
decreases-not l = 1000 * l.depth + 2

abbrev pub decreases-parens : goal.decreases-parens
decreases-parens l = 1000 * l.depth + 2

abbrev pub decreases-then_part : goal.decreases-then_part
decreases-then_part l = 1000 * l.depth + 2

abbrev pub decreases-else_part : goal.decreases-else_part
decreases-else_part l = 1000 * l.depth + 2

abbrev pub decreases-choice : goal.decreases-choice
decreases-choice l = 1000 * l.depth + 3

abbrev pub decreases-cases : goal.decreases-cases
decreases-cases l = 1000 * l.depth + 1

abbrev pub decreases-arms : goal.decreases-arms
decreases-arms l = 1000 * l.depth

abbrev pub decreases-valued : goal.decreases-valued
decreases-valued l = 1000 * l.depth + 2

abbrev pub decreases-else_arm : goal.decreases-else_arm
decreases-else_arm l = 1000 * l.depth + 3

abbrev pub decreases-one_arm : goal.decreases-one_arm
decreases-one_arm l = 1000 * l.depth + 3

abbrev pub decreases-call : goal.decreases-call
decreases-call l = 1000 * l.depth + 1

abbrev pub decreases-named : goal.decreases-named
decreases-named l = 1000 * l.depth + 2

abbrev pub decreases-application : goal.decreases-application
decreases-application l = 1000 * l.depth + 1

abbrev pub decreases-arguments : goal.decreases-arguments
decreases-arguments l = 1000 * l.depth

abbrev pub decreases-others : goal.decreases-others
decreases-others l = 1000 * l.depth

abbrev pub decreases-argument : goal.decreases-argument
decreases-argument l = 1000 * l.depth + 3

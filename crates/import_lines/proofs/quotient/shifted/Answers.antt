use Rattle.std.proofs.Common.{arith, sym, ◌∙◌}
use Rattle.import_lines.proofs.Quotients.{shift_up, shift_down}
use Rattle.import_lines.proofs.quotient.shifted.Goals as goal

pub returns-then-down-up : goal.returns-then-down-up
returns-then-down-up c = c.raised.ensures ∙ sym (shift_up c.args.number c.args.up c.args.down c.if-down-up.true)

pub returns-else-down-up : goal.returns-else-down-up
returns-else-down-up c = c.lowered.ensures ∙ sym (shift_down c.args.number c.args.up c.args.down (omega arith))

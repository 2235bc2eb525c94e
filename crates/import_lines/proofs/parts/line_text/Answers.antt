use Rattle.std.proofs.Common.{arith}
use Rattle.import_lines.proofs.LineFaults.{shown-not_utf8, shown-control, shown-long, shown-whole}
use Rattle.import_lines.proofs.parts.line_text.Goals as goal

pub returns-in_default : goal.returns-in_default
returns-in_default c = shown-not_utf8 c.args.line.now c.in_default.ensures.cases.0

pub returns-then-has_control : goal.returns-then-has_control
returns-then-has_control c = shown-control c.args.line.now c.has_control.result c.in-Ok.ensures.cases.1 c.has_control.ensures c.if-has_control.true

pub returns-then-line-gt-MOST_BYTES : goal.returns-then-line-gt-MOST_BYTES
returns-then-line-gt-MOST_BYTES c = shown-long c.args.line.now c.has_control.result c.in-Ok.ensures.cases.1 c.has_control.ensures c.if-has_control.false (omega arith)

pub returns : goal.returns
returns c = shown-whole c.args.line.now c.has_control.result c.in-Ok.ensures.cases.1 c.has_control.ensures c.in-Ok.text.now c.in-Ok.ensures.cases.0 c.if-has_control.false (omega arith)

use Rattle.std.proofs.Common.{Err, sym, ap, ◌∙◌}
use Rattle.serde_json.specs.View.{view}
use Rattle.import_formats.proofs.json.Values.{no_utf8, is_value, no_value}
use Rattle.import_formats.proofs.json.reader.value_of.Goals as goal

pub returns-in_default : goal.returns-in_default
returns-in_default c other = no_utf8 c.args.bytes.now c.in_default.ensures.cases.0

pub returns-in-Ok-from_str : goal.returns-in-Ok-from_str
returns-in-Ok-from_str c = is_value c.args.bytes.now c.in-Ok.text.now (view c.in-Ok-from_str.value) c.in-Ok.ensures.cases.0 c.in-Ok.ensures.cases.1 c.in-Ok-from_str.ensures.ok

pub returns-in-Err : goal.returns-in-Err
returns-in-Err c other =
    let t = c.parse_fault.ensures other in
    no_value c.args.bytes.now c.in-Ok.text.now c.in-Ok.ensures.cases.0 c.in-Ok.ensures.cases.1 (c.in-Err.ensures.err t.0) ∙ ap Err (sym t.1)

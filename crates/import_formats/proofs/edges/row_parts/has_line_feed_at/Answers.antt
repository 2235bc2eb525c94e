use Rattle.std.proofs.Common.{sym, ap, ◌∙◌}
use Rattle.std.specs.List.{list_any}
use Rattle.csv.specs.Records.{fields_of}
use Rattle.import_lines.specs.Texts.{is_line_feed}
use Rattle.import_formats.proofs.edges.FieldParts.{field_here, field_gone}
use Rattle.import_formats.proofs.edges.row_parts.has_line_feed_at.Goals as goal

pub returns-in-Some : goal.returns-in-Some
returns-in-Some c = c.has_line_feed.ensures ∙ sym (ap (list_any is_line_feed) (field_here (fields_of c.args.fields.now) c.args.place c.in-Some.field.now c.in-Some.ensures.value))

pub returns-in-None : goal.returns-in-None
returns-in-None c = sym (ap (list_any is_line_feed) (field_gone (fields_of c.args.fields.now) c.args.place c.in-None.ensures.value))

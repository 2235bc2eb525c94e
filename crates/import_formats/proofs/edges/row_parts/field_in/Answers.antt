use Rattle.csv.specs.Records.{fields_of}
use Rattle.import_formats.proofs.edges.FieldParts.{field_lent}
use Rattle.import_formats.proofs.edges.row_parts.field_in.Goals as goal

pub returns : goal.returns
returns c = field_lent (fields_of c.args.fields.now) c.args.column c.get.result c.get.ensures.value

use Rattle.std.proofs.Common.{sym, ◌∙◌}
use Rattle.csv.specs.Records.{fields_of}
use Rattle.import_formats.proofs.edges.FieldParts.{no_first, no_second, a_fourth, all_parts}
use Rattle.import_formats.proofs.edges.row_parts.two_or_three.Goals as goal

pub returns-in_default : goal.returns-in_default
returns-in_default c = no_first (fields_of c.args.fields.now) c.in_default.ensures.value

pub returns-in_default-get : goal.returns-in_default-get
returns-in_default-get c = no_second (fields_of c.args.fields.now) c.in_default-get.ensures.value

pub returns-then-is_some : goal.returns-then-is_some
returns-then-is_some c = a_fourth (fields_of c.args.fields.now) c.get-3.result c.get-3.ensures.value (sym c.is_some.ensures ∙ c.if-is_some.true)

pub returns : goal.returns
returns c =
    all_parts (fields_of c.args.fields.now) c.in-Some.first.now c.in-Some-get.second.now c.get-4.result c.get-3.result
    c.in-Some.ensures.value c.in-Some-get.ensures.value c.get-4.ensures.value c.get-3.ensures.value (sym c.is_some.ensures ∙ c.if-is_some.false)

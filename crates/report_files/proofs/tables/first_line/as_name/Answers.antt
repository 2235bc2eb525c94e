use Rattle.std.proofs.Common.{sym, ◌∙◌}
use Rattle.report_files.proofs.tables.FirstNames.{is_named, is_reserved}
use Rattle.report_files.proofs.tables.first_line.as_name.Goals as goal

pub returns-in-Some : goal.returns-in-Some
returns-in-Some c = record {
  name = is_reserved c.args.word.now c.text-name.result.now c.in-Some.field-0 c.text-name.ensures.same c.in-Some.ensures;
}

pub returns-in-None : goal.returns-in-None
returns-in-None c = record {
  name = is_named c.args.word.now c.text-name.result.now c.in_ok-first.field-0.now c.requires.word c.in_ok-first.ensures.value (sym c.is_ascii_alphabetic.ensures.value ∙ c.if-not-is_ascii_alphabetic.false) c.text-name.ensures.same c.in-None.ensures;
}

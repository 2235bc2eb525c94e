use Rattle.std.proofs.Common.{◌++◌, ◌∙◌, sym, ap}
use Rattle.std.specs.Str.Lines.{lines}
use Rattle.std.proofs.lemmas.Result.{err_from_is_err_and}
use Rattle.net_names.specs.NamesFiles.{IsFirstBadLine}
use Rattle.net_names.proofs.Whole.{only_memory}
use Rattle.net_names.proofs.reader.read_names.Goals as goal

pub returns-in_err-read_line-clause-only : goal.returns-in_err-read_line-clause-only
returns-in_err-read_line-clause-only c = λ names has.
    let p = err_from_is_err_and c.from_residual.result c.from_residual.ensures.1 in
    let bad : IsFirstBadLine c.args.bytes.now c.in_err-read_line.field-0.0 = record {
      earlier = c.loop-rest.names;
      here = c.first_line.result.0.now;
      later = lines c.first_line.result.1.now;
      on_lines = sym c.loop-rest.invariant.all ∙ ap (λ ls. c.loop-rest.names ++ ls) c.first_line.ensures.line;
      are_names = c.loop-rest.invariant.are;
      why = c.in_err-read_line.ensures.refused;
    } in
    rw (p.1, p.2) (only_memory c.args.bytes.now names c.in_err-read_line.field-0.0 has bad)

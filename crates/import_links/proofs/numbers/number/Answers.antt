use Rattle.std.proofs.Common.{◌∙◌, sym, ap, arith, Err}
use Rattle.import_links.proofs.NumberSteps.{is_fault}
use Rattle.import_links.proofs.numbers.number.Goals as goal

pub returns-in-Err : goal.returns-in-Err
returns-in-Err c = record {
  number = ap Err c.at_line.ensures ∙ is_fault c.args.most (omega arith) c.args.line c.args.name.now c.in-Err.fault (sym c.in-Err.ensures.weight);
  few = tt;
}

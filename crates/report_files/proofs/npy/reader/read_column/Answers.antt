use Rattle.report_files.specs.npy.Arrays.{values}
use Rattle.report_files.proofs.npy.reader.read_column.Goals as goal

pub returns-in_err-words-clause-memory : goal.returns-in_err-words-clause-memory
returns-in_err-words-clause-memory c = λ out. (
  values c.in_ok-element.field-0.element c.in_ok-element.field-0.count c.in_ok-element.field-0.body.now,
  record {
    element = c.in_ok-element.field-0.element;
    count = c.in_ok-element.field-0.count;
    body = c.in_ok-element.field-0.body.now;
    array = c.in_ok-element.ensures;
    same = c.in_ok-check_column.ensures.verdict;
  },
)

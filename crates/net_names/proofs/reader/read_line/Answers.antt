use Rattle.std.proofs.Common.{ap, ◌+◌}
use Rattle.net_names.proofs.Refusals.{not_text, refused_at}
use Rattle.net_names.proofs.reader.read_line.Goals as goal

pub returns-in_default-clause-refused : goal.returns-in_default-clause-refused
returns-in_default-clause-refused c = (ap (λ n. n + 1) c.count.ensures.count, not_text c.args.bytes.now c.in_default.ensures.cases.0)

pub returns-in-Err-clause-refused : goal.returns-in-Err-clause-refused
returns-in-Err-clause-refused c =
    let same = c.in-Ok.ensures.cases.0 in
    let none = rw same at c.in_default-number_of.ensures.place in
    let why = rw same at c.in-Err.ensures.fault in
    rw c.at_line.ensures (refused_at c.args.names.now c.args.bytes.now (c.count.result + 1) (ap (λ n. n + 1) c.count.ensures.count) c.count.ensures.names none c.in-Err.fault why)

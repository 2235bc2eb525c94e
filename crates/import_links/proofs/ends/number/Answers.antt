use Rattle.import_links.proofs.NameFaults.{few_with, refused_at}
use Rattle.import_links.proofs.ends.number.Goals as goal

pub returns-in-Err-clause-refused : goal.returns-in-Err-clause-refused
returns-in-Err-clause-refused c = rw c.at_line.ensures (refused_at c.args.most c.args.names.now c.args.name.now c.args.line c.in-Err.fault c.in-Err.ensures.fault)

pub returns-in-Ok-clause-few : goal.returns-in-Ok-clause-few
returns-in-Ok-clause-few c few = rw c.in-Ok.ensures.names (few_with c.args.most c.args.names.now c.args.name.now c.in-Ok.number c.in-Ok.ensures.number few)

use Rattle.rule_check.proofs.Places.{among_by_place}
use Rattle.rule_check.proofs.well_formed.declares.Goals as goal

pub returns : goal.returns
returns c = let h = among_by_place c.args.fields.now c.args.name.now in record { exact = cc }

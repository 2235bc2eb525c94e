use Rattle.std.proofs.Common.{arith}
use Rattle.std.proofs.lemmas.Bool.Decides.{nat_tests}
use Rattle.rule_check.proofs.Places.{among_by_place}
use Rattle.rule_check.proofs.well_formed.index_of.Goals as goal

pub returns-then-place-fields : goal.returns-then-place-fields
returns-then-place-fields c = let h = among_by_place c.args.fields.now c.args.name.now in grind (arith, nat_tests)

pub returns-else-place-fields : goal.returns-else-place-fields
returns-else-place-fields c = let h = among_by_place c.args.fields.now c.args.name.now in grind (arith, nat_tests)

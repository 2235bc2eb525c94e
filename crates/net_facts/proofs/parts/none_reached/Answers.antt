use Rattle.std.proofs.Common.{◌≡◌, [], false, replicate, subst, sym, arith}
use Rattle.std.proofs.lemmas.Grind.{common_steps}
use Rattle.net_facts.specs.Reaching.{AreReached}
use Rattle.net_facts.proofs.Joins.{none_are_reached}
use Rattle.net_facts.proofs.parts.none_reached.Goals as goal

pub returns-clause-whole : goal.returns-clause-whole
returns-clause-whole c =
    let marks = c.in_ok-vec.field-0.items in
    let none : c.in_ok-with_capacity.field-0.items ≡ [] = grind (arith, common_steps) in
    let is : marks ≡ replicate c.args.count false = grind (arith, common_steps) in
    subst (AreReached marks) (sym none) (none_are_reached marks c.args.count is)

use Rattle.std.proofs.Common.{◌≡◌, ◌++◌, ◌∷◌, [], true, false, get_or, set, subst, sym, ◌∙◌, arith}
use Rattle.std.specs.Prelude.{Contains}
use Rattle.std.proofs.lemmas.Grind.{common_steps}
use Rattle.net_facts.specs.Reaching.{AreReached, Grows}
use Rattle.net_facts.proofs.Joins.{one_more, one_reached}
use Rattle.net_facts.proofs.parts.reach.Goals as goal

pub returns-clause-whole : goal.returns-clause-whole
returns-clause-whole c =
    let marks = c.args.reached.now.marks.items in
    let nodes = c.args.reached.now.nodes.items in
    let node = c.args.node in
    let pushed : c.push.new.self.items ≡ nodes ++ node ∷ [] = grind (arith, common_steps) in
    let none : get_or marks node false ≡ false = grind (arith, common_steps) in
    subst (AreReached (set marks node true)) (sym pushed) (one_reached marks nodes c.requires.whole node c.requires.within none)

pub returns-clause-fresh : goal.returns-clause-fresh
returns-clause-fresh c =
    let nodes = c.args.reached.now.nodes.items in
    let node = c.args.node in
    let pushed : c.push.new.self.items ≡ nodes ++ node ∷ [] = grind (arith, common_steps) in
    let none : get_or c.args.reached.now.marks.items node false ≡ false = grind (arith, common_steps) in
    subst (Grows (λ v. Contains nodes v → ⊥) nodes) (sym pushed)
    (one_more (λ v. Contains nodes v → ⊥) nodes node (λ has. let bad : false ≡ true = sym none ∙ c.requires.whole.marked node has in cc))

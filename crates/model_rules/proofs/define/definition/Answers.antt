use Rattle.std.proofs.Common.{List, sym, ap, ◌∙◌}
use Rattle.std.proofs.lemmas.List.{drop_all}
use Rattle.model_text.specs.Tree.{ItemTree}
use Rattle.model_text.specs.View.{items_of}
use Rattle.model_rules.specs.Models.{told}
use Rattle.model_rules.proofs.Sound.{left_out}
use Rattle.model_rules.proofs.define.definition.Goals as goal

pub returns-clause-none : goal.returns-clause-none
returns-clause-none c = λ e.
    let items = c.args.items.now in
    let name = c.args.name.now in
    left_out (items_of items) name
    (λ given w here xs. ap (λ (its : List ItemTree). told its given w here name xs) (sym (ap items_of (drop_all c.loop-item.item-index items c.loop-item-test.false)))
    ∙ c.loop-item.invariant.same given w here xs)

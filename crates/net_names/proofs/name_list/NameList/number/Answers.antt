use Rattle.std.proofs.Common.{sym, ◌∙◌}
use Rattle.net_names.proofs.Names.{is_new, place_of_new}
use Rattle.net_names.proofs.name_list.NameList.number.Goals as goal

pub returns-clause-number : goal.returns-clause-number
returns-clause-number c =
    let names = c.args.self.now in
    let name = c.args.name.now in
    c.count-number.ensures.count ∙ sym (place_of_new names name (is_new names name c.in_default.ensures.place))

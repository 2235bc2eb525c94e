use Rattle.std.proofs.Common.{sym, ◌∙◌}
use Rattle.net_names.proofs.Names.{is_new, place_of_new, place_there}
use Rattle.net_names.proofs.node_names.NodeNames.place_in.Goals as goal

pub returns-in-Some : goal.returns-in-Some
returns-in-Some c = record {
  place = place_there c.args.self.now c.args.name.now c.in-Some.place c.in-Some.ensures.place;
}

pub returns-in-None : goal.returns-in-None
returns-in-None c = record {
  place = c.count.ensures.count ∙ sym (place_of_new c.args.self.now c.args.name.now (is_new c.args.self.now c.args.name.now c.in-None.ensures.place));
}

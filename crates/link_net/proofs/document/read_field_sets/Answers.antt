use Rattle.link_net.proofs.NameOrder.{none_rise}
use Rattle.link_net.proofs.document.read_field_sets.Goals as goal

pub new-requires-in-None : goal.new-requires-in-None
new-requires-in-None c = none_rise c.new.result.items c.new.ensures.items

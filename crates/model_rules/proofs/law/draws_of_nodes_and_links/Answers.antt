use Rattle.model_rules.proofs.Drawn.{links_agree, draws_below, link_draws_below}
use Rattle.model_rules.proofs.law.draws_of_nodes_and_links.Goals as goal

pub returns : goal.returns
returns c = record { agree = links_agree; at_nodes = draws_below; on_links = link_draws_below }

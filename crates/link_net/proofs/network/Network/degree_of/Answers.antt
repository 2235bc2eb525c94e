use Rattle.std.proofs.Common.{ap, ◌∙◌}
use Rattle.std.specs.Option.{unwrap_or}
use Rattle.link_net.proofs.Finds.{degree_known}
use Rattle.link_net.proofs.network.Network.degree_of.Goals as goal

pub returns : goal.returns
returns c = record { exact = c.unwrap_or.ensures ∙ ap (λ o. unwrap_or o 0) c.degree.ensures.value ∙ degree_known c.args.self.now c.args.node }

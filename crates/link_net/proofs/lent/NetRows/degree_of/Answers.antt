use Rattle.std.proofs.Common.{ap, ◌∙◌, ◌≤◌, sym, subst}
use Rattle.std.specs.Option.{unwrap_or}
use Rattle.link_net.proofs.Finds.{degree_known}
use Rattle.link_net.proofs.lent.NetRows.degree_of.Goals as goal

pub returns-clause-exact : goal.returns-clause-exact
returns-clause-exact c = c.unwrap_or.ensures ∙ ap (λ o. unwrap_or o 0) c.degree.ensures.value ∙ degree_known c.args.self.now c.args.node

pub returns-clause-few : goal.returns-clause-few
returns-clause-few c = subst (λ n. n ≤ 4294967295) (sym (returns-clause-exact c)) (c.nodes-nodes.ensures.whole.degrees c.args.node)

use Rattle.std.proofs.Common.{◌≡◌, length, rules}
use Rattle.std.proofs.lemmas.Bool.{OnTrue_at, OnTrue_from}
use Rattle.std.proofs.lemmas.Result.{IfOk-weaker}
use Rattle.net_random.specs.RandomNetworks.{AreSimpleLinks, link_count, node_count}
use Rattle.net_random.proofs.TrialLinks.{trial_network_has}
use Rattle.net_random.proofs.trial_check.is_outcome.Goals as goal

pub returns : goal.returns
returns c =
    let wanted = c.args.wanted.now in
    let links = c.args.links.now in
    let count : length links ≡ link_count wanted = search rules in
    let simple : AreSimpleLinks (node_count wanted) links = search rules in
    record {
      outcome = IfOk-weaker c.make_degrees.result _ _ (λ made has. OnTrue_from made _ (λ passed. trial_network_has wanted links count simple (OnTrue_at passed has)))
          c.make_degrees.ensures.degrees;
    }

use Rattle.std.proofs.Common.{map, ap, sym, subst, ◌∙◌}
use Rattle.std.proofs.lemmas.Result.{IfOk-weaker}
use Rattle.net_random.specs.RandomNetworks.{AreSimpleLinks}
use Rattle.net_random.specs.Pairs.{link_at}
use Rattle.net_random.proofs.Places.{places_are_pairs, simple_at}
use Rattle.net_random.proofs.pairs.random_links.Goals as goal

pub sample-requires : goal.sample-requires
sample-requires c = rw c.place_count.ensures (rw places_are_pairs at c.requires.room)

pub returns-clause-simple : goal.returns-clause-simple
returns-clause-simple c =
    let made = simple_at c.args.nodes c.requires.some c.args.count _ (rw c.place_count.ensures at c.in_ok-places.ensures) in
    IfOk-weaker c.links_at.result _ _ (λ v e. subst (AreSimpleLinks c.args.nodes) (sym (e ∙ ap (map (link_at c.args.nodes)) (c.as_slice.ensures.value ∙ c.into_vec.ensures))) made) c.links_at.ensures

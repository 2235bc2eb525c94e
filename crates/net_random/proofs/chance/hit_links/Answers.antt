use Rattle.std.proofs.Common.{ap, map, ◌∙◌}
use Rattle.std.proofs.lemmas.Result.{err_from_is_err_and}
use Rattle.rand_core.specs.Steps.{stream_of, steps_u64_low}
use Rattle.rand_pcg.specs.Pcg.{pcg64}
use Rattle.net_random.specs.Blocks.{pair_chance}
use Rattle.net_random.specs.Chances.{chance_at, places_from}
use Rattle.net_random.specs.Pairs.{link_at, place_count}
use Rattle.net_random.proofs.Chances.{are_places, chance_many, chance_places, chance_simple}
use Rattle.net_random.proofs.chance.hit_links.Goals as goal

pub returns-in_err-places-clause-many : goal.returns-in_err-places-clause-many
returns-in_err-places-clause-many c =
    let p = err_from_is_err_and c.from_residual.result c.from_residual.ensures.1 in
    rw (p.1, p.2)
    (λ other.
    let told = c.in_err-places.ensures.many other in
    (told.0, chance_many (pair_chance c.args.blocks.now c.args.chances) c.args.nodes c.args.seed c.args.most (rw c.seed_from_u64-rng.ensures at told.1)))

pub links_at-requires-clause-low : goal.links_at-requires-clause-low
links_at-requires-clause-low c =
    rw (c.deref.ensures.value, c.in_ok-places.ensures.drawn)
    (are_places (chance_at (pair_chance c.args.blocks.now c.args.chances) c.args.nodes) (place_count c.args.nodes) (stream_of (steps_u64_low pcg64) c.seed_from_u64-rng.result))

pub returns-clause-simple : goal.returns-clause-simple
returns-clause-simple c =
    rw (c.in_ok-links.ensures, c.deref.ensures.value, c.in_ok-places.ensures.drawn)
    (chance_simple (chance_at (pair_chance c.args.blocks.now c.args.chances) c.args.nodes) c.args.nodes (stream_of (steps_u64_low pcg64) c.seed_from_u64-rng.result) c.requires.some)

pub returns-clause-links : goal.returns-clause-links
returns-clause-links c =
    let chance = pair_chance c.args.blocks.now c.args.chances in
    c.in_ok-links.ensures
    ∙ ap (map (link_at c.args.nodes)) (
    c.deref.ensures.value
    ∙ c.in_ok-places.ensures.drawn
    ∙ ap (λ rng. places_from (chance_at chance c.args.nodes) (place_count c.args.nodes) 0 (stream_of (steps_u64_low pcg64) rng)) c.seed_from_u64-rng.ensures
    )
    ∙ chance_places chance c.args.nodes c.args.seed

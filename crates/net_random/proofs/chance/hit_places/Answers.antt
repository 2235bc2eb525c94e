use Rattle.std.proofs.Common.{◌+◌, ◌-◌, arith}
use Rattle.std.proofs.lemmas.Result.{err_from_is_err_and}
use Rattle.rand_core.specs.Steps.{stream_of, steps_u64_low}
use Rattle.rand_pcg.specs.Pcg.{pcg64}
use Rattle.net_random.specs.Blocks.{pair_chance}
use Rattle.net_random.specs.Chances.{chance_at, places_from}
use Rattle.net_random.specs.Pairs.{place_count}
use Rattle.net_random.proofs.Chances.{places_left, places_many}
use Rattle.net_random.proofs.chance.hit_places.Goals as goal

pub returns-in_err-put_place-clause-many : goal.returns-in_err-put_place-clause-many
returns-in_err-put_place-clause-many c =
    let l = c.loop-place in
    let count = place_count c.args.nodes in
    let f = chance_at (pair_chance c.args.blocks.now c.args.chances) c.args.nodes in
    let p = err_from_is_err_and c.from_residual.result c.from_residual.ensures.1 in
    rw (p.1, p.2)
    (λ other.
    let told = c.in_err-put_place.ensures.many other in (
      told.0,
      places_many f count l.place (stream_of (steps_u64_low pcg64) l.rng) l.places.items (places_from f count 0 (stream_of (steps_u64_low pcg64) c.args.rng.now)) (omega (arith, c.loop-place-test.true, c.place_count-place-end.ensures)) l.invariant.drawn
          c.number_in-number.result (stream_of (steps_u64_low pcg64) c.number_in-number.new.rng) c.is_hit-hit.result c.number_in-number.ensures.drawn c.is_hit-hit.ensures c.args.most
          (told.1 (places_from f (count - (l.place + 1)) (l.place + 1) (stream_of (steps_u64_low pcg64) c.number_in-number.new.rng))),
    ))

pub loop-place-preserved : goal.loop-place-preserved
loop-place-preserved c =
    let l = c.loop-place in
    let count = place_count c.args.nodes in
    let f = chance_at (pair_chance c.args.blocks.now c.args.chances) c.args.nodes in
    record {
      few = c.in_ok-put_place.ensures.few;
      drawn = places_left f count l.place (stream_of (steps_u64_low pcg64) l.rng) l.places.items (places_from f count 0 (stream_of (steps_u64_low pcg64) c.args.rng.now)) (omega (arith, c.loop-place-test.true, c.place_count-place-end.ensures)) l.invariant.drawn
          c.number_in-number.result (stream_of (steps_u64_low pcg64) c.number_in-number.new.rng) c.is_hit-hit.result c.number_in-number.ensures.drawn c.is_hit-hit.ensures
          (c.in_ok-put_place.ensures.put (places_from f (count - (l.place + 1)) (l.place + 1) (stream_of (steps_u64_low pcg64) c.number_in-number.new.rng)));
    }

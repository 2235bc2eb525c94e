use Rattle.std.proofs.Common.{◌≡◌, ◌≤◌, ◌++◌, ◌-◌, length}
use Rattle.rand_core.specs.Steps.{stream_of, steps_u64_low}
use Rattle.rand_pcg.specs.Pcg.{pcg64}
use Rattle.net_random.specs.Blocks.{pair_chance}
use Rattle.net_random.specs.Chances.{chance_at, places_from}
use Rattle.net_random.specs.Pairs.{place_count}
use Rattle.net_random.proofs.chance.hit_places.Given as goal

abbrev pub invariant-loop-place : goal.invariant-loop-place
invariant-loop-place l = record {
  few : length l.places.items ≤ l.most;
  drawn : l.places.items ++ places_from (chance_at (pair_chance l.blocks l.chances) l.nodes) (place_count l.nodes - l.place) l.place (stream_of (steps_u64_low pcg64) l.rng)
      ≡ places_from (chance_at (pair_chance l.blocks l.chances) l.nodes) (place_count l.nodes) 0 (stream_of (steps_u64_low pcg64) l.fn.rng);
}

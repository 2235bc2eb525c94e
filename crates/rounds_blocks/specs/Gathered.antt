-- What aggregates have gathered.
use Rattle.std.specs.Prelude.{ℕ, List, take}
use Rattle.std.specs.Global.{Vec}
use Rattle.rule_check.specs.Value.{Rules, here_at}
use Rattle.rule_check.specs.Gathering.{sums_at}
use Rattle.link_net.specs.Neighbours.{Neighbours, degree}
use Rattle.rounds_code.specs.Block.{Lane, state_at}
use Rattle.rounds_plan.specs.Rounds.{nears_in}

-- a node whose aggregates have gathered over its first so many neighbours
abbrev pub gathered_first : Rules → Neighbours → ℕ → List (Vec ℕ) → ℕ → ℕ → Lane
gathered_first rules network round columns count u = record {
  id = u;
  degree = degree network u;
  own = state_at columns u;
  round = round;
  sums = sums_at rules (here_at rules round u (degree network u) (state_at columns u) (take count (nears_in network (state_at columns) u)));
}

-- a node whose aggregates have gathered over all its neighbours
abbrev pub gathered : Rules → Neighbours → ℕ → List (Vec ℕ) → ℕ → Lane
gathered rules network round columns u = record {
  id = u;
  degree = degree network u;
  own = state_at columns u;
  round = round;
  sums = sums_at rules (here_at rules round u (degree network u) (state_at columns u) (nears_in network (state_at columns) u));
}

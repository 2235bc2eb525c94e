use Rattle.std.proofs.Common.{rules, ◌≡◌, subst, List, ℕ, sym}
use Rattle.rounds_walk.specs.Counts.{AreCounts}
use Rattle.rounds_walk.proofs.Counted.{counted}
use Rattle.rounds_walk.proofs.counts.count_values.Goals as goal

pub returns : goal.returns
returns c =
    let all : c.in_ok-counts-2.counts.items ≡ c.in_ok-counts.counts.entries = search rules in
    record {
      counts = subst (λ (counts : List (ℕ × ℕ)). AreCounts c.args.field c.args.states.now counts) (sym all)
          (counted c.args.field c.args.states.now c.in_ok-counts.counts c.into_iter.ensures.into_iter_gives.5 c.in_ok-counts.ensures.tally);
    }

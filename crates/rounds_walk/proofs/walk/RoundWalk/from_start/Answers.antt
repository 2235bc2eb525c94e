use Rattle.std.proofs.Common.{ℕ, arith, length, refl, subst, sym}
use Rattle.rounds_walk.specs.Walking.{HasRound}
use Rattle.rounds_walk.proofs.Held.{opening_held}
use Rattle.rounds_walk.proofs.walk.RoundWalk.from_start.Goals as goal

pub invariant_of-result : goal.invariant_of-result
invariant_of-result c =
    let p = c.args.start.now in
    let walk = c.args.states in
    record {
      whole = c.nodes-nodes.ensures.whole;
      late = omega (arith, c.start.ensures.start);
      held =
          subst (λ (t : ℕ). HasRound p t walk) (sym c.start.ensures.start)
          (opening_held p walk p.opening (length p.network) refl refl c.requires.rules c.requires.network c.requires.states);
    }

-- A walk that is moved one round on.
use Rattle.std.proofs.Common.{◌≡◌, ◌≢◌, ◌<◌, ◌≤◌, ◌+◌, ℕ, length, sym, ap, arith}
use Rattle.rounds_plan.specs.Plans.{PlanView}
use Rattle.rounds_plan.specs.Rounds.{round_from}
use Rattle.rounds_plan.proofs.Nears.{AreWithin}
use Rattle.rounds_blocks.specs.Walks.{Walked, state_by}
use Rattle.rounds_walk.specs.Walking.{AreAlike, HasRound}
use Rattle.rounds_walk.proofs.Alike.{alike_held, held_alike}
use Rattle.rounds_walk.proofs.Held.{held_more}

module _ (p : PlanView) (t : ℕ) (old new : Walked) (within : AreWithin p.network) (late : p.start ≤ t) (held : HasRound p t old) (rules : new.rules ≡ old.rules) (network : new.network ≡ old.network)
    (next : (u : ℕ) → u < length old.network → state_by new.words u ≡ round_from old.rules old.network t (state_by old.words) u) where
  -- it has the states of the next round
  pub stepped : HasRound p (t + 1) new
  stepped = held_more p t old new within late held rules network next

  -- where no state changed, both rounds are alike
  pub stepped_rests : ((u : ℕ) → u < length old.network → state_by new.words u ≡ state_by old.words u) → AreAlike p t (t + 1)
  stepped_rests same = held_alike p t (t + 1) old new held stepped (λ u inside. sym (same u (omega (arith, inside, ap length held.network))))

  -- where one changed, they are not
  pub stepped_moves : (u : ℕ) × (u < length old.network) × (state_by new.words u ≢ state_by old.words u) → AreAlike p t (t + 1) → ⊥
  stepped_moves found alike = found.2 (sym (alike_held p t (t + 1) old new held stepped alike found.0 (omega (arith, found.1, ap length held.network))))

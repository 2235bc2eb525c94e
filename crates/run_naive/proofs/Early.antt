-- The lockstep state before the start is the initial one.
use Rattle.std.proofs.Common.{◌≡◌, ◌-◌, ◌≤◌, ℕ, ap, arith}
use Rattle.rounds_plan.specs.Lockstep.{after, lockstep, state_in}
use Rattle.rounds_plan.specs.Plans.{PlanView}

pub lockstep_early : (p : PlanView) (t u : ℕ) → t ≤ p.start → lockstep p t u ≡ state_in p.opening u
unfolding lockstep after
lockstep_early p t u early = let none : t - p.start ≡ 0 = omega arith in ap (λ k. after p k u) none

-- Rounds that are not refused, and the configurations that they have.
use Rattle.std.proofs.Common.{◌≡◌, ℕ, Bool, true, false, Ok, Err, nat_lt, if◌then◌else◌, length, refl, subst, sym}
use Rattle.std.proofs.lemmas.List.FromFn.{length-map-range_with_len}
use Rattle.rounds_plan.specs.Configs.{Configuration, most_rounds}
use Rattle.rounds_plan.specs.Plans.{PlanView}
use Rattle.rounds_plan.specs.declared.fault.RoundFault.TheVariants.{TooManyRounds, RoundsBelowStart}
use Rattle.rounds_plan.specs.Lockstep.{lockstep, lockstep_config, rounds_of}
use Rattle.app_jobs.specs.Served.{HasPlanShape}

given : (a b : Bool) (c d : Configuration) → (if a then Err TooManyRounds else (if b then Err RoundsBelowStart else Ok d)) ≡ Ok c → c ≡ d
given true b c d h = cc
given false true c d h = cc
given false false c d h = cc

pub is_lockstep : (p : PlanView) (t : ℕ) (c : Configuration) → rounds_of p t ≡ Ok c → c ≡ lockstep_config p t
is_lockstep p t c h = given (nat_lt most_rounds t) (nat_lt t p.start) c (lockstep_config p t) h

pub lockstep_shape : (p : PlanView) (t : ℕ) → HasPlanShape p (lockstep_config p t)
lockstep_shape p t = record {
  nodes = length-map-range_with_len (lockstep p t) 0 (length p.network);
  fields = refl;
}

pub state_each : (p : PlanView) (t : ℕ) (c : Configuration) → rounds_of p t ≡ Ok c → HasPlanShape p c
state_each p t c h = subst (HasPlanShape p) (sym (is_lockstep p t c h)) (lockstep_shape p t)

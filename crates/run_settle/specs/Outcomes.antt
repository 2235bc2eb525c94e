-- What becomes of the lockstep rounds of a plan up to a limit. A configuration is the states of all nodes after a round.
use Rattle.std.specs.Prelude.{◌≡◌, ℕ, ◌+◌, ◌<◌, ◌≤◌, nat_lt, Option, Some, None, if◌then◌else◌}
use Rattle.rule_check.specs.Rounds.{reads_round}
use Rattle.rounds_plan.specs.Configs.{most_rounds}
use Rattle.rounds_plan.specs.Plans.{PlanView}
use Rattle.rounds_walk.specs.Walking.{AreAlike}
use Rattle.run_settle.specs.declared.fault.SettleFault.{SettleFault}
use Rattle.run_settle.specs.declared.fault.SettleFault.TheVariants.{ReadsRound, LimitTooLarge, LimitBelowStart, Memory}
use Rattle.run_settle.specs.declared.settling.Settling.{Settling}
use Rattle.run_settle.specs.declared.settling.Settling.TheVariants.{Settles, Repeats, Open}

-- from the start on, each round up to this one has a configuration other than the round before it
abbrev pub IsRestless : PlanView → ℕ → Type 0
IsRestless p r = (e : ℕ) → p.start ≤ e → e < r → AreAlike p e (e + 1) → ⊥

-- the first round that the next one leaves as it is
pub record IsStill (p : PlanView) (r : ℕ) : Type 0 where
  pub late : p.start ≤ r
  pub still : AreAlike p r (r + 1)
  pub first : IsRestless p r

-- the same, where the next one is within the limit
pub record SettlesAt (p : PlanView) (limit r : ℕ) : Type 0 where
  pub round : IsStill p r
  pub within : r + 1 ≤ limit

-- The first round whose configuration ever comes again, and after how many rounds, two or more, it does so for the first time, which is
-- within the limit.
pub record RepeatsFrom (p : PlanView) (limit r n : ℕ) : Type 0 where
  pub late : p.start ≤ r
  pub within : r + n ≤ limit
  pub several : 2 ≤ n
  pub again : AreAlike p r (r + n)
  pub first : (e m : ℕ) → p.start ≤ e → e < r → 1 ≤ m → AreAlike p e (e + m) → ⊥
  pub least : (m : ℕ) → 1 ≤ m → m < n → AreAlike p r (r + m) → ⊥

-- no two rounds from the start up to the limit have the same configuration
abbrev pub IsOpen : PlanView → ℕ → Type 0
IsOpen p limit = (e m : ℕ) → p.start ≤ e → 1 ≤ m → e + m ≤ limit → AreAlike p e (e + m) → ⊥

-- What becomes of the rounds up to a limit. A plan has finitely many configurations, so one of the first two holds for each limit that is
-- great enough.
abbrev pub IsSettling : PlanView → ℕ → Settling → Type 0
IsSettling p limit (Settles round) = SettlesAt p limit round
IsSettling p limit (Repeats round period) = RepeatsFrom p limit round period
IsSettling p limit (Open last) = (last ≡ limit) × IsOpen p limit

-- why there is no answer, whatever memory there is
abbrev pub refusal_of : PlanView → ℕ → Option SettleFault
refusal_of p limit =
    if reads_round p.program then Some ReadsRound
    else if nat_lt most_rounds limit then Some LimitTooLarge
    else if nat_lt limit p.start then Some LimitBelowStart
    else None

-- the fault is that of the plan and the limit; running out of memory comes only where these have none
abbrev pub IsFaultOf : PlanView → ℕ → SettleFault → Type 0
IsFaultOf p limit Memory = refusal_of p limit ≡ None
IsFaultOf p limit fault = refusal_of p limit ≡ Some fault

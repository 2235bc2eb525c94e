-- What a node sees of a neighbour's register, by counts and by phases.
use Rattle.std.proofs.Common.{◌≡◌, ℕ, ◌+◌, ◌-◌, ◌%◌, ◌≤◌, ◌==◌, true, false, nat_lt, List, inl, inr, ⊎_elim, ap, refl, arith}
use Rattle.std.proofs.lemmas.Bool.{cases_lt}
use Rattle.std.proofs.lemmas.Bool.Decides.{nat_tests}
use Rattle.link_net.specs.Neighbours.{neighbour}
use Rattle.phase_register.specs.Looks.{RegisterView, look_by_counts, look_by_phases}
use Rattle.phase_register.specs.Phases.{next_phase}
use Rattle.phase_register.specs.declared.register.Look.TheVariants.{Level, Ahead}
use Rattle.rounds_plan.specs.Plans.{PlanView}
use Rattle.rounds_plan.specs.Starts.{IsSimplePlan}
use Rattle.rounds_plan.specs.Lockstep.{lockstep}
use Rattle.unison_world.specs.declared.step.Step.{Step}
use Rattle.unison_world.specs.declared.step.Step.TheVariants.{Read}
use Rattle.unison_world.specs.declared.step.Answer.TheVariants.{Taken}
use Rattle.unison_world.specs.Counting.{Counts, moves_of, answer_of}
use Rattle.unison_world.proofs.Steps.{answer-taken, in_step-from_start}
use Rattle.unison_trace.specs.Histories.{run_of}
use Rattle.run_steps.specs.explain.Registers.{register_of, look_of, SeesOwnRound, ReadsOwnRound}

look-level : (plan : PlanView) (c : Counts) (u v : ℕ) → moves_of c v ≡ moves_of c u → look_of plan c u v ≡ Level (lockstep plan (moves_of c u) v)
look-level plan c u v e =
    let a : (moves_of c v == moves_of c u) ≡ true = grind (arith, nat_tests) in
    rw a (ap (λ t. Level (lockstep plan t v)) e)

look-ahead : (plan : PlanView) (c : Counts) (u v : ℕ) → moves_of c v ≡ moves_of c u + 1 → look_of plan c u v ≡ Ahead (lockstep plan (moves_of c u) v)
look-ahead plan c u v e =
    let a : (moves_of c v == moves_of c u) ≡ false = grind (arith, nat_tests) in
    let b : nat_lt (moves_of c u) (moves_of c v) ≡ true = grind (arith, nat_tests) in
    let t : moves_of c v - 1 ≡ moves_of c u = omega arith in
    rw (a, b) (ap (λ t. Ahead (lockstep plan t v)) t)

-- the look by counts is that by phases
by_phases : (o m t : ℕ) (r : RegisterView) → r.phase ≡ (o + t) % 3 → m ≤ t + 1 → t ≤ m + 1 → look_by_counts m t r ≡ look_by_phases ((o + m) % 3) r
by_phases o m t r e low high =
    ⊎_elim
    (λ less.
    let same : t ≡ m + 1 = omega arith in
    let a : (t == m) ≡ false = grind (arith, nat_tests) in
    let b : nat_lt m t ≡ true = grind (arith, nat_tests) in
    let p : (r.phase == ((o + m) % 3)) ≡ false = grind (arith, nat_tests) in
    let q : (r.phase == next_phase ((o + m) % 3)) ≡ true = grind (arith, nat_tests) in
    rw (a, b, p, q) refl)
    (λ most. ⊎_elim
    (λ less.
    let same : m ≡ t + 1 = omega arith in
    let a : (t == m) ≡ false = grind (arith, nat_tests) in
    let b : nat_lt m t ≡ false = grind (arith, nat_tests) in
    let p : (r.phase == ((o + m) % 3)) ≡ false = grind (arith, nat_tests) in
    let q : (r.phase == next_phase ((o + m) % 3)) ≡ false = grind (arith, nat_tests) in
    rw (a, b, p, q) refl)
    (λ least.
    let same : t ≡ m = omega arith in
    let a : (t == m) ≡ true = grind (arith, nat_tests) in
    let p : (r.phase == ((o + m) % 3)) ≡ true = grind (arith, nat_tests) in
    rw (a, p) refl) (cases_lt t m))
    (cases_lt m t)

own_round : (plan : PlanView) (stop : ℕ) (steps : List Step) (u j : ℕ) → IsSimplePlan plan → plan.start ≤ stop
    → answer_of plan.network stop (run_of plan stop steps) (Read u j) ≡ Taken → SeesOwnRound plan (run_of plan stop steps) u (neighbour plan.network u j)
own_round plan stop steps u j is late taken =
    let c = run_of plan stop steps in
    let v = neighbour plan.network u j in
    let t = answer-taken plan.network stop c u j taken in
    let least = t.3 in
    let near = (in_step-from_start plan.network plan.start stop steps is.network late).near u j t.1 in
    let most = near.1 in
    ⊎_elim
    (λ less. (let e : moves_of c v ≡ moves_of c u + 1 = omega arith in inr (e, look-ahead plan c u v e)))
    (λ same. (let e : moves_of c v ≡ moves_of c u = omega arith in inl (e, look-level plan c u v e)))
    (cases_lt (moves_of c u) (moves_of c v))

pub reads_own_round : ReadsOwnRound
reads_own_round =
    record {
      round = own_round;
      phases = λ plan stop steps u j is late slot.
          let c = run_of plan stop steps in
          let v = neighbour plan.network u j in
          let near = (in_step-from_start plan.network plan.start stop steps is.network late).near u j slot in
          by_phases plan.phase (moves_of c u) (moves_of c v) (register_of plan c v) refl near.0 near.1;
    }

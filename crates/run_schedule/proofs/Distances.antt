-- Counts where one node never moved, and nothing else changes any more.
use Rattle.std.proofs.Common.{◌≡◌, ◌≢◌, ℕ, zero, suc, ◌+◌, ◌-◌, ◌<◌, ◌≤◌, length, ap, ⊎_elim, arith}
use Rattle.std.proofs.lemmas.Bool.{cases_eq, cases_lt}
use Rattle.link_net.specs.Neighbours.{Neighbours, IsNetwork, degree, neighbour}
use Rattle.rounds_plan.specs.Plans.{PlanView, IsPlan}
use Rattle.unison_world.specs.Counting.{Counts, moves_of, InStep}
use Rattle.run_schedule.specs.Ways.{IsWay}
use Rattle.run_schedule.specs.Starving.{IsHeldBack}

-- counts of nodes differ by no more than the links between them
pub way-near : (network : Neighbours) (stop : ℕ) (c : Counts) → InStep network stop c → (n u v : ℕ) → IsWay network n u v → moves_of c u ≤ moves_of c v + n
way-near network stop c is zero u v e = (let m = ap (moves_of c) e in omega arith)
way-near network stop c is (suc n) u v w =
    let r = way-near network stop c is n (neighbour network u w.0) v w.2 in
    let near = is.near u w.0 w.1 in
    omega arith

-- every node but one that is below the stop has a neighbour that has moved less often
abbrev pub AllWait : Neighbours → ℕ → Counts → ℕ → Type 0
AllWait network stop c node = (u : ℕ) → u < length network → u ≢ node → moves_of c u < stop → (j : ℕ) × (j < degree network u) × (moves_of c (neighbour network u j) < moves_of c u)

-- such a node is as far from the one as it has moved
way-back : (network : Neighbours) (start stop : ℕ) (c : Counts) (node : ℕ) → IsNetwork network → InStep network stop c → ((u : ℕ) → u < length network → start ≤ moves_of c u) → moves_of c node ≡ start
    → AllWait network stop c node → (k u : ℕ) → u < length network → moves_of c u ≡ start + k → moves_of c u < stop → IsWay network k u node
way-back network start stop c node net is begun stays waits zero u h e below =
    ⊎_elim
    (λ s. s)
    (λ s.
    let b = waits u h s below in
    let l = b.2 in
    let g = begun (neighbour network u b.0) (net.within u b.0 b.1) in
    absurd (omega arith))
    (cases_eq u node)
way-back network start stop c node net is begun stays waits (suc k) u h e below =
    ⊎_elim
    (λ s. (let m = ap (moves_of c) s in absurd (omega arith)))
    (λ s.
    let b = waits u h s below in
    let l = b.2 in
    let near = is.near u b.0 b.1 in
    (b.0, b.1, way-back network start stop c node net is begun stays waits k (neighbour network u b.0) (net.within u b.0 b.1) (omega arith) (omega arith)))
    (cases_eq u node)

pub held-back : (plan : PlanView) (stop : ℕ) (c : Counts) (node u : ℕ) → IsPlan plan → plan.start ≤ stop → InStep plan.network stop c → ((v : ℕ) → v < length plan.network → plan.start ≤ moves_of c v) → moves_of c node ≡ plan.start
    → AllWait plan.network stop c node → u < length plan.network → IsHeldBack plan stop c node u
held-back plan stop c node u is late in_step begun stays waits h =
    let network = plan.network in
    let start = plan.start in
    let most = in_step.within u in
    let least = begun u h in
    let back : moves_of c u < stop → IsWay network (moves_of c u - start) u node =
    λ below. way-back network start stop c node is.network in_step begun stays waits (moves_of c u - start) u h (omega arith) below in
    record {
      near = λ n d.
          let far = way-near network stop c in_step n u node d.way in
          ⊎_elim
          (λ below. (let l = d.least (moves_of c u - start) (back below) in omega arith))
          (λ above. omega arith)
          (cases_lt (moves_of c u) stop);
      apart = λ none.
          ⊎_elim (λ below. absurd (none (moves_of c u - start) (back below))) (λ above. omega arith) (cases_lt (moves_of c u) stop);
    }

-- Nodes of a network within bounds, and within the limits of a run.
use Rattle.std.proofs.Common.{ℕ, zero, suc, ◌≡◌, ◌+◌, ◌-◌, ◌<◌, ◌≤◌, List, length, refl, ◌∙◌, ap, arith, sym, subst}
use Rattle.std.specs.Prelude.{All}
use Rattle.std.proofs.lemmas.List.{length-map}
use Rattle.std.proofs.lemmas.List.Elements.{All-from_get_or, All-map}
use Rattle.rule_check.specs.declared.state.State.{State}
use Rattle.rule_check.specs.Value.{Rules, here_at}
use Rattle.rule_ranges.specs.declared.bounds.Bounds.{Bounds}
use Rattle.rule_ranges.specs.declared.range.Range.{Range}
use Rattle.rule_ranges.specs.States as ranged
use Rattle.rule_ranges.specs.States.{AreClosed, AreWider, IsNodeWithin, IsStateWithin}
use Rattle.rule_ranges.proofs.Wider.{state_wider}
use Rattle.link_net.specs.Neighbours.{Neighbours, degree, neighbour, row}
use Rattle.rounds_plan.specs.Configs.{most_rounds}
use Rattle.rounds_plan.specs.Lockstep.{lockstep, lockstep-start, lockstep-more, state_in}
use Rattle.rounds_plan.specs.Plans.{PlanView}
use Rattle.rounds_plan.specs.Rounds.{near_at, nears_in}
use Rattle.rule_cuts.specs.declared.limits.Limits.{Limits}
use Rattle.rule_cuts.specs.Bounded.{AreValues, IsHereWithin}
use Rattle.app_why.specs.Notes.{AreLimitsOf}

-- a node is within bounds of its network
pub node_within : (bounds : Bounds) (network : Neighbours) (fields round u : ℕ) (ranges : List Range) (at : ℕ → State)
    → ((w j : ℕ) → j < degree network w → neighbour network w j < length network) → length network ≤ bounds.id + 1 → ((v : ℕ) → degree network v ≤ bounds.degree) → All (λ arc. arc.1 ≤ bounds.weight) (row network u)
    → round ≤ bounds.round → u < length network → ((v : ℕ) → v < length network → IsStateWithin fields ranges (at v)) → IsNodeWithin bounds fields ranges round u (at u) (nears_in network at u)
node_within bounds network fields round u ranges at within few degrees weights early inside states = record {
  time = early;
  number = omega (arith, inside, few);
  links = omega (arith, length-map (row network u) (near_at at), degrees u);
  state = states u inside;
  each = All-map (ranged.IsNearWithin bounds fields ranges) (near_at at) (row network u) (All-from_get_or (λ arc. ranged.IsNearWithin bounds fields ranges (near_at at arc)) (row network u) (0, 0) (λ i below. record {
    number = omega (arith, within u i below, few);
    weight = weights i (0, 0) below;
    state = states (neighbour network u i) (within u i below);
  }));
}

-- and within limits, where states hold values
pub here_within : (limits : Limits) (network : Neighbours) (round u : ℕ) (at : ℕ → State) → degree network u ≤ limits.bounds.degree → ((v : ℕ) → AreValues (at v))
    → IsNodeWithin limits.bounds (length limits.program.now.fields) limits.fields round u (at u) (nears_in network at u)
    → IsHereWithin limits (here_at limits.program.now round u (degree network u) (at u) (nears_in network at u))
here_within limits network round u at few values node =
    let each : All (λ near. AreValues near.state) (nears_in network at u) = All-map (λ near. AreValues near.state) (near_at at) (row network u) (λ k d inside. values _) in
    record {
      names = refl;
      round = node.time;
      id = node.number;
      degree = few;
      few = node.links;
      words = record { values = values u; ranges = node.state };
      nears = λ k d inside.
          let near = node.each k d inside in
          record { id = near.number; weight = near.weight; words = record { values = each k d inside; ranges = near.state } };
    }

-- in each round of a plan the states lie in ranges that are closed and in which they lie at its start
module _ (p : PlanView) (bounds : Bounds) (first ranges : List Range)
    (opening : (u : ℕ) → u < length p.network → IsStateWithin (length p.program.fields) first (state_in p.opening u)) (wider : AreWider first ranges) (closed : AreClosed p.program bounds ranges)
    (node : (fields round u : ℕ) (ranges : List Range) (at : ℕ → State) → u < length p.network → round ≤ most_rounds → ((v : ℕ) → v < length p.network → IsStateWithin fields ranges (at v))
    → IsNodeWithin bounds fields ranges round u (at u) (nears_in p.network at u)) where
  n : ℕ
  n = length p.program.fields

  stays_by : (k u : ℕ) → p.start + k ≤ most_rounds → u < length p.network → IsStateWithin (length p.program.fields) ranges (lockstep p (p.start + k) u)
  stays_by zero u early inside =
      subst (λ (s : State). IsStateWithin (length p.program.fields) ranges s) (sym (ap (λ (t : ℕ). lockstep p t u) (omega arith) ∙ lockstep-start p u))
      (state_wider (length p.program.fields) first ranges (state_in p.opening u) wider (opening u inside))
  stays_by (suc k) u early inside =
      let t : ℕ = p.start + k in
      let before : (v : ℕ) → v < length p.network → IsStateWithin (length p.program.fields) ranges (lockstep p t v) = λ v low. stays_by k v (omega (arith, early)) low in
      let next : p.start + suc k ≡ t + 1 = omega arith in
      subst (λ (s : State). IsStateWithin (length p.program.fields) ranges s) (sym (ap (λ (t : ℕ). lockstep p t u) next ∙ lockstep-more p t u (omega arith)))
      (closed t u (lockstep p t u) (nears_in p.network (lockstep p t) u) (node (length p.program.fields) t u ranges (lockstep p t) inside (omega (arith, early)) before))

  pub stays : (t u : ℕ) → p.start ≤ t → t ≤ most_rounds → u < length p.network → IsStateWithin (length p.program.fields) ranges (lockstep p t u)
  stays t u late early inside =
      let at : p.start + (t - p.start) ≡ t = omega (arith, late) in
      subst (λ (t : ℕ). IsStateWithin (length p.program.fields) ranges (lockstep p t u)) at (stays_by (t - p.start) u (omega (arith, at, early)) inside)

-- such ranges, and the bounds of its network, are limits of its run
pub are_limits : (p : PlanView) (limits : Limits) (first : List Range) → limits.program.now ≡ p.program
    → ((u : ℕ) → u < length p.network → IsStateWithin (length p.program.fields) first (state_in p.opening u)) → AreWider first limits.fields → AreClosed p.program limits.bounds limits.fields
    → ((fields round u : ℕ) (ranges : List Range) (at : ℕ → State) → u < length p.network → round ≤ most_rounds → ((v : ℕ) → v < length p.network → IsStateWithin fields ranges (at v))
    → IsNodeWithin limits.bounds fields ranges round u (at u) (nears_in p.network at u))
    → ((u : ℕ) → degree p.network u ≤ limits.bounds.degree) → AreLimitsOf p limits
are_limits p limits first program opening wider closed node degrees = record {
  program = program;
  within = λ t u late early inside values.
      let states : (v : ℕ) → v < length p.network → IsStateWithin (length limits.program.now.fields) limits.fields (lockstep p t v) =
      λ v low. subst (λ (rules : Rules). IsStateWithin (length rules.fields) limits.fields (lockstep p t v)) (sym program) (stays p limits.bounds first limits.fields opening wider closed node t v late early low) in
      subst (λ (rules : Rules). IsHereWithin limits (here_at rules t u (degree p.network u) (lockstep p t u) (nears_in p.network (lockstep p t) u))) program
      (here_within limits p.network t u (lockstep p t) (degrees u) values (node (length limits.program.now.fields) t u limits.fields (lockstep p t) inside early states));
}

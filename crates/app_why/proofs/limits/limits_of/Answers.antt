use Rattle.std.proofs.Common.{ℕ, ◌≡◌, ◌≤◌, ◌<◌, ◌∙◌, List, ap, arith, length, slice_index, slice_index_or, subst}
use Rattle.rule_check.specs.declared.state.State.{State}
use Rattle.rule_check.specs.Value.{Rules}
use Rattle.rule_ranges.specs.declared.range.Range.{Range}
use Rattle.rule_ranges.specs.Ranges.{IsWithin}
use Rattle.rule_ranges.specs.States.{AreClosed, IsNodeWithin, IsStateWithin}
use Rattle.link_net.specs.Neighbours.{Neighbours, degree}
use Rattle.rounds_plan.specs.Configs.{blank, most_rounds}
use Rattle.rounds_plan.specs.Lockstep.{state_in}
use Rattle.rounds_plan.specs.Rounds.{nears_in}
use Rattle.rule_cuts.specs.declared.limits.Limits.{Limits}
use Rattle.app_why.proofs.Within.{are_limits}
use Rattle.app_why.proofs.limits.limits_of.Goals as goal

pub returns : goal.returns
returns c =
    let p = c.args.plan.now in
    let bounds = c.bounds_of-bounds.result in
    let first = c.ranges_of_states-first.result in
    let fields = c.in_ok-fields.fields in
    let limits : Limits = record { program = c.program-program.result; bounds = bounds; fields = fields } in
    let program = c.program-program.ensures.program in
    let whole = c.nodes-nodes.ensures.whole in
    let states = c.openings.ensures.openings in
    let opening : (u : ℕ) → u < length p.network → IsStateWithin (length p.program.fields) first (state_in p.opening u) =
    λ u inside.
    let there : u < length p.opening = omega (arith, inside, whole.opening) in
    record {
      long = subst (λ (all : List State). length (slice_index_or all u blank).words ≡ 8) states (c.ranges_of_states-first.ensures.long u blank (omega (arith, there, ap length states)));
      plain = whole.plain u blank there;
      within = λ k d low. subst (λ (all : List State). IsWithin (slice_index_or first k d) (slice_index (slice_index_or all u blank).words k)) states (c.ranges_of_states-first.ensures.within u k blank d (omega (arith, there, ap length states)) low);
    } in
    record {
      limits = are_limits p limits first program opening c.in_ok-fields.ensures.first
          (subst (λ (rules : Rules). AreClosed rules bounds fields) (c.in_ok-code.ensures.exact ∙ program) c.in_ok-fields.ensures.closed)
          (subst (λ (network : Neighbours). (count round u : ℕ) (ranges : List Range) (at : ℕ → State) → u < length network → round ≤ most_rounds → ((v : ℕ) → v < length network → IsStateWithin count ranges (at v))
          → IsNodeWithin bounds count ranges round u (at u) (nears_in network at u)) c.rows.ensures.rows c.bounds_of-bounds.ensures.within)
          (subst (λ (network : Neighbours). (u : ℕ) → degree network u ≤ bounds.degree) c.rows.ensures.rows c.bounds_of-bounds.ensures.degree);
    }

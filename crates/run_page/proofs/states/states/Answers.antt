use Rattle.std.proofs.Common.{◌≡◌, ◌∙◌, ℕ, ap, map}
use Rattle.rounds_plan.specs.Plans.{PlanView}
use Rattle.rounds_walk.specs.Walking.{RoundView}
use Rattle.run_watch.specs.Spans.{rounds_in}
use Rattle.serde_json.specs.View.{view}
use Rattle.serde_json.proofs.Views.{view-Array}
use Rattle.run_page.specs.Pages.{listed, numbers, values_at}
use Rattle.run_page.proofs.states.states.Goals as goal

pub returns : goal.returns
returns g c =
    let fields = c.args.fields.now in
    let rounds = rounds_in c.args.span.now in
    let plan : c.in_ok-walk.walk.plan ≡ c.args.plan.now = ap (λ (v : RoundView). v.plan) c.in_ok-walk.ensures.start ∙ c.in_ok-start.ensures.plan ∙ c.of_plan.ensures.plan in
    let made : map view c.in_ok-items.items.items ≡ map (λ (t : ℕ). numbers (values_at c.args.plan.now fields t)) rounds =
    c.in_ok-items.ensures.states ∙ ap (λ (p : PlanView). map (λ (t : ℕ). numbers (values_at p fields t)) rounds) plan in
    view-Array c.in_ok-items.items ∙ ap listed made

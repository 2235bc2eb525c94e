use Rattle.std.proofs.Common.{◌≡◌, ◌∙◌, IfOk, ap, subst}
use Rattle.rounds_plan.specs.Plans.{PlanView}
use Rattle.rounds_walk.specs.Walking.{RoundView}
use Rattle.run_counts.specs.Rows.{AreRows}
use Rattle.run_counts.proofs.rows.counted_rows.Goals as goal

pub returns : goal.returns
returns g c =
    let plan_is : c.in_ok-walk.walk.plan ≡ c.args.plan.now = ap (λ (v : RoundView). v.plan) c.in_ok-walk.ensures.start ∙ c.in_ok-start.ensures.plan in
    record {
      rows = subst (λ (q : PlanView). IfOk c.rows_of.result (λ rows. AreRows q c.args.span.now c.args.counting.now rows.items)) plan_is c.rows_of.ensures.rows;
    }

use Rattle.std.proofs.Common.{◌≤◌, subst, sym}
use Rattle.serde_json.specs.Data.{Data, depth}
use Rattle.serde_json.specs.Read.{max_depth}
use Rattle.run_page.specs.Closed.{IsClosed}
use Rattle.run_page.proofs.Shapes.{rounds_shaped}
use Rattle.run_page.proofs.rounds.text.Goals as goal

pub text_of-requires-clause-closed : goal.text_of-requires-clause-closed
text_of-requires-clause-closed g c = subst IsClosed (sym c.in_ok-page.ensures) (rounds_shaped c.args.plan.now c.args.shown.now).0

pub text_of-requires-clause-shallow : goal.text_of-requires-clause-shallow
text_of-requires-clause-shallow g c = subst (λ (d : Data). depth d ≤ max_depth) (sym c.in_ok-page.ensures) (rounds_shaped c.args.plan.now c.args.shown.now).1

use Rattle.std.proofs.Common.{◌∙◌, sym, ap, ◌≡◌, ◌+◌, ℕ, length, Some}
use Rattle.std.specs.Arc.{arc_value}
use Rattle.rule_check.specs.declared.state.State.{State}
use Rattle.rule_check.specs.declared.state.Sums.{Sums}
use Rattle.rounds_plan.specs.Lockstep.{lockstep}
use Rattle.rounds_plan.specs.Plans.{PlanView}
use Rattle.unison_world.specs.WorkViews.{WorkView, next_of}
use Rattle.unison_world.proofs.Sights.{moves_at}
use Rattle.unison_world.proofs.Standing.{had, standing-had, node_moved, next-had}
use Rattle.unison_world.specs.declared.step.Step.TheVariants.{Write}
use Rattle.unison_world.specs.declared.step.Answer.TheVariants.{Moved}
use Rattle.unison_world.specs.Counting.{answer_of}
use Rattle.unison_world.specs.Pictures.{counts_of}
use Rattle.unison_world.specs.PictureViews.{view_of}
use Rattle.unison_world.specs.Work.{work_for}
use Rattle.unison_world.proofs.world.World.work.Goals.{After-sums}
use Rattle.unison_world.proofs.world.World.work.Goals as goal

abbrev given : After-sums → WorkView
given c = record { plan = arc_value c.in_ok-plan.plan; node = c.args.node; degree = c.degree.result; own = c.now.result; round = c.index-this.result.now.moves; sums = c.sums.result }

-- what is given is what the node has
given_had : (c : After-sums) → given c ≡ had (arc_value c.self.inside.plan) c.args.node c.index-this.result.now
given_had c =
    let plan = arc_value c.self.inside.plan in
    let u = c.args.node in
    let this = c.index-this.result.now in
    let made : PlanView → ℕ → State → Sums → WorkView = λ p n o s. record { plan = p; node = u; degree = n; own = o; round = this.moves; sums = s } in
    ap (λ p. made p c.degree.result c.now.result c.sums.result) c.in_ok-plan.ensures
    ∙ ap (λ n. made plan n c.now.result c.sums.result) c.degree.ensures.count
    ∙ ap (λ o. made plan (length this.desk.marks) o c.sums.result) c.now.ensures.state
    ∙ ap (made plan (length this.desk.marks) this.register.current) c.sums.ensures.sums

moved_here : (c : After-sums) → answer_of (arc_value c.self.inside.plan).network c.self.inside.stop (counts_of c.self.inside.nodes.items) (Write c.args.node) ≡ Moved
moved_here c = sym (rw (← c.self.view_is) at c.in-Moved.ensures.answer)

pub returns-clause-work : goal.returns-clause-work
returns-clause-work c =
    let plan = arc_value c.self.inside.plan in
    let stop = c.self.inside.stop in
    let items = c.self.inside.nodes.items in
    let u = c.args.node in
    let this = c.index-this.result.now in
    let m = node_moved plan stop items u this c.self.invariant.drawn (moved_here c) c.index-this.ensures in
    rw (← c.self.view_is) (ap Some (given_had c ∙ sym (standing-had plan stop items u this m.1 m.2)) ∙ ap (work_for (view_of plan stop items) u) (sym (moved_here c)))

pub returns-clause-next : goal.returns-clause-next
returns-clause-next c =
    let plan = arc_value c.self.inside.plan in
    let items = c.self.inside.nodes.items in
    let u = c.args.node in
    let this = c.index-this.result.now in
    let m = node_moved plan c.self.inside.stop items u this c.self.invariant.drawn (moved_here c) c.index-this.ensures in
    rw (← c.self.view_is) (ap next_of (given_had c) ∙ next-had plan u this m.2 m.3 ∙ ap (λ t. lockstep plan (t + 1) u) (sym (moves_at items u this m.1)))

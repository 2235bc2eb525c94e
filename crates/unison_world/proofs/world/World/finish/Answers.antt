use Rattle.std.proofs.Common.{arith, ◌≡◌, ◌∙◌, sym, ap, ℕ, ◌<◌, length, refl, List, Some, slice_get}
use Rattle.std.proofs.lemmas.List.{length-map}
use Rattle.std.proofs.lemmas.Option.{slice_get_read}
use Rattle.std.specs.Arc.{arc_value}
use Rattle.rule_check.specs.declared.state.State.{State}
use Rattle.rounds_plan.specs.Configs.{Configuration}
use Rattle.rounds_plan.specs.Plans.{PlanView}
use Rattle.unison_world.specs.declared.node.Node.{Node}
use Rattle.unison_world.specs.Counting.{moves_of}
use Rattle.unison_world.specs.Pictures.{counts_of}
use Rattle.unison_world.proofs.Sights.{moves_at}
use Rattle.unison_world.proofs.Plains.{finished_states}
use Rattle.unison_world.proofs.world.World.finish.Goals as goal

pub of-requires-clause-plain : goal.of-requires-clause-plain
of-requires-clause-plain c =
    let plan = arc_value c.self.inside.plan in
    let items = c.self.inside.nodes.items in
    let at_stop : (u : ℕ) → u < length items → moves_of (counts_of items) u ≡ c.args.stop =
    λ u h. (let a = c.in_default.ensures.none u h in let b = c.self.invariant.in_step.within u in omega (arith, a, b, c.if-self-stop.false)) in
    (finished_states plan c.args.plan.now c.args.stop items c.in_ok-states.states.items (sym c.deref.ensures ∙ c.if-not-same.ensures.exact.0 refl) c.self.invariant.drawn at_stop c.in_ok-states.ensures.states).0

pub returns : goal.returns
returns c =
    let plan = arc_value c.self.inside.plan in
    let items = c.self.inside.nodes.items in
    let at_stop : (u : ℕ) → u < length items → moves_of (counts_of items) u ≡ c.args.stop =
    λ u h. (let a = c.in_default.ensures.none u h in let b = c.self.invariant.in_step.within u in omega (arith, a, b, c.if-self-stop.false)) in
    let same = sym c.deref.ensures ∙ c.if-not-same.ensures.exact.0 refl in
    let f = finished_states plan c.args.plan.now c.args.stop items c.in_ok-states.states.items same c.self.invariant.drawn at_stop c.in_ok-states.ensures.states in
    let show : List State → Configuration = λ ss. record { rounds = c.args.stop; fields = length c.args.plan.now.program.fields; states = ss } in
    rw (← c.self.view_is) (record {
      answer = (
        (same, c.if-self-stop.false),
        λ u h. (let a = at_stop u (omega (arith, h, c.self.invariant.drawn.one_each)) in a ∙ sym c.if-self-stop.false),
        c.of.ensures.parts ∙ ap show f.1,
      );
      memory = tt;
    })

pub of-requires-clause-nodes : goal.of-requires-clause-nodes
of-requires-clause-nodes c =
    let items = c.self.inside.nodes.items in
    let same = sym c.deref.ensures ∙ c.if-not-same.ensures.exact.0 refl in
    let many = ap length c.in_ok-states.ensures.states ∙ length-map items (λ (n : Node). n.register.current) ∙ c.self.invariant.drawn.one_each ∙ ap (λ (p : PlanView). length p.network) same in
    omega (arith, many)

pub returns-in-Some-clause-answer : goal.returns-in-Some-clause-answer
returns-in-Some-clause-answer c =
    let items = c.self.inside.nodes.items in
    let first = c.in-Some.ensures in
    let at : slice_get items c.in-Some.node ≡ Some c.index.result.now = slice_get_read items (length items) c.in-Some.node c.index.result.now refl first.inside c.index.ensures in
    let moves = moves_at items c.in-Some.node c.index.result.now at in
    let inside : c.in-Some.node < length (arc_value c.self.inside.plan).network = omega (arith, first.inside, c.self.invariant.drawn.one_each) in
    rw (← c.self.view_is) (
      (sym c.deref.ensures ∙ c.if-not-same.ensures.exact.0 refl, c.if-self-stop.false),
      inside,
      sym moves,
      (rw moves at first.below),
      λ u h. (let least = first.least u h in let most = c.self.invariant.in_step.within u in omega (arith, least, most)),
    )

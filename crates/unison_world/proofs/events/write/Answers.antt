use Rattle.std.proofs.Common.{arith, ◌≡◌, ◌∙◌, sym, ap, refl}
use Rattle.std.proofs.lemmas.Bool.{false≢true}
use Rattle.link_net.specs.Neighbours.{degree}
use Rattle.unison_world.specs.declared.node.Node.{Node}
use Rattle.unison_world.specs.Counting.{change}
use Rattle.unison_world.specs.Pictures.{counts_of, moved_node}
use Rattle.unison_world.specs.declared.step.Step.TheVariants.{Write}
use Rattle.unison_world.proofs.Sights.{moves_at, same_node}
use Rattle.unison_world.proofs.Taken.{drawn-set}
use Rattle.unison_world.proofs.Writes.{Unstopped, unstopped_here, ready_marked, unready_marked, answer-ready, answer-unready, counts-moved, picture-moved, Completes, next-is}
use Rattle.std.proofs.Common.{ℕ, List, set}
use Rattle.rule_check.specs.declared.state.State.{State}
use Rattle.rounds_plan.specs.Plans.{PlanView}
use Rattle.unison_node.specs.Desks.{IsReady}
use Rattle.unison_world.specs.declared.step.Answer.TheVariants as answer
use Rattle.unison_world.specs.Counting.{answer_of, after}
use Rattle.unison_world.specs.Pictures.{IsDrawn}
use Rattle.unison_world.proofs.events.write.Goals as goal

pub returns-then-not-ready-clause-answer : goal.returns-then-not-ready-clause-answer
returns-then-not-ready-clause-answer c =
    let items = c.args.nodes.now.items in
    let f = unstopped_here c.args.plan.now c.args.stop items c.args.node c.index-mover.result.now c.requires.drawn (omega arith) c.index-mover.ensures c.if-mover-stop.false in
    answer-unready c.args.plan.now.network c.args.stop (counts_of items) c.args.node f.inside f.unstopped
    (unready_marked items c.args.node (degree c.args.plan.now.network c.args.node) c.index-mover.result.now f.at f.picture.slots (λ r. false≢true (c.if-not-ready.ensures.all.1 r)))

pub returns-then-not-ready-clause-counts : goal.returns-then-not-ready-clause-counts
returns-then-not-ready-clause-counts c =
    let items = c.args.nodes.now.items in
    ap (change (counts_of items) (Write c.args.node)) (returns-then-not-ready-clause-answer c)

pub advance-requires : goal.advance-requires
advance-requires c =
    let items = c.args.nodes.now.items in
    let f = unstopped_here c.args.plan.now c.args.stop items c.args.node c.index-mover.result.now c.requires.drawn (omega arith) c.index-mover.ensures c.if-mover-stop.false in
    let e = same_node items c.args.node c.index-mover.result.now c.index_mut.result.now (omega arith) c.index-mover.ensures c.index_mut.ensures.value in
    let m = ap (λ (n : Node). n.moves) e in
    let w = c.requires.in_step.within c.args.node in
    let v = moves_at items c.args.node c.index-mover.result.now f.at in
    record { below = omega arith }

-- what the move of a ready node leaves
module _ (plan : PlanView) (stop : ℕ) (nodes : List Node) (u : ℕ) (this : Node) (f : Unstopped plan stop nodes u this) (ready : IsReady this.desk) where
  answers_moved : answer.Moved ≡ answer_of plan.network stop (counts_of nodes) (Write u)
  answers_moved = sym (answer-ready plan.network stop (counts_of nodes) u f.inside f.unstopped (ready_marked nodes u (degree plan.network u) this f.at f.picture.slots ready))

  module _ (s : State) (completes : Completes plan u this s) where
    moves_counts : counts_of (set nodes u (moved_node plan.program this s)) ≡ after plan.network stop (counts_of nodes) (Write u)
    moves_counts = counts-moved plan.program nodes u this s f.at ∙ ap (change (counts_of nodes) (Write u)) answers_moved

    moves_drawn : IsDrawn plan nodes → IsDrawn plan (set nodes u (moved_node plan.program this s))
    moves_drawn drawn = drawn-set plan nodes u (moved_node plan.program this s) drawn (picture-moved plan u this s f.picture (next-is plan u this s f.picture ready completes))

pub returns-clause-answer : goal.returns-clause-answer
returns-clause-answer c =
    let f = unstopped_here c.args.plan.now c.args.stop c.args.nodes.now.items c.args.node c.index-mover.result.now c.requires.drawn (omega arith) c.index-mover.ensures c.if-mover-stop.false in
    answers_moved c.args.plan.now c.args.stop c.args.nodes.now.items c.args.node c.index-mover.result.now f (c.if-not-ready.ensures.all.0 refl)

pub returns-clause-counts : goal.returns-clause-counts
returns-clause-counts c =
    let items = c.args.nodes.now.items in
    let this = c.index-mover.result.now in
    let f = unstopped_here c.args.plan.now c.args.stop items c.args.node this c.requires.drawn (omega arith) c.index-mover.ensures c.if-mover-stop.false in
    let same = same_node items c.args.node this c.index_mut.result.now (omega arith) c.index-mover.ensures c.index_mut.ensures.value in
    let completes : Completes c.args.plan.now c.args.node this c.next-state.result = rw c.program-program.ensures.program at c.next-state.ensures.completes in
    rw c.advance.ensures.moved (rw (← same) (rw c.program-program.ensures.program
    (moves_counts c.args.plan.now c.args.stop items c.args.node this f (c.if-not-ready.ensures.all.0 refl) c.next-state.result completes)))

pub returns-clause-drawn : goal.returns-clause-drawn
returns-clause-drawn c =
    let items = c.args.nodes.now.items in
    let this = c.index-mover.result.now in
    let f = unstopped_here c.args.plan.now c.args.stop items c.args.node this c.requires.drawn (omega arith) c.index-mover.ensures c.if-mover-stop.false in
    let same = same_node items c.args.node this c.index_mut.result.now (omega arith) c.index-mover.ensures c.index_mut.ensures.value in
    let completes : Completes c.args.plan.now c.args.node this c.next-state.result = rw c.program-program.ensures.program at c.next-state.ensures.completes in
    rw c.advance.ensures.moved (rw (← same) (rw c.program-program.ensures.program
    (moves_drawn c.args.plan.now c.args.stop items c.args.node this f (c.if-not-ready.ensures.all.0 refl) c.next-state.result completes c.requires.drawn)))

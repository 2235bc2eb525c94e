use Rattle.std.proofs.Common.{arith, ◌≡◌, ◌∙◌, ◌+◌, ◌-◌, ◌<◌, ◌≤◌, min, ap, sym, subst, length}
use Rattle.std.specs.List.{range_with_len}
use Rattle.link_net.specs.Neighbours.{numbers_below}
use Rattle.unison_world.specs.Counting.{Counts, moves_of}
use Rattle.unison_world.specs.Pictures.{counts_of}
use Rattle.unison_world.specs.Turns.{after_turn, after_turns, moves_in_turns, one_if_moved, turn_answer}
use Rattle.unison_world.proofs.Wholes.{shape-drawn}
use Rattle.unison_world.proofs.Sweepings.{turns-next, moves-next, sweep-rises}
use Rattle.unison_world.proofs.turns.sweep.Goals as goal

pub loop-node-preserved : goal.loop-node-preserved
loop-node-preserved c =
    let network = c.args.plan.now.network in
    let stop = c.args.stop in
    let n = length network in
    let i = c.loop-node.invariant in
    let u = c.loop-node.node in
    let cs = counts_of c.loop-node.nodes.items in
    let rest = range_with_len (u + 1) (n - (u + 1)) in
    let many = c.nodes-node-end.ensures.count in
    let inside : u < n = omega (arith, many, c.loop-node-test.true) in
    let turned = c.turn-turned.ensures in
    let one : c.moves_in-moves.result ≡ one_if_moved (turn_answer network stop cs u) = c.moves_in-moves.ensures.count ∙ ap one_if_moved turned.answer in
    let next = moves-next network stop cs u n inside in
    let left : moves_in_turns network stop (counts_of c.turn-turned.new.nodes.items) rest ≡ moves_in_turns network stop (after_turn network stop cs u) rest =
    ap (λ (x : Counts). moves_in_turns network stop x rest) turned.counts in
    record {
      counts = ap (λ (x : Counts). after_turns network stop x rest) turned.counts ∙ sym (turns-next network stop cs u n inside) ∙ i.counts;
      moves = omega (arith, one, next, left, i.moves);
      steps = omega (arith, turned.steps, i.steps);
      some = omega (arith, i.some, c.moves_in-moves.ensures.most);
      few = omega (arith, i.few, turned.few, c.requires.network.degrees u);
      drawn = turned.drawn;
      in_step = turned.in_step;
    }

pub returns-clause-rises : goal.returns-clause-rises
returns-clause-rises c m all u h =
    let plan = c.args.plan.now in
    let network = plan.network in
    let cs = counts_of c.args.nodes.now.items in
    let last = counts_of c.loop-node.nodes.items in
    let many = c.nodes-node-end.ensures.count in
    let none : length network - c.loop-node.node ≡ 0 = omega (arith, many, c.loop-node-test.false) in
    let e : last ≡ after_turns network c.args.stop cs (numbers_below (length network)) =
    sym (ap (λ k. after_turns network c.args.stop last (range_with_len c.loop-node.node k)) none) ∙ c.loop-node.invariant.counts in
    subst (λ (x : Counts). min (m + 1) c.args.stop ≤ moves_of x u) (sym e)
    (sweep-rises network c.args.stop cs m c.requires.drawn.well_formed.network (shape-drawn plan c.args.nodes.now.items c.requires.drawn) all u h)

use Rattle.std.proofs.Common.{arith, ◌≡◌, ◌∙◌, ap, sym, refl, ◌<◌, ◌≢◌, length, slice_get, Some, map}
use Rattle.std.proofs.lemmas.Option.{slice_get_read}
use Rattle.link_net.specs.Neighbours.{degree, numbers_below}
use Rattle.unison_world.specs.declared.step.Step.TheVariants.{Read, Write}
use Rattle.unison_world.specs.Counting.{after, moves_of}
use Rattle.unison_world.specs.Pictures.{counts_of}
use Rattle.unison_world.proofs.Steps.{in_step-after}
use Rattle.unison_world.proofs.Sights.{moves_at}
use Rattle.unison_world.proofs.Wholes.{shape-drawn}
use Rattle.unison_world.proofs.Turnings.{run-snoc, run-all, turn-moves, turn-moved, turn-free}
use Rattle.unison_world.specs.Progress.{steps_done, one_if_changed}
use Rattle.unison_world.proofs.Progressing.{done-after}
use Rattle.unison_world.proofs.turns.turn.Goals as goal

pub returns-clause-counts : goal.returns-clause-counts
returns-clause-counts c =
    let plan = c.args.plan.now in
    let items = c.args.nodes.now.items in
    let u = c.args.node in
    let this = c.index.result.now in
    let inside : u < length plan.network = omega (arith, c.if-mover-len.false, c.requires.drawn.one_each) in
    let at : slice_get items u ≡ Some this = slice_get_read items (length items) u this refl (omega (arith, inside, c.requires.drawn.one_each)) c.index.ensures in
    let ne : moves_of (counts_of items) u ≢ c.args.stop = rw (moves_at items u this at) c.if-index-stop.false in
    let moves = turn-moves plan.network c.args.stop (counts_of items) u inside ne (sym c.if-some_behind.ensures.behind) in
    let shape = shape-drawn plan items c.requires.drawn in
    c.write.ensures.counts
    ∙ ap (λ x. after plan.network c.args.stop x (Write u)) c.read_all-taken.ensures.counts
    ∙ sym (run-snoc plan.network c.args.stop (counts_of items) (map (λ j. Read u j) (numbers_below (degree plan.network u))) (Write u))
    ∙ run-all plan.network c.args.stop (counts_of items) u (turn-free plan.network c.args.stop (counts_of items) u shape moves)
    ∙ sym (turn-moved plan.network c.args.stop (counts_of items) u shape moves)

pub returns-clause-in_step : goal.returns-clause-in_step
returns-clause-in_step c =
    let plan = c.args.plan.now in
    rw c.write.ensures.counts (in_step-after plan.network c.args.stop (counts_of c.read_all-taken.new.nodes.items) (Write c.args.node) c.read_all-taken.ensures.drawn.well_formed.network (shape-drawn plan c.read_all-taken.new.nodes.items c.read_all-taken.ensures.drawn) c.read_all-taken.ensures.in_step)

pub returns-clause-steps : goal.returns-clause-steps
returns-clause-steps c =
    let plan = c.args.plan.now in
    let read = c.read_all-taken.new.nodes.items in
    let wrote = ap (steps_done plan.network) c.write.ensures.counts ∙ done-after plan.network c.args.stop (counts_of read) (Write c.args.node) (shape-drawn plan read c.read_all-taken.ensures.drawn) in
    let one = c.steps_in-made.ensures.count ∙ ap one_if_changed c.write.ensures.answer in
    omega (arith, wrote, one, c.read_all-taken.ensures.steps)

use Rattle.std.proofs.Common.{arith, ◌≡◌, ◌∙◌, ap, sym, refl, ◌+◌, length, slice_get, Some, map}
use Rattle.std.proofs.lemmas.Option.{slice_get_read}
use Rattle.std.specs.List.{range_with_len}
use Rattle.link_net.specs.Neighbours.{degree}
use Rattle.unison_world.specs.declared.step.Step.TheVariants.{Read}
use Rattle.unison_world.specs.Counting.{after, run}
use Rattle.unison_world.specs.Pictures.{counts_of}
use Rattle.unison_world.proofs.Steps.{in_step-after}
use Rattle.unison_world.proofs.Wholes.{shape-drawn}
use Rattle.unison_world.proofs.Turnings.{reads-more}
use Rattle.unison_world.proofs.Progressing.{done-after}
use Rattle.unison_world.specs.Progress.{steps_done, one_if_changed}
use Rattle.unison_world.proofs.turns.read_all.Goals as goal

pub loop-slot-preserved : goal.loop-slot-preserved
loop-slot-preserved c =
    let plan = c.args.plan.now in
    let i = c.loop-slot.invariant in
    let items = c.loop-slot.nodes.items in
    let shape = shape-drawn plan items i.drawn in
    let step = Read c.args.node c.loop-slot.slot in
    let more : steps_done plan.network (counts_of c.read.new.nodes.items) ≡ steps_done plan.network (counts_of items) + c.steps_in-taken.result =
    ap (steps_done plan.network) c.read.ensures.counts ∙ done-after plan.network c.args.stop (counts_of items) step shape
    ∙ ap (λ n. steps_done plan.network (counts_of items) + n) (sym (c.steps_in-taken.ensures.count ∙ ap one_if_changed c.read.ensures.answer)) in
    record {
      counts = c.read.ensures.counts ∙ ap (λ x. after plan.network c.args.stop x step) i.counts
          ∙ sym (reads-more plan.network c.args.stop (counts_of c.args.nodes.now.items) c.args.node c.loop-slot.slot);
      drawn = c.read.ensures.drawn;
      in_step = rw c.read.ensures.counts (in_step-after plan.network c.args.stop (counts_of items) step i.drawn.well_formed.network shape i.in_step);
      steps = omega (arith, more, i.steps);
      few = omega (arith, i.few, c.steps_in-taken.ensures.most);
    }

pub returns-clause-counts : goal.returns-clause-counts
returns-clause-counts c =
    let plan = c.args.plan.now in
    let items = c.args.nodes.now.items in
    let this = c.index.result.now in
    let at : slice_get items c.args.node ≡ Some this = slice_get_read items (length items) c.args.node this refl c.requires.node c.index.ensures in
    let p = c.requires.drawn.each c.args.node this at in
    let end : c.loop-slot.slot ≡ degree plan.network c.args.node = omega (arith, p.slots, c.degree-slot-end.ensures.count) in
    c.loop-slot.invariant.counts ∙ ap (λ n. run plan.network c.args.stop (counts_of items) (map (λ j. Read c.args.node j) (range_with_len 0 n))) end

pub returns-clause-few : goal.returns-clause-few
returns-clause-few c =
    let items = c.args.nodes.now.items in
    let this = c.index.result.now in
    let at : slice_get items c.args.node ≡ Some this = slice_get_read items (length items) c.args.node this refl c.requires.node c.index.ensures in
    let p = c.requires.drawn.each c.args.node this at in
    omega (arith, p.slots, c.degree-slot-end.ensures.count, c.loop-slot.invariant.few)

use Rattle.std.proofs.Common.{◌∙◌}
use Rattle.rounds_blocks.proofs.Slots.{falling_degrees, made_slot}
use Rattle.rounds_blocks.proofs.batch.slot_of.Goals as goal

pub count_in-count-requires : goal.count_in-count-requires
count_in-count-requires c = record { falling = falling_degrees c.args.network.now c.args.nodes.now c.args.degrees.now c.requires.degrees c.requires.falling }

pub returns : goal.returns
returns c = record {
  exact =
      let e = c.count_in-count.ensures in
      made_slot c.args.network.now c.args.nodes.now c.args.degrees.now c.args.slot c.count_in-count.result
      (record { neighbours = c.in_ok-places.places; weights = c.new-kept.result })
      c.requires.degrees e.few e.have e.lack (c.in_ok-places.ensures.exact ∙ c.in_ok-neighbours.ensures.exact) (c.new-kept.ensures.exact ∙ c.in_ok-weights.ensures.exact);
}

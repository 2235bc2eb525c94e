use Rattle.std.proofs.Common.{refl}
use Rattle.import_network.specs.LinkPacking.{packing_in}
use Rattle.import_network.proofs.LinkPacks.{made_so}
use Rattle.import_network.proofs.packing.packed_network.Goals as goal

pub returns-in_ok-network-in-Ok-clause-made : goal.returns-in_ok-network-in-Ok-clause-made
returns-in_ok-network-in-Ok-clause-made c =
    made_so c.args.options.now c.args.nodes c.args.links.now c.in-Ok.packed (packing_in c.args.nodes c.args.options.now c.args.links.now) refl c.in-Ok.ensures.answer c.in_ok-network-in-Ok.ensures.reads_back refl refl c.count_rounded.ensures

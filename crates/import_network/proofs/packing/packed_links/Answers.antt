use Rattle.std.proofs.Common.{List}
use Rattle.large_pack.specs.declared.edge_line.EdgeLine.{EdgeLine}
use Rattle.large_pack.specs.declared.options.PackOptions.{PackOptions}
use Rattle.large_pack.proofs.Rising.{lines_rise, ranked_below, all_tied}
use Rattle.large_pack.proofs.Sounds.{AreSound, sound_edges}
use Rattle.import_network.specs.LinkPacking.{edges_from}
use Rattle.import_network.proofs.LinkPacks.{places_rise}
use Rattle.import_network.proofs.packing.packed_links.Goals as goal

abbrev here : (c : goal.After-options-3-1) → PackOptions
here c = c.named_options-options.result

abbrev edges_here : (c : goal.After-options-3-1) → List EdgeLine
edges_here c = edges_from (here c).reverse 0 c.args.links.now

sound_here : (c : goal.After-options-3-1) → AreSound (here c) (edges_here c) c.in_ok-count.count
sound_here c = sound_edges (here c) (edges_here c) c.in_ok-count.count c.in_ok-count.ensures

pub pack_ranked-requires-clause-some : goal.pack_ranked-requires-clause-some
pack_ranked-requires-clause-some c = (sound_here c).some

pub pack_ranked-requires-clause-within : goal.pack_ranked-requires-clause-within
pack_ranked-requires-clause-within c = rw (c.in_ok-edges.ensures) (ranked_below (here c) c.in_ok-count.count (edges_here c) (sound_here c).within)

pub pack_ranked-requires-clause-rising : goal.pack_ranked-requires-clause-rising
pack_ranked-requires-clause-rising c = rw (c.in_ok-edges.ensures) (lines_rise (here c) (edges_here c) (places_rise (here c).reverse 0 c.args.links.now))

pub pack_ranked-requires-clause-tied : goal.pack_ranked-requires-clause-tied
pack_ranked-requires-clause-tied c h = rw (c.in_ok-edges.ensures) (all_tied (here c) (edges_here c) h)

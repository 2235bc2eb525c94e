use Rattle.import_formats.specs.matrix_market.Matrices.{links_left}
use Rattle.import_network.proofs.EntrySteps.{tied}
use Rattle.import_network.proofs.packed_matrix.pack.pack_matrix.Goals as goal

pub pack_ranked-requires-clause-tied : goal.pack_ranked-requires-clause-tied
pack_ranked-requires-clause-tied c h = tied c.packing-packing.result (links_left c.in_ok-entries.entries) c.in_ok-edges.edges.items c.in_ok-edges.ensures.edges h

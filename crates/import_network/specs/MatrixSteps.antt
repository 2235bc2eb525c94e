-- Internal: entries that are read one after another. No public clause cites it.
use Rattle.std.specs.Prelude.{List, map, Result, Ok}
use Rattle.import_links.specs.declared.placed.PlacedLink.{PlacedLink}
use Rattle.import_formats.specs.declared.matrix_market.fault.MatrixFault.{MatrixFault}
use Rattle.import_formats.specs.matrix_market.Steps.{and_then}
use Rattle.large_pack.specs.declared.options.PackOptions.{PackOptions}
use Rattle.large_pack.specs.declared.ranked.Ranked.{Ranked}
use Rattle.large_pack.specs.Ranks.{ranked}
use Rattle.import_network.specs.Entries.{edges_of}

-- the edges of entries, as they are compared
abbrev pub ranked_in : PackOptions → Result (List PlacedLink) MatrixFault → Result (List Ranked) MatrixFault
ranked_in options read = and_then read (λ links. Ok (map (ranked options) (edges_of links)))

-- The edges of entries, read one after another.
use Rattle.std.proofs.Common.{◌≡◌, true, List, ◌++◌, map, Option, Result, Ok, Err}
use Rattle.std.specs.Option.{option_or}
use Rattle.import_links.specs.declared.placed.PlacedLink.{PlacedLink}
use Rattle.import_formats.specs.declared.matrix_market.fault.MatrixFault.{MatrixFault}
use Rattle.import_formats.specs.matrix_market.Steps.{and_then}
use Rattle.large_pack.specs.declared.options.PackOptions.{PackOptions}
use Rattle.large_pack.specs.declared.options.SelfLoops.{SelfLoops}
use Rattle.large_pack.specs.declared.fault.PackFault.{PackFault}
use Rattle.large_pack.specs.declared.ranked.Ranked.{Ranked}
use Rattle.large_pack.specs.Sound.{loop_fault, first_fault}
use Rattle.large_pack.specs.Packing.{refuses}
use Rattle.large_pack.specs.Ranks.{ranked, AreTied}
use Rattle.large_pack.proofs.Rising.{all_tied}
use Rattle.import_network.specs.Entries.{edges_of}
use Rattle.import_network.specs.MatrixSteps.{ranked_in}

-- the first fault of self-loops, after entries that told so_far
abbrev pub loops_after : SelfLoops → Option PackFault → Result (List PlacedLink) MatrixFault → Result (Option PackFault) MatrixFault
loops_after self_loops so_far read = and_then read (λ links. Ok (option_or so_far (first_fault (loop_fault self_loops) (edges_of links))))

-- the edges so far before those that are left
abbrev pub with_front : PackOptions → List Ranked → Result (List PlacedLink) MatrixFault → Result (List Ranked) MatrixFault
with_front options front read = and_then read (λ links. Ok (front ++ map (ranked options) (edges_of links)))

-- edges none of which is ranked before another
pub tied : (options : PackOptions) (left : Result (List PlacedLink) MatrixFault) (items : List Ranked) → ranked_in options left ≡ Ok items → refuses options.parallel ≡ true → AreTied items
tied options (Ok links) items read h =
    let same : map (ranked options) (edges_of links) ≡ items = cc in
    rw (← same) (all_tied options (edges_of links) h)
tied options (Err fault) items read h = cc

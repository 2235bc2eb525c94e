-- Links that are packed, place by place.
use Rattle.std.proofs.Common.{◌≡◌, ℕ, ◌+◌, ◌<◌, Bool, true, false, List, [], ◌∷◌, map, refl, ap, ◌∙◌, arith, Option, Some, None, Result, Ok, Err}
use Rattle.std.specs.Prelude.{count_by}
use Rattle.std.specs.List.{AllByRecursion}
use Rattle.import_links.specs.declared.placed.PlacedLink.{PlacedLink}
use Rattle.large_pack.specs.declared.edge_line.EdgeLine.{EdgeLine}
use Rattle.large_pack.specs.declared.fault.PackFault.{PackFault}
use Rattle.large_pack.specs.declared.pack.Packed.{Packed}
use Rattle.large_pack.specs.Packing.{Packing, IsAnswer}
use Rattle.large_pack.specs.declared.options.PackOptions.{PackOptions}
use Rattle.large_pack.specs.Sound.{first_fault}
use Rattle.large_pack.proofs.Rising.{Rise}
use Rattle.large_net.specs.File.{large_of}
use Rattle.import_formats.specs.matrix_market.Steps.{told_as}
use Rattle.import_network.specs.declared.imported.Imported.{Imported}
use Rattle.import_network.specs.Drafts.{IsPacked, is_rounded}
use Rattle.import_network.specs.LinkPacking.{edge_at, edges_from, pack_fault, packing_in}

-- places rise
later_places : (r : Bool) (k n : ℕ) (ps : List PlacedLink) → k < n → AllByRecursion (λ j. k < j) (map (λ (e : EdgeLine). e.line) (edges_from r n ps))
later_places r k n [] low = tt
later_places true k n (p ∷ ps) low = (low, later_places true k (n + 1) ps (omega arith))
later_places false k n (p ∷ ps) low = (low, later_places false k (n + 1) ps (omega arith))

pub places_rise : (r : Bool) (n : ℕ) (ps : List PlacedLink) → Rise (map (λ (e : EdgeLine). e.line) (edges_from r n ps))
places_rise r n [] = tt
places_rise true n (p ∷ ps) = (later_places true n (n + 1) ps (omega arith), places_rise true (n + 1) ps)
places_rise false n (p ∷ ps) = (later_places false n (n + 1) ps (omega arith), places_rise false (n + 1) ps)

-- a link without a fault is passed over
pub passed : (r : Bool) (fault_of : EdgeLine → Option PackFault) (k : ℕ) (p : PlacedLink) (ps rest : List PlacedLink) → ps ≡ p ∷ rest → fault_of (edge_at r k p) ≡ None
    → first_fault fault_of (edges_from r (k + 1) rest) ≡ first_fault fault_of (edges_from r k ps)
passed r fault_of k p ps rest shape none = rw (shape, none) refl

-- a link with one is the first
pub found : (r : Bool) (fault_of : EdgeLine → Option PackFault) (k : ℕ) (p : PlacedLink) (ps rest : List PlacedLink) (fault : PackFault) → ps ≡ p ∷ rest → fault_of (edge_at r k p) ≡ Some fault
    → first_fault fault_of (edges_from r k ps) ≡ Some fault
found r fault_of k p ps rest fault shape some = rw (shape, some) refl

-- what was packed is the packing of the links

pub made_so : {imported : Imported} (o : PackOptions) (nodes : ℕ) (ps : List PlacedLink) (packed : Packed) (defined : Result Packing PackFault) → packing_in nodes o ps ≡ defined → IsAnswer defined (Ok packed)
    → large_of imported.network.items ≡ Ok packed.network → imported.dropped ≡ packed.dropped_loops → imported.merged ≡ packed.merged → imported.rounded ≡ count_by is_rounded ps
    → IsPacked o (record { nodes = nodes; links = ps }) imported
made_so o nodes ps packed (Ok packing) is so file dropped merged rounded = record {
  packing = packing;
  is_packed = ap (told_as (pack_fault ps)) is;
  rows = packed.network;
  has_arcs = so.network;
  network = file;
  dropped = dropped ∙ so.dropped_loops;
  merged = merged ∙ so.merged;
  rounded = rounded;
}
made_so o nodes ps packed (Err fault) is so file dropped merged rounded = absurd so

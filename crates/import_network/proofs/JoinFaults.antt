-- Why edges whose ends are names make no network.
use Rattle.std.proofs.Common.{◌≡◌, ◌≢◌, ℕ, List, length, Result, Ok, Err, IfErr}
use Rattle.net_text.specs.Listing.{Listing}
use Rattle.net_names.specs.Naming.{AreNames}
use Rattle.import_lines.specs.Named.{NamedEdge}
use Rattle.import_links.specs.declared.join_fault.JoinFault.{JoinFault}
use Rattle.import_links.specs.Joining.{names_with, links_of}
use Rattle.import_links.specs.declared.placed.PlacedLink.{PlacedLink}
use Rattle.import_network.specs.declared.making.Making.{Making}
use Rattle.import_links.specs.declared.settle_fault.SettleFault.{SettleFault}
use Rattle.import_links.specs.declared.settle_fault.SettleFault.TheVariants.{SelfLoop, ParallelEdge, Net, Memory as SettleMemory}
use Rattle.import_formats.specs.matrix_market.Steps.{and_then, told_as}
use Rattle.import_links.specs.Settling.{settled}
use Rattle.large_pack.specs.declared.fault.PackFault.{PackFault}
use Rattle.large_pack.specs.declared.fault.PackFault.TheVariants as pack
use Rattle.large_pack.specs.Packing as packing
use Rattle.import_network.specs.declared.making.Making.TheVariants.{File, Packed}
use Rattle.import_network.specs.LinkPacking.{pack_fault, packing_in}
use Rattle.import_network.specs.declared.fault.ImportFault.{ImportFault}
use Rattle.import_network.specs.declared.fault.ImportFault.TheVariants.{Edges, Table, Matrix, Dot, Json, Join, Numbers, Settle, Packing, Memory}
use Rattle.import_network.specs.declared.imported.Imported.{Imported}
use Rattle.import_network.specs.Faults.{settle_fault}
use Rattle.import_network.specs.Drafts.{Draft, named_draft, made}
use Rattle.import_network.specs.Naming.{IsJoinFault}

-- links that make no network are no fault of a name
not_filed : (r : Result Listing SettleFault) (fault : JoinFault) → and_then (told_as settle_fault r) (λ _. Ok (tt {0})) ≡ Err (Join fault) → ⊥
not_filed (Ok listing) fault h = cc
not_filed (Err (SelfLoop line)) fault h = cc
not_filed (Err (ParallelEdge line first)) fault h = cc
not_filed (Err (Net why)) fault h = cc
not_filed (Err SettleMemory) fault h = cc

not_packed : (ps : List PlacedLink) (r : Result packing.Packing PackFault) (fault : JoinFault) → and_then (told_as (pack_fault ps) r) (λ _. Ok (tt {0})) ≡ Err (Join fault) → ⊥
not_packed ps (Ok packing) fault h = cc
not_packed ps (Err (pack.BadLine line why)) fault h = cc
not_packed ps (Err pack.NoNode) fault h = cc
not_packed ps (Err (pack.NodeOutside line node)) fault h = cc
not_packed ps (Err (pack.SelfLoop line)) fault h = cc
not_packed ps (Err (pack.ParallelEdge line earlier)) fault h = cc
not_packed ps (Err pack.TooManyEdges) fault h = cc
not_packed ps (Err pack.Memory) fault h = cc

not_join : (making : Making) (draft : Draft) (fault : JoinFault) → made making draft ≡ Err (Join fault) → ⊥
not_join (File mending) draft fault h = not_filed (settled draft.nodes mending draft.links) fault h
not_join (Packed options) draft fault h = not_packed draft.links (packing_in draft.nodes options draft.links) fault h

-- the fault of the links, where each end has a number
settle_refused : (making : Making) (names : List (List ℕ)) (edges : List NamedEdge) (fault : ImportFault) → AreNames (names_with names edges) → (fault ≢ Memory → made making (named_draft names edges) ≡ Err fault) → IsJoinFault making names edges fault
settle_refused making names edges (Edges why) are told = (are, told (λ e. cc))
settle_refused making names edges (Table why) are told = (are, told (λ e. cc))
settle_refused making names edges (Matrix why) are told = (are, told (λ e. cc))
settle_refused making names edges (Dot why) are told = (are, told (λ e. cc))
settle_refused making names edges (Json why) are told = (are, told (λ e. cc))
settle_refused making names edges (Join why) are told = absurd (not_join making (named_draft names edges) why (told (λ e. cc)))
settle_refused making names edges (Numbers why) are told = (are, told (λ e. cc))
settle_refused making names edges (Settle why) are told = (are, told (λ e. cc))
settle_refused making names edges (Packing why) are told = (are, told (λ e. cc))
settle_refused making names edges Memory are told = tt

-- the same of what was returned, where the names and the links are those of the edges
pub finish_refused : (making : Making) (edges : List NamedEdge) (given names : List (List ℕ)) (nodes : ℕ) (links : List PlacedLink) (r : Result Imported ImportFault) →
    names ≡ names_with given edges → nodes ≡ length names → links ≡ links_of given edges → AreNames names →
    IfErr r (λ fault. fault ≢ Memory → made making (record { nodes = nodes; links = links }) ≡ Err fault) → IfErr r (IsJoinFault making given edges)
finish_refused making edges given names nodes links (Ok imported) named count linked are told = tt
finish_refused making edges given names nodes links (Err fault) named count linked are told =
    settle_refused making given edges fault (rw named at are) (rw (count, named, linked) at told)

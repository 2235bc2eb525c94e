-- Why a network file is refused, with the place. Links, and entries of arrays, are counted from 0.
use Rattle.std.specs.Prelude.{◌≡◌, ◌⊎◌, ℕ, ◌-◌, ◌<◌, ◌≤◌, true, false, Bool, List, length, take, slice_get, string_bytes, nat_lt, codes, is_none, zero, suc, Option, Some, None, option_and_then, IsSome, IsSomeAnd, Result, Ok, Err, position, find}
use Rattle.toml.specs.Data.{Data, Items, no_items, item, Members, get_member, as_integer, as_array, as_table}
use Rattle.link_net.specs.declared.cause.NetCause.{NetCause}
use Rattle.link_net.specs.declared.cause.NetCause.TheVariants as cause
use Rattle.link_net.specs.declared.draft.Draft.{Draft}
use Rattle.link_net.specs.declared.fault.NetFault.{NetFault}
use Rattle.link_net.specs.declared.fault.NetFault.TheVariants as fault
use Rattle.link_net.specs.Document.{is_known, pair_of, link_of, draft_of}
use Rattle.link_net.specs.Limits.{most_nodes, most_links, most_neighbours}
use Rattle.link_net.specs.Links.{is_self_link, joins, has_link_twice, linked_with}
use Rattle.link_net.specs.Neighbours.{numbers_below}
use Rattle.link_net.specs.Reading.{number_in, placed, all_placed, document_of}
use Rattle.link_net.specs.Tables.{is_off}

-- the fault that a cause is told by
abbrev pub fault_of : NetCause → NetFault
fault_of (cause.NotToml at message) = fault.NotToml
fault_of (cause.UnknownKey key) = fault.UnknownKey
fault_of cause.NodesMissing = fault.BadShape
fault_of cause.NodesShape = fault.BadShape
fault_of cause.LinksMissing = fault.BadShape
fault_of cause.LinksShape = fault.BadShape
fault_of (cause.LinkShape link) = fault.BadShape
fault_of cause.PhaseShape = fault.BadShape
fault_of cause.SetShape = fault.BadShape
fault_of (cause.SetValueShape key) = fault.BadShape
fault_of (cause.PairShape key entry) = fault.BadShape
fault_of (cause.NodeCount nodes) = fault.NodeCount
fault_of (cause.BadLink link) = fault.BadLink
fault_of (cause.SelfLink link) = fault.SelfLink
fault_of (cause.LinkTwice link earlier) = fault.LinkTwice
fault_of (cause.TooManyLinks links) = fault.TooManyLinks
fault_of (cause.TooManyNeighbours node neighbours) = fault.TooManyNeighbours
fault_of (cause.BadPhase phase) = fault.BadPhase
fault_of (cause.BadWeight link) = fault.BadWeight

-- the fault of a reading that is refused
abbrev pub refusal_of : {A : Type 0} → Result A NetFault → Option NetFault
refusal_of (Ok x) = None
refusal_of (Err f) = Some f

-- the fault, where the test is true
abbrev pub fault_if : Bool → NetFault → Option NetFault
fault_if true f = Some f
fault_if false f = None

-- the item at this number is the first that is not read
abbrev pub IsFirstUnread : {A : Type 0} → (Data → Option A) → ℕ → Items → Type 0
IsFirstUnread read n no_items = ⊥
IsFirstUnread read zero (item d ds) = read d ≡ None
IsFirstUnread read (suc n) (item d ds) = IsSome (read d) × IsFirstUnread read n ds

-- the link at the later number joins the same two nodes as the one at the earlier number
abbrev pub AreTwice : {W : Type 0} → List (ℕ × ℕ × W) → ℕ → ℕ → Type 0
AreTwice links earlier later = (earlier < later) × IsSomeAnd (slice_get links earlier) (λ e. IsSomeAnd (slice_get links later) (λ l. joins e.0 e.1 l ≡ true))

-- what the cause names is so of links between n nodes: the first link, the least node.
-- The first link that stands twice joins the same two nodes as the earlier one, and no two of the links before it do.
abbrev pub IsLinkCause : {W : Type 0} → ℕ → List (ℕ × ℕ × W) → NetCause → Type 0
IsLinkCause n links (cause.SelfLink link) = position is_self_link links ≡ Some link
IsLinkCause n links (cause.LinkTwice link earlier) = AreTwice links earlier link × (has_link_twice (take link links) ≡ false)
IsLinkCause n links (cause.TooManyLinks count) = (count ≡ length links) × (most_links < count)
IsLinkCause n links (cause.TooManyNeighbours node count) =
    (find (λ u. nat_lt most_neighbours (length (linked_with n links u))) (numbers_below n) ≡ Some node) × (count ≡ length (linked_with n links node))
IsLinkCause n links _ = ⊥

-- what the cause names is so of the numbers of a draft: the first link
abbrev pub IsNumberCause : Draft → NetCause → Type 0
IsNumberCause d (cause.NodeCount nodes) = (nodes ≡ d.nodes) × (number_in 1 most_nodes nodes ≡ None)
IsNumberCause d (cause.BadLink link) = IsSomeAnd (number_in 1 most_nodes d.nodes) (λ n. position (λ l. is_none (placed (n - 1) l)) d.links ≡ Some link)
IsNumberCause d (cause.BadPhase phase) = (phase ≡ d.phase) × (number_in 0 2 phase ≡ None)
IsNumberCause d (cause.BadWeight link) = position is_off d.links ≡ Some link
IsNumberCause d c = IsSomeAnd (number_in 1 most_nodes d.nodes) (λ n. IsSomeAnd (all_placed (n - 1) d.links) (λ ends. IsLinkCause n ends c))

-- what the cause names is so of the table at `set`: of the value at this key
abbrev pub IsSetCause : Members → NetCause → Type 0
IsSetCause sets (cause.SetValueShape key) = IsSomeAnd (get_member (string_bytes key) sets) (λ d. as_array d ≡ None)
IsSetCause sets (cause.PairShape key entry) = IsSomeAnd (option_and_then as_array (get_member (string_bytes key) sets)) (IsFirstUnread pair_of entry)
IsSetCause sets _ = ⊥

-- what the cause names is so of the keys and values of a document
abbrev pub IsShapeCause : Members → NetCause → Type 0
IsShapeCause ms (cause.UnknownKey key) = IsSome (get_member (string_bytes key) ms) × (is_known (string_bytes key) ≡ false)
IsShapeCause ms cause.NodesMissing = get_member (codes "nodes") ms ≡ None
IsShapeCause ms cause.NodesShape = IsSomeAnd (get_member (codes "nodes") ms) (λ d. as_integer d ≡ None)
IsShapeCause ms cause.LinksMissing = get_member (codes "links") ms ≡ None
IsShapeCause ms cause.LinksShape = IsSomeAnd (get_member (codes "links") ms) (λ d. as_array d ≡ None)
IsShapeCause ms (cause.LinkShape link) = IsSomeAnd (option_and_then as_array (get_member (codes "links") ms)) (IsFirstUnread link_of link)
IsShapeCause ms cause.PhaseShape = IsSomeAnd (get_member (codes "phase") ms) (λ d. as_integer d ≡ None)
IsShapeCause ms cause.SetShape = IsSomeAnd (get_member (codes "set") ms) (λ d. as_table d ≡ None)
IsShapeCause ms (cause.SetValueShape key) = IsSomeAnd (option_and_then as_table (get_member (codes "set") ms)) (λ sets. IsSetCause sets (cause.SetValueShape key))
IsShapeCause ms (cause.PairShape key entry) = IsSomeAnd (option_and_then as_table (get_member (codes "set") ms)) (λ sets. IsSetCause sets (cause.PairShape key entry))
IsShapeCause ms _ = ⊥

-- what the cause names is so of the bytes: they are no document, and the place is in them
abbrev pub IsTextCause : List ℕ → NetCause → Type 0
IsTextCause bytes (cause.NotToml at message) = (document_of bytes ≡ None) × (at ≤ length bytes)
IsTextCause bytes _ = ⊥

-- what the cause names is so of the document: of its keys and values, or of its numbers
abbrev pub IsDocumentCause : Members → NetCause → Type 0
IsDocumentCause ms c = IsShapeCause ms c ⊎ IsSomeAnd (draft_of ms) (λ d. IsNumberCause d c)

-- what the cause names is so: each cause is one of the bytes, of the keys and values of their document, or of its numbers
abbrev pub IsCause : List ℕ → NetCause → Type 0
IsCause bytes c = IsTextCause bytes c ⊎ IsSomeAnd (document_of bytes) (λ ms. IsDocumentCause ms c)

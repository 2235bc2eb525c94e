-- The binary files in which networks of any size are kept.
use Rattle.std.specs.Prelude.{◌≡◌, ◌≢◌, ℕ, ◌+◌, ◌-◌, ◌*◌, ◌^◌, ◌%◌, Bool, not, ◌&&◌, ◌||◌, ◌==◌, nat_eq, nat_lt, nat_le, List, length, map, drop, min, replicate, position, find, codes, slice_index, slice_range, MatchResult, Option, Some, None, option_map, Result, Ok, Err, if◌then◌else◌}
use Rattle.std.specs.Int.{from_le_bytes, w32, w64}
use Rattle.std.specs.List.{list_any, starts_with}
use Rattle.std.specs.Option.{option_or}
use Rattle.std.specs.Simd.{first_chunks}
use Rattle.link_net.specs.Limits.{most_rows}
use Rattle.link_net.specs.Neighbours.{Neighbours, numbers_below}
use Rattle.link_net.specs.Layout.{rows_of}
use Rattle.large_net.specs.declared.header.FileHeader.{FileHeader}
use Rattle.large_net.specs.declared.fault.LargeFault.{LargeFault}
use Rattle.large_net.specs.declared.fault.LargeFault.TheVariants.{Magic, Header as BadHeader, NodeCount, Length, Offsets, TooManyNeighbours, Neighbour, Memory}

-- what a file begins with
abbrev pub magic : List ℕ
magic = codes "UNISONW1"

-- the number in the eight bytes at a place, the lowest byte first
abbrev pub long_at : List ℕ → ℕ → ℕ
long_at bytes place = from_le_bytes w64 (slice_range bytes place (place + 8))

-- so many numbers of eight bytes each, the lowest byte first, one after the other
abbrev pub longs : ℕ → List ℕ → List ℕ
longs count bytes = map (from_le_bytes w64) (first_chunks 8 count bytes)

-- so many numbers of four bytes each, the lowest byte first, one after the other
abbrev pub words : ℕ → List ℕ → List ℕ
words count bytes = map (from_le_bytes w32) (first_chunks 4 count bytes)

-- where the neighbours begin: after the header and an offset for each node and one more
abbrev pub neighbours_start : ℕ → ℕ
neighbours_start nodes = 32 + 8 * (nodes + 1)

-- how many bytes a file has: header and offsets, four bytes for each neighbour, and four more for its weight where weights follow
abbrev pub length_for : ℕ → ℕ → Bool → ℕ
length_for nodes ends weighted = neighbours_start nodes + (if weighted then 8 * ends else 4 * ends)

-- how many bytes a header asks for
abbrev pub asked_length : FileHeader → ℕ
asked_length header = length_for header.nodes header.ends header.weighted

-- what the numbers of the first 32 bytes say: how many nodes and how many neighbours there are, whether the flags are 1 or 3, so that weights follow, and whether they are 2 or 3, so that something stands after the rows
abbrev pub spelled_header : List ℕ → FileHeader
spelled_header bytes = record { nodes = long_at bytes 8; ends = long_at bytes 16; weighted = long_at bytes 24 % 2 == 1; tailed = nat_lt 1 (long_at bytes 24) }

-- a file has as many bytes as are asked for, or more where something stands after the rows
abbrev pub has_length : Bool → ℕ → ℕ → Bool
has_length tailed asked found = found == asked || (tailed && nat_lt asked found)

-- the header of a file that begins as it should, has flags from 0 to 3, a number of nodes in range and as many bytes as the header asks for, or the first fault
abbrev pub header_of : List ℕ → Result FileHeader LargeFault
header_of bytes =
    if not (starts_with nat_eq bytes magic) then Err Magic
    else (if nat_lt (length bytes) 32 || nat_lt 3 (long_at bytes 24) then Err BadHeader
    else (if long_at bytes 8 == 0 || nat_lt most_rows (long_at bytes 8) then Err (NodeCount (long_at bytes 8))
    else (if has_length (spelled_header bytes).tailed (asked_length (spelled_header bytes)) (length bytes) then Ok (spelled_header bytes)
    else Err (Length (min (asked_length (spelled_header bytes)) (2 ^ 64 - 1)) (length bytes)))))

-- whether an offset is bad: the first is not 0, or the next is lower, or the last is not the number of neighbours
abbrev pub is_bad_offset : List ℕ → ℕ → ℕ → Bool
is_bad_offset offsets ends u =
    if u + 1 == length offsets then not (slice_index offsets u == ends)
    else ((u == 0 && not (slice_index offsets u == 0)) || nat_lt (slice_index offsets (u + 1)) (slice_index offsets u))

-- whether a node has more neighbours than a word can say
abbrev pub is_wide : List ℕ → ℕ → Bool
is_wide offsets u = nat_lt most_rows (slice_index offsets (u + 1) - slice_index offsets u)

-- the first bad offset, the first node with too many neighbours, or the first neighbour that is no node
abbrev pub rows_fault : List ℕ → List ℕ → Option LargeFault
rows_fault offsets neighbours =
    option_or (option_map Offsets (find (is_bad_offset offsets (length neighbours)) (numbers_below (length offsets))))
    (option_or (option_map TooManyNeighbours (find (is_wide offsets) (numbers_below (length offsets - 1))))
    (option_map Neighbour (position (λ v. nat_le (length offsets - 1) v) neighbours)))

-- where each node's part of the neighbours begins, and last where they end
abbrev pub offsets_in : FileHeader → List ℕ → List ℕ
offsets_in header bytes = longs (header.nodes + 1) (drop 32 bytes)

-- the neighbours of all nodes
abbrev pub neighbours_in : FileHeader → List ℕ → List ℕ
neighbours_in header bytes = words header.ends (drop (neighbours_start header.nodes) bytes)

-- the weights of the links to them; where none follow each is 1
abbrev pub weights_in : FileHeader → List ℕ → List ℕ
weights_in header bytes = if header.weighted then words header.ends (drop (neighbours_start header.nodes + 4 * header.ends) bytes) else replicate header.ends 1

-- the next step at a header that is read, or its fault
abbrev pub and_then : Result FileHeader LargeFault → (FileHeader → Result Neighbours LargeFault) → Result Neighbours LargeFault
and_then (Ok header) next = next header
and_then (Err fault) next = Err fault

-- what a header that is read tells, or its fault
abbrev pub with_header : {A : Type 0} → Result FileHeader LargeFault → (FileHeader → A) → Result A LargeFault
with_header (Ok header) told = Ok (told header)
with_header (Err fault) told = Err fault

-- the network, unless there is a fault
abbrev pub unless : Option LargeFault → Neighbours → Result Neighbours LargeFault
unless None network = Ok network
unless (Some fault) network = Err fault

-- the network that stands in a file, or the first fault
abbrev pub large_of : List ℕ → Result Neighbours LargeFault
large_of bytes = and_then (header_of bytes) (λ header.
    unless (rows_fault (offsets_in header bytes) (neighbours_in header bytes)) (rows_of (offsets_in header bytes) (neighbours_in header bytes) (weights_in header bytes)))

-- what stands after the rows of a file with this header, where something does
abbrev pub tail_in : FileHeader → List ℕ → Option (List ℕ)
tail_in header bytes = if header.tailed then Some (drop (asked_length header) bytes) else None

-- what stands after the rows of a file, where something does, or the first fault of its header
abbrev pub tail_of : List ℕ → Result (Option (List ℕ)) LargeFault
tail_of bytes = with_header (header_of bytes) (λ header. tail_in header bytes)

-- whether the weight of some link is not 1
abbrev pub is_weighted : Neighbours → Bool
is_weighted network = list_any (λ row. list_any (λ a. not (a.1 == 1)) row) network

-- what was returned is the defined result, or stands for running out of memory
abbrev pub IsAnswer : Result Neighbours LargeFault → Result Neighbours LargeFault → Type 0
IsAnswer defined r = MatchResult r (λ network. defined ≡ Ok network) (λ fault. fault ≢ Memory → defined ≡ Err fault)

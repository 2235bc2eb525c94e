-- Words of a line, and how they are read as nodes, slots and counts.
use Rattle.std.specs.Prelude.{ℕ, ◌^◌, ◌==◌, Bool, ◌&&◌, List, map, nat_lt, nat_le, length, slice_index, Option, Some, None, Result, if◌then◌else◌}
use Rattle.std.specs.List.{before_first, position}
use Rattle.std.specs.Fmt.{decimal}
use Rattle.std.specs.Option.{option_and_then, ok_or}
use Rattle.std.specs.Str.{bytes_eq}
use Rattle.std.specs.Str.Parse.{digits_value}
use Rattle.import_lines.specs.Texts.{words_of}
use Rattle.link_net.specs.Neighbours.{Neighbours, row}
use Rattle.run_steps.specs.declared.script.fault.StepTextFault.{StepTextFault}
use Rattle.run_steps.specs.declared.script.fault.StepTextFault.TheVariants.{BadCount, NoNode, NotNeighbour}

-- the most times that lines may be repeated
abbrev pub most_repeats : ℕ
most_repeats = 1000000

-- the word begins a comment: with #
abbrev pub is_comment : List ℕ → Bool
is_comment word = slice_index word 0 == 35

-- the words of a line up to a comment
abbrev pub words_in : List ℕ → List (List ℕ)
words_in line = before_first is_comment (words_of line)

-- ---- How words are read, function by function: the clauses of private functions speak of this. What words call stands in Spelled.

-- the number whose decimal spelling the word is, where it fits 32 bits: the value of the word's digits, where the spelling of that is the word again
unfoldable pub number_in : List ℕ → Option ℕ
number_in word =
    if bytes_eq (decimal (digits_value 10 word)) word && nat_lt (digits_value 10 word) (2 ^ 32) then Some (digits_value 10 word) else None

-- the number, where it lies between these bounds
abbrev pub within : ℕ → ℕ → ℕ → Option ℕ
within least most n = if nat_le least n && nat_le n most then Some n else None

-- the number of the node of this name, or, where no names are given, of this number
abbrev pub called_in : Option (List (List ℕ)) → List ℕ → Option ℕ
called_in None word = number_in word
called_in (Some names) word = position (bytes_eq word) names

-- the number, where it is that of a node
abbrev pub node_of : Neighbours → ℕ → Option ℕ
node_of network u = if nat_lt u (length network) then Some u else None

-- the node of the network that a word calls, where it calls one
abbrev pub node_called : Neighbours → Option (List (List ℕ)) → List ℕ → Option ℕ
node_called network names word = option_and_then (node_of network) (called_in names word)

-- the same of a word of a line; places of words are counted from 1
abbrev pub node_at : Neighbours → Option (List (List ℕ)) → ℕ → ℕ → List ℕ → Result ℕ StepTextFault
node_at network names line place word = ok_or (node_called network names word) (NoNode line place)

-- the slot of a node at which a neighbour stands: its place among the node's neighbours
abbrev pub slot_at : Neighbours → ℕ → ℕ → ℕ → Result ℕ StepTextFault
slot_at network line u v = ok_or (position (λ w. v == w) (map (λ a. a.0) (row network u))) (NotNeighbour line)

-- how many times lines are to be repeated
abbrev pub count_at : ℕ → List ℕ → Result ℕ StepTextFault
count_at line word = ok_or (option_and_then (within 1 most_repeats) (number_in word)) (BadCount line)

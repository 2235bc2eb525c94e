-- Edges whose ends are numbers of nodes.
use Rattle.std.specs.Prelude.{ℕ, ◌+◌, List, [], ◌∷◌, nat_lt, not, max, fold, Result, Ok, Err, if◌then◌else◌}
use Rattle.std.specs.Str.Parse.{digits_value}
use Rattle.import_lines.specs.Weights.{is_whole}
use Rattle.import_lines.specs.declared.weight_fault.WeightFault.{WeightFault}
use Rattle.import_lines.specs.declared.weight_fault.WeightFault.TheVariants.{WeightTooLarge}
use Rattle.import_lines.specs.Named.{NamedEdge}
use Rattle.import_links.specs.declared.placed.PlacedLink.{PlacedLink}
use Rattle.import_links.specs.declared.numbers.NumberFault.{NumberFault}
use Rattle.import_links.specs.declared.numbers.NumberFault.TheVariants.{NoNumber, NumberTooLarge}

-- the next step, at the value of a step that succeeds
abbrev pub and_then : {A B : Type 0} → Result A NumberFault → (A → Result B NumberFault) → Result B NumberFault
and_then (Ok x) next = next x
and_then (Err fault) next = Err fault

-- why a name in a line is no number, from why it is no whole weight
abbrev pub number_fault : ℕ → WeightFault → NumberFault
number_fault line WeightTooLarge = NumberTooLarge line
number_fault line fault = NoNumber line

-- the number of a node that a name in a line is, where there may be so many nodes: digits alone, which say less than that
abbrev pub number_of : ℕ → ℕ → List ℕ → Result ℕ NumberFault
number_of most line name =
    if not (is_whole name) then Err (NoNumber line)
    else if nat_lt (digits_value 10 name) most then Ok (digits_value 10 name)
    else Err (NumberTooLarge line)

-- the link between the numbers that the ends of an edge are
abbrev pub link_of : ℕ → NamedEdge → Result PlacedLink NumberFault
link_of most e =
    and_then (number_of most e.line e.first) (λ a.
    and_then (number_of most e.line e.second) (λ b.
    Ok (record { link = (a, b, e.weight); line = e.line; exact = e.exact })))

-- the links of edges, or the fault of the first whose ends are no numbers
abbrev pub links_in : ℕ → List NamedEdge → Result (List PlacedLink) NumberFault
links_in most [] = Ok []
links_in most (e ∷ es) = and_then (link_of most e) (λ l. and_then (links_in most es) (λ ls. Ok (l ∷ ls)))

-- so many nodes, or as many as the ends of a link ask for
abbrev pub with_ends_of : ℕ → PlacedLink → ℕ
with_ends_of n p = max (max n (p.link.0 + 1)) (p.link.1 + 1)

-- one more than the greatest number of an end, 0 where there are no links
abbrev pub nodes_of : List PlacedLink → ℕ
nodes_of ps = fold with_ends_of 0 ps

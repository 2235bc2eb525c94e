-- The edges that the lines of a text say, between nodes that are numbered.
use Rattle.std.specs.Prelude.{ℕ, Bool, not, List, [], ◌∷◌, nat_le, Option, Some, None, Result, Ok, Err, if◌then◌else◌}
use Rattle.std.specs.Option.{unwrap_or}
use Rattle.std.specs.Result.{result_map_both}
use Rattle.std.specs.Str.Parse.{digits_value}
use Rattle.import_lines.specs.Texts.{words_of, edge_lines}
use Rattle.import_lines.specs.Parts.{shown, parts_of}
use Rattle.import_lines.specs.Weights.{is_whole, weight_of}
use Rattle.import_lines.specs.declared.weight_fault.WeightFault.{WeightFault}
use Rattle.large_pack.specs.declared.edge_line.EdgeLine.{EdgeLine}
use Rattle.large_pack.specs.declared.fault.End.{End}
use Rattle.large_pack.specs.declared.fault.End.TheVariants.{First, Second}
use Rattle.large_pack.specs.declared.fault.NodeFault.{NodeFault}
use Rattle.large_pack.specs.declared.fault.NodeFault.TheVariants.{BadNode, NodeTooLarge}
use Rattle.large_pack.specs.declared.fault.LineFault.{LineFault}
use Rattle.large_pack.specs.declared.fault.LineFault.TheVariants.{Words as BadWords, Node as BadEnd, Weight as BadWeight}
use Rattle.large_pack.specs.declared.options.PackOptions.{PackOptions}
use Rattle.large_pack.specs.declared.fault.PackFault.{PackFault}
use Rattle.large_pack.specs.declared.fault.PackFault.TheVariants.{BadLine}

-- the next step, at the value of a step that succeeds
abbrev pub and_then : {A B E : Type 0} → Result A E → (A → Result B E) → Result B E
and_then (Ok x) next = next x
and_then (Err fault) next = Err fault

-- a result whose fault is said as one of another kind
abbrev pub fault_as : {A E F : Type 0} → (E → F) → Result A E → Result A F
fault_as kind r = result_map_both (λ x. x) kind r

-- the greatest number of a node
abbrev pub most_node : ℕ
most_node = 4294967294

-- the number of the node that a word says
abbrev pub node_of : List ℕ → Result ℕ NodeFault
node_of word =
    if not (is_whole word) then Err BadNode
    else if nat_le (digits_value 10 word) most_node then Ok (digits_value 10 word)
    else Err NodeTooLarge

-- the number of the node at an end
abbrev pub end_in : End → List ℕ → Result ℕ LineFault
end_in end word = fault_as (BadEnd end) (node_of word)

-- the weight of an edge; where no word says it it is 1, times the factor where there is one
abbrev pub weight_in : Option ℕ → Option (List ℕ) → Result ℕ WeightFault
weight_in factor None = Ok (unwrap_or factor 1)
weight_in factor (Some word) = and_then (weight_of factor word) (λ weight. Ok weight.value)

-- the edge that a line says, or the line's first fault
abbrev pub edge_in : Option ℕ → ℕ → List ℕ → Result EdgeLine LineFault
edge_in factor number line =
    and_then (fault_as BadWords (shown line)) (λ text.
    and_then (fault_as BadWords (parts_of (words_of text))) (λ parts.
    and_then (end_in First parts.0) (λ first.
    and_then (end_in Second parts.1) (λ second.
    and_then (fault_as BadWeight (weight_in factor parts.2)) (λ weight.
    Ok (record { first = first; second = second; weight = weight; line = number }))))))

-- the edge, or where edges are turned round the one from its second end to its first
abbrev pub turned : Bool → EdgeLine → EdgeLine
turned reverse e = if reverse then record { first = e.second; second = e.first; weight = e.weight; line = e.line } else e

-- the edge that a line with its number says, turned round where that is asked, or its first fault beside that number
abbrev pub edge_of : PackOptions → ℕ × List ℕ → Result EdgeLine PackFault
edge_of options l = and_then (fault_as (λ fault. BadLine l.0 fault) (edge_in options.factor l.0 l.1)) (λ e. Ok (turned options.reverse e))

-- the edges that the lines say, or the first line's fault that says none
abbrev pub edges_in : PackOptions → List (ℕ × List ℕ) → Result (List EdgeLine) PackFault
edges_in options [] = Ok []
edges_in options (l ∷ ls) = and_then (edge_of options l) (λ e. and_then (edges_in options ls) (λ es. Ok (e ∷ es)))

-- the edges of a text, or the first bad line
abbrev pub edges_of : PackOptions → List ℕ → Result (List EdgeLine) PackFault
edges_of options text = edges_in options (edge_lines options.header text)

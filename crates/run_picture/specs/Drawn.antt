-- Networks as text for Graphviz.
use Rattle.std.specs.Prelude.{◌≡◌, ℕ, ◌+◌, ◌==◌, List, [], ◌∷◌, ◌++◌, codes, if◌then◌else◌, length, nat_lt, slice_get, Option, Some, None}
use Rattle.std.specs.Char.{encode_utf8}
use Rattle.std.specs.Fmt.{decimal}
use Rattle.std.specs.List.{flat_map}
use Rattle.std.specs.Str.{chars}
use Rattle.link_net.specs.Neighbours.{Neighbours, degree, neighbour, numbers_below, weight}
use Rattle.rounds_plan.specs.Plans.{PlanView}
use Rattle.run_picture.specs.declared.drawing.Colouring.{Colouring}
use Rattle.run_picture.specs.Frames.{values_after}
use Rattle.run_picture.specs.Shades.{IsKey, KeyView, class_of, fill_of, ink_of, no_value}

-- a character in a quoted label: `"`, `\` and `&` mean something there
abbrev pub escaped_char : ℕ → List ℕ
escaped_char c =
    if c == 34 then codes "\\\""
    else if c == 92 then codes "\\\\"
    else if c == 38 then codes "&amp;"
    else encode_utf8 c

-- a name in a quoted label
abbrev pub escaped : List ℕ → List ℕ
escaped name = flat_map escaped_char (chars name)

-- what a node or a value is called in a quoted label: its name, or where it has none its number
abbrev pub called : Option (List ℕ) → ℕ → List ℕ
called (Some name) u = escaped name
called None u = decimal u

-- what a value is called in a quoted label, or that there is none
abbrev pub value_label : KeyView → ℕ → List ℕ
value_label key v = if v == no_value then codes "none" else called (slice_get key.styles.names v) v

-- a colour of writing, and the end of the line
abbrev pub ink_text : List ℕ → List ℕ
ink_text ink = codes "\", fontcolor=\"" ++ (ink ++ codes "\"];\n")

-- the colours of a node: that of a class, and one that is read on it
unfoldable pub class_text : KeyView → ℕ → List ℕ
class_text key class = codes "\", fillcolor=\"" ++ (fill_of key class ++ ink_text (ink_of key class))

-- the line of a node: its number, what it is called, its value below that, and its colours
unfoldable pub node_line : KeyView → Option (List ℕ) → ℕ → ℕ → List ℕ
node_line key name u v = codes "  " ++ (decimal u ++ (codes " [label=\"" ++ (called name u ++ (codes "\\n" ++ (value_label key v ++ class_text key (class_of key v))))))

-- the lines of nodes from number u on, called by these names, and past the last by their numbers
abbrev pub node_lines : KeyView → List (List ℕ) → ℕ → List ℕ → List ℕ
node_lines key names u [] = []
node_lines key names u (v ∷ values) = node_line key (slice_get names u) u v ++ node_lines key names (u + 1) values

-- a weight, which is left out where it is 1
abbrev pub weight_text : ℕ → List ℕ
weight_text x = if x == 1 then [] else codes " [label=\"" ++ (decimal x ++ codes "\"]")

-- the line of a link
unfoldable pub link_line : ℕ → ℕ → ℕ → List ℕ
link_line u w x = codes "  " ++ (decimal u ++ (codes " -- " ++ (decimal w ++ (weight_text x ++ codes ";\n"))))

-- the line of the link at slot j of node u, where the neighbour has the greater number, so that each link has one
abbrev pub slot_line : Neighbours → ℕ → ℕ → List ℕ
slot_line network u j = if nat_lt u (neighbour network u j) then link_line u (neighbour network u j) (weight network u j) else []

-- the links of a node that lead to greater numbers
abbrev pub links_at : Neighbours → ℕ → List ℕ
links_at network u = flat_map (slot_line network u) (numbers_below (degree network u))

-- all links
abbrev pub link_lines : Neighbours → List ℕ
link_lines network = flat_map (links_at network) (numbers_below (length network))

-- the first lines
unfoldable pub head_text : ℕ → List ℕ
head_text t = codes "graph run {\n  label=\"round " ++ (decimal t ++ codes "\";\n  node [shape=circle, style=filled];\n")

-- a network with a value at each node, after round t, coloured by a key
abbrev pub graph_text : KeyView → Neighbours → List (List ℕ) → ℕ → List ℕ → List ℕ
graph_text key network names t values = head_text t ++ (node_lines key names 0 values ++ (link_lines network ++ codes "}\n"))

-- the text is the network of a plan with the values after round t, coloured by them
abbrev pub IsNetworkText : PlanView → ℕ → Colouring → List (List ℕ) → List ℕ → Type 0
IsNetworkText p t colouring names text =
    (key : KeyView) × IsKey colouring.styles.now (values_after p colouring.field t) key × (text ≡ graph_text key p.network names t (values_after p colouring.field t))

-- What one wants to know of a network, as lines of text.
use Rattle.std.specs.Prelude.{ℕ, List, [], ◌∷◌, ◌++◌, codes, Option, Some, None}
use Rattle.std.specs.Fmt.{decimal}
use Rattle.net_facts.specs.declared.facts.Facts.{Facts}
use Rattle.net_facts.specs.declared.facts.Range.{Range}

-- a word, a number in decimal digits, and LF
abbrev pub number_line : List ℕ → ℕ → List ℕ
number_line word number = word ++ (codes " " ++ (decimal number ++ 10 ∷ []))

-- a word, the least number and the greatest, and LF
abbrev pub range_line : List ℕ → Range → List ℕ
range_line word range = word ++ (codes " " ++ (decimal range.least ++ (codes " to " ++ (decimal range.greatest ++ 10 ∷ []))))

-- the line of the diameter, where it is told
abbrev pub diameter_line : Option ℕ → List ℕ
diameter_line None = []
diameter_line (Some diameter) = number_line (codes "diameter") diameter

-- the line of the weights, where there are links
abbrev pub weights_line : Option Range → List ℕ
weights_line None = []
weights_line (Some weights) = range_line (codes "weights") weights

-- all lines
abbrev pub facts_lines : Facts → List ℕ
facts_lines f =
    number_line (codes "nodes") f.nodes
    ++ (number_line (codes "links") f.links
    ++ (range_line (codes "degrees") f.degrees
    ++ (number_line (codes "components") f.components
    ++ (diameter_line f.diameter ++ weights_line f.weights))))

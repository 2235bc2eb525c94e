-- The lines of a model's text on which the names of its fields and next values stand.
use Rattle.std.specs.Prelude.{ℕ, suc, ◌==◌, List, [], ◌∷◌, Option, Some, None, map, take, if◌then◌else◌}
use Rattle.std.specs.List.{filter_map}
use Rattle.model_text.specs.Tree.{ItemTree, ConstTree, StatesTree, FieldTree, LetTree, NextTree}

-- how many line feeds (10) there are
abbrev pub line_feeds : List ℕ → ℕ
line_feeds [] = 0
line_feeds (b ∷ bytes) = if b == 10 then suc (line_feeds bytes) else line_feeds bytes

-- the line of a place in a text, counted from 1: one more than there are line feeds before it
abbrev pub line_of : List ℕ → ℕ → ℕ
line_of text at = suc (line_feeds (take at text))

-- where the name of a field or of a next value stands; other items have no rule
abbrev pub rule_place : ItemTree → Option ℕ
rule_place (ConstTree n body) = None
rule_place (StatesTree n members) = None
rule_place (FieldTree n states initial) = Some n.at
rule_place (LetTree n parameters body) = None
rule_place (NextTree n body) = Some n.at

-- the lines on which the names of the fields and of the next values of a text's items stand, in the order of the items
abbrev pub lines_of : List ℕ → List ItemTree → List ℕ
lines_of text items = map (line_of text) (filter_map rule_place items)

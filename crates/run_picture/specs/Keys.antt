-- How the key of cells is made, cell by cell: for clauses of private functions alone. `Shades.IsKey` says which key it is.
use Rattle.std.specs.Prelude.{ℕ, ◌==◌, max, Bool, true, false, List, [], ◌∷◌, if◌then◌else◌, take}
use Rattle.std.specs.List.{insert, list_any, range_with_len}
use Rattle.run_picture.specs.Chosen.{StylesView}
use Rattle.run_picture.specs.Shades.{KeyView, no_value, rank, state_count}

-- the key where there are no cells
abbrev pub blank_key : StylesView → KeyView
blank_key styles = record { styles = styles; values = []; greatest = 0; none = false }

-- the value is one of these
abbrev pub is_among : List ℕ → ℕ → Bool
is_among values v = list_any (λ x. x == v) values

-- rising values, and this one at its place among them, once
abbrev pub with_value : List ℕ → ℕ → List ℕ
with_value values v = if is_among values v then values else insert values (rank values v) v

-- the key where there is one cell more
abbrev pub with_cell : KeyView → ℕ → KeyView
with_cell key v =
    if v == no_value then record { styles = key.styles; values = key.values; greatest = key.greatest; none = true }
    else record { styles = key.styles; values = take 9 (with_value key.values v); greatest = max key.greatest v; none = key.none }

-- the key where there are these cells more
abbrev pub key_from : KeyView → List ℕ → KeyView
key_from key [] = key
key_from key (v ∷ cells) = key_from (with_cell key v) cells

-- the key of the states, whether or not a cell has one
abbrev pub state_key : StylesView → KeyView
state_key styles = key_from (blank_key styles) (range_with_len 0 (state_count styles))

-- the key of cells whose values are shown in these styles
abbrev pub key_of : StylesView → List ℕ → KeyView
key_of styles cells = key_from (state_key styles) cells

-- How the values of a field are shown: by names, and in colours that are chosen for them.
use Rattle.std.specs.Prelude.{ℕ, ◌+◌, ◌*◌, ◌/◌, ◌%◌, ◌==◌, Bool, List, [], ◌∷◌, ◌++◌, codes, length, max, nat_lt, not, false}
use Rattle.std.specs.Fmt.{digits}
use Rattle.std.specs.List.{prefix_len}
use Rattle.run_picture.specs.declared.chosen.CellShape.{CellShape}
use Rattle.run_picture.specs.declared.chosen.Colour.{Colour}
use Rattle.run_picture.specs.declared.chosen.ValueColour.{ValueColour}

-- how the values of a field are shown
pub record StylesView : Type 0 where
  -- the names of the values 0, 1, 2 and so on, each the bytes of its text; further values have none
  pub names : List (List ℕ)
  -- the values that have colours of their own; where a value stands twice, the first counts
  pub colours : List ValueColour
  -- the shape of cells
  pub shape : CellShape

-- the most values with colours of their own
abbrev pub most_colours : ℕ
most_colours = 64

-- how many values with colours of their own stand before this one; all of them where it is none of them
abbrev pub own_place : List ValueColour → ℕ → ℕ
own_place colours v = prefix_len (λ own. not (own.value == v)) colours

-- the value has a colour of its own
abbrev pub has_own : List ValueColour → ℕ → Bool
has_own colours v = nat_lt (own_place colours v) (length colours)

-- a part of a colour, 0 to 255, as two hexadecimal digits
unfoldable pub pair_text : ℕ → List ℕ
pair_text n = digits 16 false (n / 16) ++ digits 16 false (n % 16)

-- a colour as text: `#`, and two digits for each part
unfoldable pub hex_text : Colour → List ℕ
hex_text c = codes "#" ++ (pair_text c.red ++ (pair_text c.green ++ pair_text c.blue))

-- black is not read on this colour: it is less than 100 of 255 bright, as the eye weighs red, green and blue
abbrev pub is_dim : Colour → Bool
is_dim c = nat_lt (299 * c.red + 587 * c.green + 114 * c.blue) 100000

-- how many bytes the longest of some names has
abbrev pub longest : List (List ℕ) → ℕ
longest [] = 0
longest (name ∷ names) = max (length name) (longest names)

-- Pictures of cells as SVG.
use Rattle.std.specs.Prelude.{◌≡◌, ℕ, ◌+◌, ◌-◌, ◌*◌, ◌/◌, ◌%◌, ◌==◌, max, min, List, [], ◌∷◌, ◌++◌, codes, if◌then◌else◌, length, slice_get, Option, Some, None}
use Rattle.std.specs.Char.{encode_utf8}
use Rattle.std.specs.Fmt.{decimal}
use Rattle.std.specs.List.{flat_map}
use Rattle.std.specs.Str.{chars}
use Rattle.link_net.specs.Neighbours.{numbers_below}
use Rattle.run_picture.specs.declared.chosen.CellShape.{CellShape}
use Rattle.run_picture.specs.declared.chosen.CellShape.TheVariants.{Square, Hexagon}
use Rattle.run_picture.specs.declared.chosen.ValueColour.{ValueColour}
use Rattle.run_picture.specs.Chosen.{StylesView, longest}
use Rattle.run_picture.specs.Shades.{IsKey, KeyView, class_of, class_total, fill_of, is_few, least_of, no_value}

-- a character in the text of a picture: `&`, `<` and `>` mean something there
abbrev pub markup_char : ℕ → List ℕ
markup_char c =
    if c == 38 then codes "&amp;"
    else if c == 60 then codes "&lt;"
    else if c == 62 then codes "&gt;"
    else encode_utf8 c

-- a name in the text of a picture
abbrev pub markup : List ℕ → List ℕ
markup name = flat_map markup_char (chars name)

-- what a value is called: its name, or where it has none its number
abbrev pub named : Option (List ℕ) → ℕ → List ℕ
named (Some name) v = markup name
named None v = decimal v

-- what a value is called, or that there is none
abbrev pub value_text : KeyView → ℕ → List ℕ
value_text key v = if v == no_value then codes "none" else named (slice_get key.styles.names v) v

-- how many columns cells fill that stand in rows of a width
abbrev pub columns_of : ℕ → ℕ → ℕ
columns_of width count = min width count

-- how many rows they fill, the last of which may be shorter
abbrev pub rows_of : ℕ → ℕ → ℕ
rows_of width count = (count + width - 1) / width

-- the side of a cell in pixels: the longer side of the picture is to have 960, but a cell has 1 at least and 24 at most
abbrev pub side_of : ℕ → ℕ → ℕ
side_of width count = max 1 (min 24 (960 / max 1 (max (columns_of width count) (rows_of width count))))

-- how many lines of the legend stand for values
abbrev pub value_lines : KeyView → ℕ
value_lines key = if is_few key then length key.values else 2 + length key.styles.colours

-- how many lines the legend has
abbrev pub legend_lines : KeyView → ℕ
legend_lines key = value_lines key + (if key.none then 1 else 0)

-- where the legend begins, in pixels from the top
abbrev pub legend_top : ℕ → ℕ → ℕ
legend_top width count = side_of width count * rows_of width count + 8

-- how wide the legend is, in pixels: 8 for each byte of the longest name, of 64 at most, and room for what stands before it
abbrev pub legend_width : KeyView → ℕ
legend_width key = max 120 (92 + 8 * min 64 (longest key.styles.names))

-- how far a row may stand out to the right, in pixels, where a cell has this side
abbrev pub overhang : CellShape → ℕ → ℕ
overhang Square side = 0
overhang Hexagon side = (side + 1) / 2

-- the size of the whole in pixels across, with room for the legend
abbrev pub sheet_width : KeyView → ℕ → ℕ → ℕ
sheet_width key width count = max (side_of width count * columns_of width count + overhang key.styles.shape (side_of width count)) (legend_width key)

-- the size of the whole in pixels from the top to the bottom
abbrev pub sheet_height : KeyView → ℕ → ℕ → ℕ
sheet_height key width count = legend_top width count + 18 * legend_lines key

-- the first line, for a size in pixels
unfoldable pub opening_text : ℕ → ℕ → List ℕ
opening_text w h =
    codes "<svg xmlns=\"http://www.w3.org/2000/svg\" viewBox=\"0 0 " ++ (decimal w ++ (codes " " ++ (decimal h ++ (codes "\" width=\"" ++ (decimal w ++ (codes "\" height=\"" ++ (decimal h ++ codes "\" shape-rendering=\"crispEdges\">\n")))))))

-- the style of a class
unfoldable pub class_style : KeyView → ℕ → List ℕ
class_style key class = codes ".c" ++ (decimal class ++ (codes "{fill:" ++ (fill_of key class ++ codes "}")))

-- the styles, and a white ground
unfoldable pub style_text : KeyView → List ℕ
style_text key =
    codes "<style>text{font:12px sans-serif}.key{stroke:#888888}"
    ++ (flat_map (class_style key) (numbers_below (class_total key)) ++ codes "</style>\n<rect width=\"100%\" height=\"100%\" fill=\"#ffffff\"/>\n")

-- The outline of a cell in this row, from the place on that its column and row name: a square, or a hexagon that stands on a corner and, in each second row, half a cell further
-- to the right. A cell is 1 wide, and rows are 1 apart: `lattice` brings rows of hexagons as near as the root of 3/4 of the width, by which the hexagons are regular.
abbrev pub outline : CellShape → ℕ → List ℕ
outline Square row = codes "h1v1h-1z"
outline Hexagon row =
    if row % 2 == 1 then codes "m1-.16667l.5 .33333v.66667l-.5 .33333-.5-.33333v-.66667z" else codes "m.5-.16667l.5 .33333v.66667l-.5 .33333-.5-.33333v-.66667z"

-- how cells lie that are 1 wide and 1 apart: rows of hexagons nearer to each other, the first one as far down as its corners stand out
abbrev pub lattice : CellShape → List ℕ
lattice Square = []
lattice Hexagon = codes " scale(1 .86603) translate(0 .16667)\" shape-rendering=\"auto"

-- a cell at a column and a row
unfoldable pub cell_text : CellShape → ℕ → ℕ → ℕ → List ℕ
cell_text shape class x y =
    codes "<path class=\"c" ++ (decimal class ++ (codes "\" d=\"M" ++ (decimal x ++ (codes " " ++ (decimal y ++ (outline shape y ++ codes "\"/>\n"))))))

-- cells in rows of a width, from the one at this place on
abbrev pub rows_text : KeyView → ℕ → ℕ → List ℕ → List ℕ
rows_text key width i [] = []
rows_text key width i (v ∷ cells) = cell_text key.styles.shape (class_of key v) (i % width) (i / width) ++ rows_text key width (i + 1) cells

-- all cells, as large as they are to be
unfoldable pub cells_text : KeyView → ℕ → List ℕ → List ℕ
cells_text key width cells =
    codes "<g transform=\"scale("
    ++ (decimal (side_of width (length cells)) ++ (codes ")" ++ (lattice key.styles.shape ++ (codes "\">\n" ++ (rows_text key width 0 cells ++ codes "</g>\n")))))

-- what a line of the legend begins with: a swatch of a class, at a height in pixels, and where the words beside it stand
unfoldable pub mark_text : ℕ → ℕ → List ℕ
mark_text class y =
    codes "<path class=\"key c" ++ (decimal class ++ (codes "\" d=\"M1 " ++ (decimal y ++ (codes "h12v12h-12z\"/><text x=\"20\" y=\"" ++ (decimal (y + 10) ++ codes "\">")))))

-- a line of the legend: a swatch of a value's colour, a word, and the value
unfoldable pub swatch_text : KeyView → ℕ → ℕ → List ℕ → ℕ → List ℕ
swatch_text key top line word v = mark_text (class_of key v) (top + 18 * line) ++ (word ++ (value_text key v ++ codes "</text>\n"))

-- a line for each of these values
abbrev pub values_legend : KeyView → ℕ → ℕ → List ℕ → List ℕ
values_legend key top line [] = []
values_legend key top line (v ∷ values) = swatch_text key top line [] v ++ values_legend key top (line + 1) values

-- a line for the least value and one for the greatest
abbrev pub ends_legend : KeyView → ℕ → List ℕ
ends_legend key top = swatch_text key top 0 (codes "least ") (least_of key) ++ swatch_text key top 1 (codes "greatest ") key.greatest

-- below these two a line for each of these values that have colours of their own
abbrev pub own_legend : KeyView → ℕ → ℕ → List ValueColour → List ℕ
own_legend key top place [] = []
own_legend key top place (own ∷ colours) = swatch_text key top (place + 2) [] own.value ++ own_legend key top (place + 1) colours

-- the lines of a scale: its two ends, and all values that have colours of their own
abbrev pub scale_legend : KeyView → ℕ → List ℕ
scale_legend key top = ends_legend key top ++ own_legend key top 0 key.styles.colours

-- the lines that stand for values
abbrev pub shades_text : KeyView → ℕ → List ℕ
shades_text key top = if is_few key then values_legend key top 0 key.values else scale_legend key top

-- the line that says that there is none, where that is in a cell
abbrev pub none_text : KeyView → ℕ → List ℕ
none_text key top = if key.none then swatch_text key top (value_lines key) [] no_value else []

-- a line for each value where there are few, else those of the scale, and one where there is none
unfoldable pub legend_text : KeyView → ℕ → List ℕ
legend_text key top = shades_text key top ++ none_text key top

-- cells that are coloured by a key, and the legend of the key
abbrev pub sheet_text : KeyView → ℕ → List ℕ → List ℕ
sheet_text key width cells =
    opening_text (sheet_width key width (length cells)) (sheet_height key width (length cells))
    ++ (style_text key ++ (cells_text key width cells ++ (legend_text key (legend_top width (length cells)) ++ codes "</svg>\n")))

-- the text is the picture of values in rows of a width
abbrev pub IsPicture : StylesView → ℕ → List ℕ → List ℕ → Type 0
IsPicture styles width values text = (key : KeyView) × IsKey styles values key × (text ≡ sheet_text key width values)

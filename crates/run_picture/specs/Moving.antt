-- Moving pictures as SVG: the nodes in rows of a width, one frame for each round of a span, over and over.
use Rattle.std.specs.Prelude.{◌≡◌, ◌↔◌, ℕ, ◌+◌, ◌*◌, ◌/◌, ◌%◌, ◌==◌, ◌<◌, ◌≤◌, List, [], ◌∷◌, ◌++◌, codes, if◌then◌else◌, length, map, nat_le, nat_lt, slice_index, Option, Some, None}
use Rattle.std.specs.Fmt.{decimal}
use Rattle.std.specs.List.{flat_map}
use Rattle.std.specs.Option.{option_or}
use Rattle.link_net.specs.Neighbours.{numbers_below}
use Rattle.rounds_plan.specs.Plans.{PlanView}
use Rattle.run_watch.specs.Spans.{SpanView, count_of, round_at}
use Rattle.run_picture.specs.declared.changes.Change.{Change}
use Rattle.run_picture.specs.declared.drawing.Drawing.{Drawing}
use Rattle.run_picture.specs.declared.drawing.MovingGrid.{MovingGrid}
use Rattle.run_picture.specs.declared.fault.PictureFault.{PictureFault}
use Rattle.run_picture.specs.declared.fault.PictureFault.TheVariants.{NoWidth, TooManyCells, TooManyFrames}
use Rattle.run_picture.specs.Frames.{drawing_refusal, most_cells, values_after, values_drawn, values_in}
use Rattle.run_picture.specs.Shades.{IsKey, KeyView, class_of, fill_of}
use Rattle.run_picture.specs.declared.chosen.CellShape.{CellShape}
use Rattle.run_picture.specs.Sheets.{cell_text, lattice, legend_text, legend_top, opening_text, outline, sheet_height, sheet_width, side_of, style_text}

-- ---- what changes

-- the numbers of the colours that node u has in so many frames, where the values of all nodes stand frame by frame
abbrev pub classes_of : KeyView → List ℕ → ℕ → ℕ → ℕ → List ℕ
classes_of key values nodes frames u = map (λ r. class_of key (slice_index values (r * nodes + u))) (numbers_below frames)

-- the change to a frame in which a cell has this colour and in the one before that one, where they differ
abbrev pub change_at : ℕ → ℕ → ℕ → List Change
change_at class r c = if c == class then [] else record { frame = r; class = c } ∷ []

-- the frames from number r on in which a cell has another colour than in the one before, each with the number of its new colour; before frame r it has this one
abbrev pub changes_from : ℕ → ℕ → List ℕ → List Change
changes_from class r [] = []
changes_from class r (c ∷ classes) = change_at class r c ++ changes_from c (r + 1) classes

-- all changes of a cell that has these colours, frame by frame
abbrev pub changes_of : List ℕ → List Change
changes_of classes = changes_from (slice_index classes 0) 0 classes

-- ---- when it changes

-- the most frames
abbrev pub most_frames : ℕ
most_frames = 10000

-- when a frame begins, in millionths of the whole, rounded down
abbrev pub begins : ℕ → ℕ → ℕ
begins frames r = r * 1000000 / frames

-- a number of millionths that is less than one, as a decimal fraction
abbrev pub fraction_text : ℕ → List ℕ
fraction_text n =
    codes "0."
    ++ (decimal (n / 100000 % 10) ++ (decimal (n / 10000 % 10) ++ (decimal (n / 1000 % 10) ++ (decimal (n / 100 % 10) ++ (decimal (n / 10 % 10) ++ decimal (n % 10))))))

-- ---- the text

-- the colours of changes, each after a semicolon
abbrev pub fills_text : KeyView → List Change → List ℕ
fills_text key [] = []
fills_text key (change ∷ changes) = codes ";" ++ (fill_of key change.class ++ fills_text key changes)

-- when changes come, each after a semicolon
abbrev pub times_text : ℕ → List Change → List ℕ
times_text frames [] = []
times_text frames (change ∷ changes) = codes ";" ++ (fraction_text (begins frames change.frame) ++ times_text frames changes)

-- what stands first in what a cell's colour goes through: that all frames take so many milliseconds together, and come over and over
unfoldable pub turn_text : ℕ → ℕ → List ℕ
turn_text frames time =
    codes "<animate attributeName=\"fill\" calcMode=\"discrete\" dur=\"" ++ (decimal (frames * time) ++ codes "ms\" repeatCount=\"indefinite\" values=\"")

-- the same, and the end of the element
unfoldable pub last_text : ℕ → List Change → List ℕ
last_text frames changes = times_text frames changes ++ codes "\"/>"

-- when all colours come: the first at once, the others when their changes do
unfoldable pub clock_text : ℕ → List Change → List ℕ
clock_text frames changes = codes "\" keyTimes=\"0" ++ last_text frames changes

-- after the first colour those of the changes, and when they come
unfoldable pub course_text : KeyView → ℕ → List Change → List ℕ
course_text key frames changes = fills_text key changes ++ clock_text frames changes

-- what a cell's colour goes through: the first colour and those of its changes, and when they come
unfoldable pub animate_text : KeyView → ℕ → ℕ → ℕ → List Change → List ℕ
animate_text key frames time class changes = turn_text frames time ++ (fill_of key class ++ course_text key frames changes)

-- what stands first in a cell that changes: its first colour, its column and its row
unfoldable pub place_text : CellShape → ℕ → ℕ → ℕ → List ℕ
place_text shape class x y =
    codes "<path class=\"c" ++ (decimal class ++ (codes "\" d=\"M" ++ (decimal x ++ (codes " " ++ (decimal y ++ (outline shape y ++ codes "\">"))))))

-- a cell that changes
unfoldable pub changing_text : KeyView → ℕ → ℕ → ℕ → ℕ → ℕ → List Change → List ℕ
changing_text key frames time class x y changes = place_text key.styles.shape class x y ++ (animate_text key frames time class changes ++ codes "</path>\n")

-- a cell at a column and a row, which has this colour at first: one that never changes stands as in a picture of one round
abbrev pub moving_text : KeyView → ℕ → ℕ → ℕ → ℕ → ℕ → List Change → List ℕ
moving_text key frames time class x y [] = cell_text key.styles.shape class x y
moving_text key frames time class x y (change ∷ changes) = changing_text key frames time class x y (change ∷ changes)

-- the cell of a node in rows of a width, with these colours frame by frame
abbrev pub node_cell : KeyView → ℕ → ℕ → ℕ → ℕ → List ℕ → List ℕ
node_cell key frames time width u classes = moving_text key frames time (slice_index classes 0) (u % width) (u / width) (changes_of classes)

-- the cell of a node, where the values of all nodes stand frame by frame
abbrev pub node_text : KeyView → ℕ → ℕ → ℕ → ℕ → List ℕ → ℕ → List ℕ
node_text key frames time width nodes values u = node_cell key frames time width u (classes_of key values nodes frames u)

-- all cells in rows of a width
abbrev pub moving_cells : KeyView → ℕ → ℕ → ℕ → ℕ → List ℕ → List ℕ
moving_cells key frames time width nodes values = flat_map (node_text key frames time width nodes values) (numbers_below nodes)

-- the same, as large as they are to be
unfoldable pub moving_group : KeyView → ℕ → ℕ → ℕ → ℕ → List ℕ → List ℕ
moving_group key frames time width nodes values =
    codes "<g transform=\"scale("
    ++ (decimal (side_of width nodes) ++ (codes ")" ++ (lattice key.styles.shape ++ (codes "\">\n" ++ (moving_cells key frames time width nodes values ++ codes "</g>\n")))))

-- cells that are coloured by a key, and the legend of the key
abbrev pub moving_sheet : KeyView → ℕ → ℕ → ℕ → ℕ → List ℕ → List ℕ
moving_sheet key frames time width nodes values =
    opening_text (sheet_width key width nodes) (sheet_height key width nodes)
    ++ (style_text key ++ (moving_group key frames time width nodes values ++ (legend_text key (legend_top width nodes) ++ codes "</svg>\n")))

-- the text is the picture of the rounds that are drawn as a grid that moves: a frame for each
abbrev pub IsMovingPicture : PlanView → Drawing → MovingGrid → List ℕ → Type 0
IsMovingPicture p drawing grid text =
    (key : KeyView) × IsKey drawing.colouring.styles.now (values_drawn p drawing) key
    × (text ≡ moving_sheet key (count_of drawing.span.now) grid.time grid.width (length p.network) (values_drawn p drawing))

-- why there is none, in rows of a width
abbrev pub moving_refusal : PlanView → Drawing → ℕ → Option PictureFault
moving_refusal p drawing width =
    option_or (drawing_refusal p drawing)
    (if width == 0 then Some NoWidth
    else if nat_lt most_cells (length p.network * count_of drawing.span.now) then Some TooManyCells
    else if nat_lt most_frames (count_of drawing.span.now) then Some TooManyFrames
    else None)

-- ---- laws

-- the number of the colour that a cell shows in frame r: that of the last change up to then, and before the first this one
abbrev pub shown_in : ℕ → List Change → ℕ → ℕ
shown_in class [] r = class
shown_in class (change ∷ changes) r = if nat_le change.frame r then shown_in change.class changes r else class

-- In frame r the cell of node u shows the colour of the node's value after the r-th round of the span, both counted from 0.
abbrev pub EachFrameHasItsColours : Type 0
EachFrameHasItsColours =
    (key : KeyView) (p : PlanView) (span : SpanView) (field u r : ℕ) → u < length p.network → r < count_of span
    → shown_in (slice_index (classes_of key (values_in p span field) (length p.network) (count_of span) u) 0)
    (changes_of (classes_of key (values_in p span field) (length p.network) (count_of span) u)) r
    ≡ class_of key (slice_index (values_after p field (round_at span r)) u)

-- In the middle of frame r exactly those frames have begun that come up to it: half a frame more than r of so many, in millionths, is not less than when they begin.
abbrev pub EachFrameHasItsTime : Type 0
EachFrameHasItsTime = (frames r s : ℕ) → 1 ≤ frames → frames ≤ most_frames → (begins frames s * (2 * frames) ≤ (2 * r + 1) * 1000000) ↔ (s ≤ r)

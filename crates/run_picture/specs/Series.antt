-- A picture of its own for each round of a span, all in the same colours.
use Rattle.std.specs.Prelude.{◌≡◌, ℕ, ◌*◌, ◌/◌, ◌==◌, ◌≤◌, List, if◌then◌else◌, length, map, nat_lt, sum_by, Option, Some, None}
use Rattle.std.specs.Option.{option_or}
use Rattle.link_net.specs.Neighbours.{Neighbours}
use Rattle.rounds_plan.specs.Plans.{PlanView}
use Rattle.run_watch.specs.Spans.{count_of, rounds_in}
use Rattle.run_picture.specs.declared.drawing.Drawing.{Drawing}
use Rattle.run_picture.specs.declared.each_round.Layout.{Layout}
use Rattle.run_picture.specs.declared.each_round.Layout.TheVariants.{Cells, Network}
use Rattle.run_picture.specs.declared.fault.PictureFault.{PictureFault}
use Rattle.run_picture.specs.declared.fault.PictureFault.TheVariants.{NoWidth, TooManyCells, TooManyFrames, TooManyLinks}
use Rattle.run_picture.specs.Frames.{drawing_refusal, most_cells, values_after, values_drawn}
use Rattle.run_picture.specs.Moving.{most_frames}
use Rattle.run_picture.specs.Nets.{net_sheet}
use Rattle.run_picture.specs.Shades.{IsKey, KeyView}
use Rattle.run_picture.specs.Sheets.{sheet_text}

-- the picture of the values of all nodes in one round, coloured by a key: cells in rows of a width, or the network
abbrev pub round_sheet : Layout → KeyView → Neighbours → List ℕ → List ℕ
round_sheet (Cells width) key network values = sheet_text key width values
round_sheet Network key network values = net_sheet key 1 1 network values

-- the pictures of the rounds that are drawn, in order, all coloured by one key
abbrev pub round_sheets : KeyView → PlanView → Drawing → Layout → List (List ℕ)
round_sheets key p drawing layout = map (λ t. round_sheet layout key p.network (values_after p drawing.colouring.field t)) (rounds_in drawing.span.now)

-- The texts are these pictures. The colours follow from the values in all of these rounds, so that a value has the same one in each.
abbrev pub AreRoundPictures : PlanView → Drawing → Layout → List (List ℕ) → Type 0
AreRoundPictures p drawing layout texts = (key : KeyView) × IsKey drawing.colouring.styles.now (values_drawn p drawing) key × (texts ≡ round_sheets key p drawing layout)

-- the most lines of links in all pictures together
abbrev pub most_strokes : ℕ
most_strokes = 1000000

-- how many links a network has: each stands with both of its nodes
abbrev pub link_count : Neighbours → ℕ
link_count network = sum_by length network / 2

-- why a layout has no pictures
abbrev pub layout_refusal : Layout → ℕ → ℕ → Option PictureFault
layout_refusal (Cells width) links frames = if width == 0 then Some NoWidth else None
layout_refusal Network links frames = if nat_lt most_strokes (links * frames) then Some TooManyLinks else None

-- rows of cells have some
abbrev pub HasCells : Layout → Type 0
HasCells (Cells width) = 1 ≤ width
HasCells Network = Unit {0}

-- why there are none
abbrev pub series_refusal : PlanView → Drawing → Layout → Option PictureFault
series_refusal p drawing layout =
    option_or (drawing_refusal p drawing)
    (if nat_lt most_cells (length p.network * count_of drawing.span.now) then Some TooManyCells
    else if nat_lt most_frames (count_of drawing.span.now) then Some TooManyFrames
    else layout_refusal layout (link_count p.network) (count_of drawing.span.now))

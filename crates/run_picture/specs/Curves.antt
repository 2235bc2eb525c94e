-- Curves of counts as SVG: how many nodes have each value, round by round.
use Rattle.std.specs.Prelude.{◌≡◌, ◌↔◌, ◌⊎◌, ℕ, ◌+◌, ◌-◌, ◌*◌, ◌/◌, ◌<◌, ◌≤◌, List, ◌++◌, codes, if◌then◌else◌, length, nat_le, nat_lt, Contains, Option, Some, None}
use Rattle.std.specs.Fmt.{decimal}
use Rattle.std.specs.List.{count_by, flat_map}
use Rattle.std.specs.Option.{option_or}
use Rattle.rounds_walk.specs.Counts.{has_value}
use Rattle.rounds_plan.specs.Lockstep.{lockstep_states}
use Rattle.rounds_plan.specs.Plans.{PlanView}
use Rattle.run_watch.specs.Spans.{SpanView, count_of, rounds_in}
use Rattle.run_counts.specs.declared.asked.Counting.{Counting}
use Rattle.run_counts.specs.Rows.{AreRows, AreValues, RowView, count_in}
use Rattle.run_picture.specs.declared.drawing.Drawing.{Drawing}
use Rattle.run_picture.specs.declared.fault.PictureFault.{PictureFault}
use Rattle.run_picture.specs.declared.fault.PictureFault.TheVariants.{OneRound, TooManyPoints, TooManyValues}
use Rattle.run_picture.specs.Frames.{drawing_refusal}
use Rattle.run_picture.specs.Chosen.{StylesView}
use Rattle.run_picture.specs.Shades.{IsKey, KeyView, class_of, fill_of}
use Rattle.run_picture.specs.Sheets.{legend_lines, legend_text, opening_text, style_text, value_text}
use Rattle.run_picture.specs.Ticks.{AreTicks}

-- ---- what is drawn

-- the rows are those of all rounds of a span, counted by a field
pub record AreFieldRows (p : PlanView) (span : SpanView) (field : ℕ) (rows : List RowView) : Type 0 where
  pub counting : Counting
  pub of_field : counting.field ≡ field
  pub all_rounds : counting.until ≡ None
  pub rows_are : AreRows p span counting rows

-- the rows are those of all rounds of a span, and the values are the states, of which there are so many, and those that occur in one of the rounds, by rising number
pub record AreCounted (p : PlanView) (span : SpanView) (field states : ℕ) (rows : List RowView) (values : List ℕ) : Type 0 where
  pub rows_are : AreFieldRows p span field rows
  pub values_are : AreValues states rows values

-- the most points of a curve
abbrev pub most_points : ℕ
most_points = 10000

-- the most curves
abbrev pub most_curves : ℕ
most_curves = 64

-- how many states have a curve, whether or not they occur: all of them, or none where there are too many
abbrev pub states_drawn : StylesView → ℕ
states_drawn styles = if nat_le (length styles.names) most_curves then length styles.names else 0

-- why there are no curves of the rounds that are drawn, of what is known before they are counted
abbrev pub curves_refusal : PlanView → Drawing → Option PictureFault
curves_refusal p drawing =
    option_or (drawing_refusal p drawing)
    (if nat_le (count_of drawing.span.now) 1 then Some OneRound else if nat_lt most_points (count_of drawing.span.now) then Some TooManyPoints else None)

-- ---- the axes

-- The plot begins 64 pixels from the left and 24 from the top; it is 640 pixels wide and 320 high. The legend begins 388 pixels from the top.
abbrev pub curves_legend : ℕ
curves_legend = 388

-- where a round stands, in pixels from the left: the first of a span at the left of the plot, the last at its right
abbrev pub round_place : SpanView → ℕ → ℕ
round_place span t = 64 + (t - span.first) * 640 / (span.last - span.first)

-- where a number of nodes stands, in pixels from the top: 0 at the bottom of the plot, all nodes at its top
abbrev pub count_place : ℕ → ℕ → ℕ
count_place nodes n = 344 - n * 320 / nodes

-- the line of a round from the top of the plot to its bottom, and the round below
unfoldable pub round_line : ℕ → ℕ → List ℕ
round_line x t = codes "<path class=\"grid\" d=\"M" ++ (decimal x ++ (codes " 24v320\"/><text x=\"" ++ (decimal x ++ (codes "\" y=\"360\" text-anchor=\"middle\">" ++ (decimal t ++ codes "</text>\n")))))

-- the line of a number of nodes from the left of the plot to its right, and the number beside it
unfoldable pub count_line : ℕ → ℕ → List ℕ
count_line y n = codes "<path class=\"grid\" d=\"M64 " ++ (decimal y ++ (codes "h640\"/><text x=\"58\" y=\"" ++ (decimal (y + 4) ++ (codes "\" text-anchor=\"end\">" ++ (decimal n ++ codes "</text>\n")))))

-- the lines of these rounds, and of these numbers of nodes
abbrev pub round_lines : SpanView → List ℕ → List ℕ
round_lines span rounds = flat_map (λ t. round_line (round_place span t) t) rounds

abbrev pub count_lines : ℕ → List ℕ → List ℕ
count_lines nodes numbers = flat_map (λ n. count_line (count_place nodes n) n) numbers

-- the styles of all that is drawn
unfoldable pub styles_text : KeyView → List ℕ
styles_text key =
    style_text key
    ++ codes "<style>polyline{fill:none;stroke-width:2;stroke-linejoin:round;shape-rendering:auto;vector-effect:non-scaling-stroke}.edge{stroke:#888888;stroke-width:4}.grid{stroke:#dddddd}.axis{fill:none;stroke:#000000}</style>\n"

-- the two axes, and what they are called
abbrev pub axes_text : List ℕ
axes_text =
    codes "<path class=\"axis\" d=\"M64 24v320h640\"/><text x=\"58\" y=\"14\" text-anchor=\"end\">nodes</text><text x=\"384\" y=\"378\" text-anchor=\"middle\">round</text>\n"

-- ---- the curves

-- a point: a round, and a number of nodes
unfoldable pub point_text : ℕ → ℕ → List ℕ
point_text t n = decimal t ++ (codes "," ++ (decimal n ++ codes " "))

-- the points of a value: for each round how many nodes have it
abbrev pub points_text : List RowView → ℕ → List ℕ
points_text rows v = flat_map (λ row. point_text row.round (count_in row.counts v)) rows

-- the value of a curve, which is told where the pointer rests on it
unfoldable pub title_text : KeyView → ℕ → List ℕ
title_text key v = codes "<title>" ++ (value_text key v ++ codes "</title>")

-- the points of a value as a line, with an attribute of this name and value
unfoldable pub line_text : List ℕ → List ℕ → List RowView → ℕ → List ℕ
line_text name value rows v = codes "<polyline " ++ (name ++ (codes "=\"" ++ (value ++ (codes "\" points=\"" ++ (points_text rows v ++ codes "\"/>")))))

-- the curve of a value: an edge, and on it a line in the colour of the value
unfoldable pub curve_text : KeyView → List RowView → ℕ → List ℕ
curve_text key rows v =
    codes "<g>" ++ (title_text key v ++ (line_text (codes "class") (codes "edge") rows v ++ (line_text (codes "stroke") (fill_of key (class_of key v)) rows v ++ codes "</g>\n")))

-- Where curves are drawn, in numbers of rounds and of nodes: a view from a first round over so many, and of 0 to all nodes, fills the plot, turned so that more nodes stand higher.
unfoldable pub view_text : ℕ → ℕ → ℕ → List ℕ
view_text first across nodes =
    codes "<svg x=\"64\" y=\"24\" width=\"640\" height=\"320\" viewBox=\""
    ++ (decimal first
    ++ (codes " 0 "
    ++ (decimal across
    ++ (codes " " ++ (decimal nodes ++ (codes "\" preserveAspectRatio=\"none\" overflow=\"visible\"><g transform=\"translate(0 " ++ (decimal nodes ++ codes ") scale(1 -1)\">\n")))))))

-- the curves of values
abbrev pub curves_text : SpanView → ℕ → KeyView → List RowView → List ℕ → List ℕ
curves_text span nodes key rows values = view_text span.first (span.last - span.first) nodes ++ (flat_map (curve_text key rows) values ++ codes "</g></svg>\n")

-- the plot: its axes with these rounds and numbers of nodes, and the curves of values
unfoldable pub plot_text : SpanView → ℕ → List ℕ → List ℕ → KeyView → List RowView → List ℕ → List ℕ
plot_text span nodes rounds numbers key rows values = round_lines span rounds ++ (count_lines nodes numbers ++ (axes_text ++ curves_text span nodes key rows values))

-- the size of the whole in pixels from the top to the bottom
abbrev pub curves_height : KeyView → ℕ
curves_height key = curves_legend + 18 * legend_lines key

-- the plot of values in the colours of a key, and the legend of the key
unfoldable pub plotted : SpanView → ℕ → List ℕ → List ℕ → KeyView → List RowView → List ℕ → List ℕ
plotted span nodes rounds numbers key rows values =
    opening_text 744 (curves_height key) ++ (styles_text key ++ (plot_text span nodes rounds numbers key rows values ++ (legend_text key curves_legend ++ codes "</svg>\n")))

-- the rows are those of the rounds that are drawn, and the values are those that have curves, by rising number
abbrev pub AreDrawnCounts : PlanView → Drawing → List RowView → List ℕ → Type 0
AreDrawnCounts p drawing rows values = AreCounted p drawing.span.now drawing.colouring.field (states_drawn drawing.colouring.styles.now) rows values

-- the text is the picture of how many nodes have each value, in each of the rounds that are drawn
pub record IsCountPicture (p : PlanView) (drawing : Drawing) (text : List ℕ) : Type 0 where
  pub rows : List RowView
  pub values : List ℕ
  pub counted : AreDrawnCounts p drawing rows values
  pub few : length values ≤ most_curves
  pub key : KeyView
  pub is_key : IsKey drawing.colouring.styles.now values key
  -- what stands at the axes
  pub rounds : List ℕ
  pub are_rounds : AreTicks drawing.span.now.first drawing.span.now.last rounds
  pub numbers : List ℕ
  pub are_numbers : AreTicks 0 (length p.network) numbers
  pub spelled : text ≡ plotted drawing.span.now (length p.network) rounds numbers key rows values

-- more values have curves in the rounds that are drawn than there may be
pub record HasManyValues (p : PlanView) (drawing : Drawing) : Type 0 where
  pub rows : List RowView
  pub values : List ℕ
  pub counted : AreDrawnCounts p drawing rows values
  pub many : most_curves < length values

-- why there is no picture, memory aside: what is known before rounds are counted, or else that too many values occur
abbrev pub IsCurveFault : PlanView → Drawing → PictureFault → Type 0
IsCurveFault p drawing fault = (curves_refusal p drawing ≡ Some fault) ⊎ ((fault ≡ TooManyValues) × (curves_refusal p drawing ≡ None) × HasManyValues p drawing)

-- ---- laws

-- how many nodes have a value of a field after round t
abbrev pub nodes_with : PlanView → ℕ → ℕ → ℕ → ℕ
nodes_with p field v t = count_by (has_value field v) (lockstep_states p t (length p.network))

-- The curve of a value has one point for each round of the span, in order; its height is the number of nodes that have the value after the round.
abbrev pub EachRoundHasItsPoint : Type 0
EachRoundHasItsPoint =
    (p : PlanView) (span : SpanView) (field states : ℕ) (rows : List RowView) (values : List ℕ) (v : ℕ) → AreCounted p span field states rows values
    → points_text rows v ≡ flat_map (λ t. point_text t (nodes_with p field v t)) (rounds_in span)

-- A value has a curve exactly where it is a state, of which there are so many, or some node has it after one of the rounds of the span.
abbrev pub EachValueHasItsCurve : Type 0
EachValueHasItsCurve =
    (p : PlanView) (span : SpanView) (field states : ℕ) (rows : List RowView) (values : List ℕ) (v : ℕ) → AreCounted p span field states rows values
    → Contains values v ↔ ((v < states) ⊎ ((t : ℕ) × Contains (rounds_in span) t × (1 ≤ nodes_with p field v t)))

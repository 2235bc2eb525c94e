-- Networks drawn by nodes and links as SVG, in one frame or in several that come over and over.
use Rattle.std.specs.Prelude.{◌≡◌, ℕ, ◌+◌, ◌*◌, max, List, [], ◌∷◌, ◌++◌, codes, if◌then◌else◌, length, nat_lt, slice_index, Option, Some, None}
use Rattle.std.specs.Fmt.{decimal}
use Rattle.std.specs.List.{flat_map}
use Rattle.std.specs.Option.{option_or}
use Rattle.link_net.specs.Neighbours.{IsNetwork, Neighbours, degree, neighbour, numbers_below}
use Rattle.rounds_plan.specs.Plans.{PlanView}
use Rattle.run_watch.specs.Spans.{count_of}
use Rattle.run_picture.specs.declared.changes.Change.{Change}
use Rattle.run_picture.specs.declared.drawing.Drawing.{Drawing}
use Rattle.run_picture.specs.declared.fault.PictureFault.{PictureFault}
use Rattle.run_picture.specs.declared.fault.PictureFault.TheVariants.{TooManyCells, TooManyFrames}
use Rattle.run_picture.specs.declared.places.Place.{Place}
use Rattle.run_picture.specs.DrawnLinks.{AreAllLinks}
use Rattle.run_picture.specs.Frames.{drawing_refusal, most_cells, values_drawn}
use Rattle.run_picture.specs.Moving.{animate_text, changes_of, classes_of, most_frames}
use Rattle.run_picture.specs.Shades.{IsKey, KeyView}
use Rattle.run_picture.specs.Sheets.{legend_lines, legend_text, legend_width, opening_text, style_text}
use Rattle.run_picture.specs.Standing.{across, place_of, radius_of}

-- ---- links

-- the line of a link from a place to a place
unfoldable pub stroke_text : Place → Place → List ℕ
stroke_text p q = codes "<path d=\"M" ++ (decimal p.x ++ (codes " " ++ (decimal p.y ++ (codes "L" ++ (decimal q.x ++ (codes " " ++ (decimal q.y ++ codes "\"/>\n")))))))

-- the line of a link between two of so many nodes
abbrev pub link_stroke : ℕ → ℕ → ℕ → List ℕ
link_stroke nodes u w = stroke_text (place_of nodes u) (place_of nodes w)

-- the line of the link at slot j of node u, where the neighbour has the greater number, so that each link has one
abbrev pub slot_stroke : Neighbours → ℕ → ℕ → List ℕ
slot_stroke network u j = if nat_lt u (neighbour network u j) then link_stroke (length network) u (neighbour network u j) else []

-- the links of a node that lead to greater numbers
abbrev pub strokes_at : Neighbours → ℕ → List ℕ
strokes_at network u = flat_map (slot_stroke network u) (numbers_below (degree network u))

-- all links
abbrev pub strokes_text : Neighbours → List ℕ
strokes_text network = flat_map (strokes_at network) (numbers_below (length network))

-- the same, in grey
unfoldable pub strokes_group : Neighbours → List ℕ
strokes_group network = codes "<g stroke=\"#bbbbbb\" shape-rendering=\"auto\">\n" ++ (strokes_text network ++ codes "</g>\n")

-- ---- nodes

-- what stands first in a node: its first colour, its place, its radius, and its number, which is told where the pointer rests on it
unfoldable pub circle_text : ℕ → Place → ℕ → ℕ → List ℕ
circle_text class p r u =
    codes "<circle class=\"c"
    ++ (decimal class
    ++ (codes "\" cx=\""
    ++ (decimal p.x ++ (codes "\" cy=\"" ++ (decimal p.y ++ (codes "\" r=\"" ++ (decimal r ++ (codes "\"><title>" ++ (decimal u ++ codes "</title>")))))))))

-- what a node's colour goes through, where it changes
abbrev pub turns_text : KeyView → ℕ → ℕ → ℕ → List Change → List ℕ
turns_text key frames time class [] = []
turns_text key frames time class (change ∷ changes) = animate_text key frames time class (change ∷ changes)

-- a node of so many, with this first colour and these changes
unfoldable pub changing_circle : KeyView → ℕ → ℕ → ℕ → ℕ → ℕ → List Change → List ℕ
changing_circle key frames time nodes u class changes =
    circle_text class (place_of nodes u) (radius_of nodes) u ++ (turns_text key frames time class changes ++ codes "</circle>\n")

-- the same, with these colours frame by frame
abbrev pub node_circle : KeyView → ℕ → ℕ → ℕ → ℕ → List ℕ → List ℕ
node_circle key frames time nodes u classes = changing_circle key frames time nodes u (slice_index classes 0) (changes_of classes)

-- a node, where the values of all nodes stand frame by frame
abbrev pub circle_of : KeyView → ℕ → ℕ → ℕ → List ℕ → ℕ → List ℕ
circle_of key frames time nodes values u = node_circle key frames time nodes u (classes_of key values nodes frames u)

-- all nodes
abbrev pub circles_text : KeyView → ℕ → ℕ → ℕ → List ℕ → List ℕ
circles_text key frames time nodes values = flat_map (circle_of key frames time nodes values) (numbers_below nodes)

-- the same, each with a grey edge
unfoldable pub circles_group : KeyView → ℕ → ℕ → ℕ → List ℕ → List ℕ
circles_group key frames time nodes values =
    codes "<g stroke=\"#555555\" stroke-width=\"0.5\" shape-rendering=\"auto\">\n" ++ (circles_text key frames time nodes values ++ codes "</g>\n")

-- ---- the picture

-- where the legend begins, in pixels from the top
abbrev pub net_legend : ℕ → ℕ
net_legend nodes = across nodes + 48

-- the size of the whole in pixels across, with room for the legend
abbrev pub net_width : KeyView → ℕ → ℕ
net_width key nodes = max (across nodes + 40) (legend_width key)

-- the size of the whole in pixels from the top to the bottom
abbrev pub net_height : KeyView → ℕ → ℕ
net_height key nodes = net_legend nodes + 18 * legend_lines key

-- a network whose nodes are coloured by a key, where their values stand frame by frame, and the legend of the key
abbrev pub net_sheet : KeyView → ℕ → ℕ → Neighbours → List ℕ → List ℕ
net_sheet key frames time network values =
    opening_text (net_width key (length network)) (net_height key (length network))
    ++ (style_text key
    ++ (strokes_group network ++ (circles_group key frames time (length network) values ++ (legend_text key (net_legend (length network)) ++ codes "</svg>\n"))))

-- the text is the picture of a plan's network in the rounds that are drawn: a frame for each, which is seen for so many milliseconds
abbrev pub IsNetPicture : PlanView → Drawing → ℕ → List ℕ → Type 0
IsNetPicture p drawing time text =
    (key : KeyView) × IsKey drawing.colouring.styles.now (values_drawn p drawing) key
    × (text ≡ net_sheet key (count_of drawing.span.now) time p.network (values_drawn p drawing))

-- why there is none
abbrev pub net_refusal : PlanView → Drawing → Option PictureFault
net_refusal p drawing =
    option_or (drawing_refusal p drawing)
    (if nat_lt most_cells (length p.network * count_of drawing.span.now) then Some TooManyCells
    else if nat_lt most_frames (count_of drawing.span.now) then Some TooManyFrames
    else None)

-- ---- a law

-- the lines of these links, one after the other
abbrev pub strokes_of : ℕ → List (ℕ × ℕ × ℕ) → List ℕ
strokes_of nodes links = flat_map (λ l. link_stroke nodes l.0 l.1) links

-- The lines between nodes are those of the links of the network, each once, from where one of its nodes stands to where the other does.
abbrev pub EachLinkHasItsLine : Type 0
EachLinkHasItsLine =
    (network : Neighbours) → IsNetwork network → (links : List (ℕ × ℕ × ℕ)) × (strokes_text network ≡ strokes_of (length network) links) × AreAllLinks network links

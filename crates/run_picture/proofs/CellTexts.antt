-- The text of cells tells the cells.
use Rattle.std.proofs.Common.{◌≡◌, ◌∙◌, ◌%◌, ◌==◌, ℕ, suc, List, [], ◌∷◌, ◌++◌, Bool, true, false, if◌then◌else◌, ap, append_assoc, arith, codes, drop, length, refl, sym}
use Rattle.std.proofs.lemmas.List.{append_cancel_left}
use Rattle.std.specs.Fmt.{decimal}
use Rattle.report_text.proofs.Digits.{number_once}
use Rattle.report_text.specs.Front.{Ends}
use Rattle.run_picture.specs.declared.chosen.CellShape.{CellShape}
use Rattle.run_picture.specs.declared.chosen.CellShape.TheVariants.{Square, Hexagon}
use Rattle.run_picture.specs.DrawnLinks.{FitsWords}
use Rattle.run_picture.specs.Placed.{TextTellsCells, drawn}
use Rattle.run_picture.specs.Sheets.{cell_text, outline}

-- what stands before the number of the colour, between it and the column, and after the row
abbrev before_colour : List ℕ
before_colour = codes "<path class=\"c"

abbrev before_column : List ℕ
before_column = codes "\" d=\"M"

abbrev behind_row : CellShape → ℕ → List ℕ
behind_row shape y = outline shape y ++ codes "\"/>\n"

-- the parts of a cell's text, and what stands after it
cell_apart : (shape : CellShape) (class x y : ℕ) (rest : List ℕ)
    → cell_text shape class x y ++ rest ≡ before_colour ++ (decimal class ++ (before_column ++ (decimal x ++ (codes " " ++ (decimal y ++ (behind_row shape y ++ rest))))))
unfolding cell_text
cell_apart shape class x y rest =
    ap (λ (text : List ℕ). before_colour ++ text)
    (append_assoc (decimal class) (before_column ++ (decimal x ++ (codes " " ++ (decimal y ++ behind_row shape y)))) rest
    ∙ ap (λ (text : List ℕ). decimal class ++ (before_column ++ text))
    (append_assoc (decimal x) (codes " " ++ (decimal y ++ behind_row shape y)) rest ∙ ap (λ (text : List ℕ). decimal x ++ (codes " " ++ text)) (append_assoc (decimal y) (behind_row shape y) rest)))

-- what stands after a row begins with no digit
ends_by : (b : Bool) (rest : List ℕ)
    → Ends (((if b then codes "m1-.16667l.5 .33333v.66667l-.5 .33333-.5-.33333v-.66667z" else codes "m.5-.16667l.5 .33333v.66667l-.5 .33333-.5-.33333v-.66667z") ++ codes "\"/>\n") ++ rest)
ends_by true rest = refl
ends_by false rest = refl

ends_row : (shape : CellShape) (y : ℕ) (rest : List ℕ) → Ends (behind_row shape y ++ rest)
ends_row Square y rest = refl
ends_row Hexagon y rest = ends_by (y % 2 == 1) rest

-- the text at the front tells its cell
record SameFront (c d : ℕ × ℕ × ℕ) (rest more : List ℕ) : Type 0 where
  cell : c ≡ d
  behind : rest ≡ more

cell_once : (shape : CellShape) (c d : ℕ × ℕ × ℕ) (rest more : List ℕ) → FitsWords c → FitsWords d → cell_text shape c.0 c.1 c.2 ++ rest ≡ cell_text shape d.0 d.1 d.2 ++ more
    → SameFront c d rest more
cell_once shape c d rest more small tiny same =
    let row = decimal c.2 ++ (behind_row shape c.2 ++ rest) in
    let other_row = decimal d.2 ++ (behind_row shape d.2 ++ more) in
    let column = decimal c.1 ++ (codes " " ++ row) in
    let other_column = decimal d.1 ++ (codes " " ++ other_row) in
    let texts = sym (cell_apart shape c.0 c.1 c.2 rest) ∙ same ∙ cell_apart shape d.0 d.1 d.2 more in
    let colours = append_cancel_left before_colour (decimal c.0 ++ (before_column ++ column)) (decimal d.0 ++ (before_column ++ other_column)) texts in
    let first = number_once c.0 d.0 (before_column ++ column) (before_column ++ other_column) small.0 tiny.0 refl refl colours in
    let second = number_once c.1 d.1 (codes " " ++ row) (codes " " ++ other_row) small.1 tiny.1 refl refl (append_cancel_left before_column column other_column first.1) in
    let third =
    number_once c.2 d.2 (behind_row shape c.2 ++ rest) (behind_row shape d.2 ++ more) small.2 tiny.2 (ends_row shape c.2 rest) (ends_row shape d.2 more)
    (append_cancel_left (codes " ") row other_row second.1) in
    let behind : behind_row shape c.2 ++ rest ≡ behind_row shape c.2 ++ more = third.1 ∙ ap (λ (y : ℕ). behind_row shape y ++ more) (sym third.0) in
    record { cell = λ i. (first.0 i, second.0 i, third.0 i); behind = append_cancel_left (behind_row shape c.2) rest more behind }

-- no cell's text is empty
cell_some : (shape : CellShape) (c : ℕ × ℕ × ℕ) (rest : List ℕ) → [] ≡ cell_text shape c.0 c.1 c.2 ++ rest → ⊥
cell_some shape c rest same =
    let e : 0 ≡ suc (length (drop 1 (before_colour ++ (decimal c.0 ++ (before_column ++ (decimal c.1 ++ (codes " " ++ (decimal c.2 ++ (behind_row shape c.2 ++ rest))))))))) = ap length (same ∙ cell_apart shape c.0 c.1 c.2 rest) in
    omega (arith, e)

pub text_tells_cells : TextTellsCells
text_tells_cells shape [] [] small tiny same = refl
text_tells_cells shape [] (d ∷ others) small tiny same = absurd (cell_some shape d (drawn shape others) same)
text_tells_cells shape (c ∷ cells) [] small tiny same = absurd (cell_some shape c (drawn shape cells) (sym same))
text_tells_cells shape (c ∷ cells) (d ∷ others) small tiny same =
    let front = cell_once shape c d (drawn shape cells) (drawn shape others) (small 0 c (omega arith)) (tiny 0 d (omega arith)) same in
    let rest = text_tells_cells shape cells others (λ i e inside. small (suc i) e (omega (arith, inside))) (λ i e inside. tiny (suc i) e (omega (arith, inside))) front.behind in
    λ i. front.cell i ∷ rest i

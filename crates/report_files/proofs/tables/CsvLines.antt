-- Records that grow by cells, and texts that grow by records.
use Rattle.std.proofs.Common.{◌≡◌, ℕ, ◌+◌, ◌≤◌, Bool, true, false, List, [], ◌∷◌, ◌++◌, length, get_or, take, refl, sym, ap, subst, ◌∙◌, arith, append_assoc, add-one, Some, slice_get, inl, inr}
use Rattle.std.proofs.lemmas.Bool.{cases_lt}
use Rattle.std.proofs.lemmas.List.{append-nil, take_all, length-take-le}
use Rattle.std.proofs.lemmas.List.FromFn.{map-range_with_len_more}
use Rattle.std.proofs.lemmas.Option.{slice_get_within, get_or_from_slice_get}
use Rattle.std.proofs.Math.Seq.{take-suc}
use Rattle.csv.specs.Writing.{default_writer, row_text}
use Rattle.report_files.specs.declared.tables.row.Row.{Row}
use Rattle.report_files.specs.tables.Csv.{AreNodes, AreRowsOfNodes, IsNode, cell_of, node_cells, node_records, records_text, value_cells}

pub cells_more : (names : List (List ℕ)) (marks : List Bool) (words : List ℕ) (k : ℕ) (old before later : List (List ℕ)) → before ≡ old ++ value_cells names marks words k → later ≡ before ++ cell_of names (get_or marks k false) (get_or words k 0) ∷ [] → later ≡ old ++ value_cells names marks words (k + 1)
cells_more names marks words k old before later so_far one =
    let cell = λ (i : ℕ). cell_of names (get_or marks i false) (get_or words i 0) in
    one ∙ ap (λ cs. cs ++ cell k ∷ []) so_far ∙ append_assoc old (value_cells names marks words k) (cell k ∷ [])
    ∙ ap (λ cs. old ++ cs) (sym (map-range_with_len_more cell 0 k k (omega arith)))

pub nodes_more : (names : List (List ℕ)) (marks : List Bool) (words : List ℕ) (k : ℕ) → AreNodes names marks words k → (get_or marks k false ≡ true → IsNode names (get_or words k 0)) → AreNodes names marks words (k + 1)
nodes_more names marks words k before one j within marked = elim (cases_lt j k) [
  | inl below ↦ before j below marked
  | inr last ↦ (let same : j ≡ k = omega arith in subst (λ i. IsNode names (get_or words i 0)) (sym same) (one (ap (λ i. get_or marks i false) (sym same) ∙ marked)))
]

text_append : (xs ys : List (List (List ℕ))) → records_text (xs ++ ys) ≡ records_text xs ++ records_text ys
text_append [] ys = refl
text_append (x ∷ xs) ys = ap (λ t. row_text default_writer x ++ t) (text_append xs ys) ∙ sym (append_assoc (row_text default_writer x) (records_text xs) (records_text ys))

records_last : (names : List (List ℕ)) (marks : List Bool) (fields u k : ℕ) (rows : List Row) (row : Row) → k ≡ u + length rows → node_records names marks fields u (rows ++ row ∷ []) ≡ node_records names marks fields u rows ++ node_cells names marks fields k row ∷ []
records_last names marks fields u k [] row at = let e : u ≡ k = omega arith in ap (λ n. node_cells names marks fields n row ∷ []) e
records_last names marks fields u k (r ∷ rows) row at = ap (λ rs. node_cells names marks fields u r ∷ rs) (records_last names marks fields (u + 1) k rows row (omega arith))

take_more : (rows : List Row) (k : ℕ) (row : Row) → slice_get rows k ≡ Some row → take (k + 1) rows ≡ take k rows ++ row ∷ []
take_more rows k row is =
    ap (λ n. take n rows) (add-one k) ∙ take-suc rows k row (slice_get_within rows k row is) ∙ ap (λ r. take k rows ++ r ∷ []) (get_or_from_slice_get rows k row row is)

pub text_more : (names : List (List ℕ)) (marks : List Bool) (fields : ℕ) (rows : List Row) (k : ℕ) (row : Row) (old before later : List ℕ) → slice_get rows k ≡ Some row
    → before ≡ old ++ records_text (node_records names marks fields 0 (take k rows)) → later ≡ before ++ row_text default_writer (node_cells names marks fields k row) → later ≡ old ++ records_text (node_records names marks fields 0 (take (k + 1) rows))
text_more names marks fields rows k row old before later is so_far one =
    let cells = node_cells names marks fields k row in
    let here = node_records names marks fields 0 (take k rows) in
    let inside = slice_get_within rows k row is in
    let size = length-take-le k rows (omega arith) in
    let all : node_records names marks fields 0 (take (k + 1) rows) ≡ here ++ cells ∷ [] = ap (node_records names marks fields 0) (take_more rows k row is) ∙ records_last names marks fields 0 k (take k rows) row (omega (arith, size)) in
    one ∙ ap (λ t. t ++ row_text default_writer cells) so_far ∙ append_assoc old (records_text here) (row_text default_writer cells)
    ∙ ap (λ t. old ++ t) (ap (λ t. records_text here ++ t) (sym (append-nil (row_text default_writer cells))) ∙ sym (text_append here (cells ∷ [])) ∙ ap records_text (sym all))

pub rows_more : (names : List (List ℕ)) (marks : List Bool) (fields : ℕ) (rows : List Row) (k : ℕ) (row : Row) → slice_get rows k ≡ Some row → AreNodes names marks row.state.words fields → AreRowsOfNodes names marks fields rows k → AreRowsOfNodes names marks fields rows (k + 1)
rows_more names marks fields rows k row is one before j other within here = elim (cases_lt j k) [
  | inl below ↦ before j other below here
  | inr last ↦
      (let same : j ≡ k = omega arith in
      let both : Some other ≡ Some row = sym here ∙ ap (slice_get rows) same ∙ is in
      let alike : other ≡ row = cc in
      subst (λ r. AreNodes names marks r.state.words fields) (sym alike) one)
]

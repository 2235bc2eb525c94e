-- Configurations that are shown whole.
use Rattle.std.proofs.Common.{◌≡◌, ◌∙◌, ◌<◌, ◌≤◌, ◌+◌, ◌++◌, ◌||◌, not, ℕ, suc, List, [], ◌∷◌, Bool, true, false, if◌then◌else◌, All, ap, append-nil, arith, codes, length, refl, slice_get, slice_index, slice_index_or, string_bytes, subst, sym}
use Rattle.std.specs.Fmt.{decimal}
use Rattle.std.specs.List.{flat_map, range_with_len}
use Rattle.std.specs.Option.{option_map}
use Rattle.std.specs.Prelude.{Option, Some, None}
use Rattle.rule_check.specs.declared.state.State.{State}
use Rattle.link_net.specs.Neighbours.{numbers_below}
use Rattle.rounds_plan.specs.Configs.{Configuration, blank}
use Rattle.rounds_plan.specs.Lockstep.{state_in}
use Rattle.report_text.specs.Report.{field_text, fields_text, node_line, node_lines, report_text, round_line}
use Rattle.run_watch.specs.declared.show.Format.{Format}
use Rattle.run_watch.specs.declared.show.Format.TheVariants.{Report}
use Rattle.run_watch.specs.declared.show.Show.{Show}
use Rattle.run_watch.specs.Reports.{ShowsAll, WholePartsAreReports}
use Rattle.run_watch.specs.Watching.{cell_text, cells_text, differs, head_text, is_changed, label_of, node_text, part_text, row_end, row_start, row_text, shown_nodes, value_name}

-- the fields of all places in order
fields_are : (names : List (List ℕ)) (words : List ℕ) (i : ℕ) (f : ℕ → List ℕ) → length names ≤ length words
    → ((k : ℕ) → k < length names → f (i + k) ≡ field_text (slice_index_or names k []) (slice_index words k)) → flat_map f (range_with_len i (length names)) ≡ fields_text names words
fields_are [] words i f few each = refl
fields_are (name ∷ names) [] i f few each = absurd (omega (arith, few))
fields_are (name ∷ names) (w ∷ words) i f few each =
    let here : f i ≡ field_text name w = subst (λ (k : ℕ). f k ≡ field_text name w) (omega arith) (each 0 (omega arith)) in
    let rest = fields_are names words (i + 1) f (omega (arith, few))
    (λ k inside.
    let e : i + suc k ≡ i + 1 + k = omega arith in
    subst (λ (j : ℕ). f j ≡ field_text (slice_index_or names k []) (slice_index words k)) e (each (suc k) (omega (arith, inside)))) in
    ap (λ (text : List ℕ). text ++ flat_map f (range_with_len (i + 1) (length names))) here ∙ ap (λ (text : List ℕ). field_text name w ++ text) rest

-- the lines of all nodes in order
lines_are : (names : List (List ℕ)) (states : List State) (i : ℕ) (f : ℕ → List ℕ)
    → ((k : ℕ) → k < length states → f (i + k) ≡ node_line names (i + k) (state_in states k)) → flat_map f (range_with_len i (length states)) ≡ node_lines names i states
lines_are names [] i f each = refl
lines_are names (s ∷ states) i f each =
    let here : f i ≡ node_line names i s = subst (λ (k : ℕ). f k ≡ node_line names k s) (omega arith) (each 0 (omega arith)) in
    let rest = lines_are names states (i + 1) f
    (λ k inside.
    let e : i + suc k ≡ i + 1 + k = omega arith in
    subst (λ (j : ℕ). f j ≡ node_line names j (state_in states k)) e (each (suc k) (omega (arith, inside)))) in
    ap (λ (text : List ℕ). text ++ flat_map f (range_with_len (i + 1) (length states))) here ∙ ap (λ (text : List ℕ). node_line names i s ++ text) rest

-- each node is shown where not only changes are asked for
shown_all : (show : Show) (old : Option State) (new : State) → show.changes ≡ false → differs show old new ≡ true
shown_all show None new all = refl
shown_all show (Some old) new all = ap (λ (b : Bool). not b || is_changed show.fields.now old new) all

module _ (show : Show) (names : List (List ℕ)) (whole : ShowsAll show (length names)) where
  cells_are : (state : State) → length names ≤ length state.words → cells_text show names state ≡ fields_text names state.words
  cells_are state few =
      ap (λ (format : Format). flat_map (λ (k : ℕ). cell_text format (slice_index_or names k []) (value_name show k (slice_index state.words k)) (slice_index state.words k)) show.fields.now) whole.report
      ∙ ap (flat_map (λ (k : ℕ). field_text (slice_index_or names k []) (slice_index state.words k))) whole.fields
      ∙ fields_are names state.words 0 (λ (k : ℕ). field_text (slice_index_or names k []) (slice_index state.words k)) few
      (λ k inside.
      let e : 0 + k ≡ k = omega arith in
      ap (λ (j : ℕ). field_text (slice_index_or names j []) (slice_index state.words j)) e)

  label_is : (u : ℕ) → label_of (option_map string_bytes (slice_get show.labels.now u)) u ≡ decimal u
  label_is u = ap (λ labels. label_of (option_map string_bytes (slice_get labels u)) u) whole.labels

  row_is : (t u : ℕ) (state : State) → length names ≤ length state.words → row_text show names t u state ≡ node_line names u state
  row_is t u state few =
      ap (λ (format : Format). row_start format t ++ (label_of (option_map string_bytes (slice_get show.labels.now u)) u ++ (cells_text show names state ++ row_end format))) whole.report
      ∙ ap (λ (label : List ℕ). label ++ (cells_text show names state ++ codes "\n")) (label_is u)
      ∙ ap (λ (cells : List ℕ). decimal u ++ (cells ++ codes "\n")) (cells_are state few)

  node_is : (before : List State) (c : Configuration) (u : ℕ) → length names ≤ length (state_in c.states u).words → node_text show names before c u ≡ node_line names u (state_in c.states u)
  node_is before c u few =
      let state = state_in c.states u in
      ap (λ (b : Bool). if b then row_text show names c.rounds u state else []) (shown_all show (slice_get before u) state whole.all)
      ∙ row_is c.rounds u state few

  head_is : (t count : ℕ) → head_text show.format show.changes t count ≡ round_line t
  head_is t count =
      ap (λ (format : Format). head_text format show.changes t count) whole.report
      ∙ ap (λ (b : Bool). head_text Report b t count) whole.all
      ∙ append-nil (round_line t)

  part_is : (before : List State) (c : Configuration) → All (λ state. length names ≤ length state.words) c.states → part_text show names before c ≡ report_text names c
  part_is before c wide =
      let text = node_text show names before c in
      ap (λ (head : List ℕ). head ++ flat_map text (numbers_below (length c.states))) (head_is c.rounds (length (shown_nodes show before c.states)))
      ∙ ap (λ (lines : List ℕ). round_line c.rounds ++ lines)
      (lines_are names c.states 0 text
      (λ k inside.
      let e : 0 + k ≡ k = omega arith in
      subst (λ (j : ℕ). text j ≡ node_line names j (state_in c.states k)) (sym e) (node_is before c k (wide k blank inside))))

pub whole_parts_are_reports : WholePartsAreReports
whole_parts_are_reports show names before c whole wide = part_is show names whole before c wide

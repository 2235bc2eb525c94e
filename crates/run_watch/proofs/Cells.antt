-- Lines of CSV, cut at their commas.
use Rattle.std.proofs.Common.{◌≡◌, ◌≢◌, ◌∙◌, ◌<◌, ◌^◌, ℕ, zero, suc, List, [], ◌∷◌, ◌++◌, false, Global, String, All, ap, append-nil, append_assoc, arith, codes, drop, get_or, length, map, refl, slice_get, slice_index, slice_index_or, string_bytes, sym}
use Rattle.std.proofs.lemmas.Bool.Decides.{nat_tests}
use Rattle.std.proofs.lemmas.Fmt.{decimal_injective}
use Rattle.std.proofs.lemmas.List.{append_cancel_right}
use Rattle.std.proofs.lemmas.List.Elements.{All-append}
use Rattle.std.proofs.lemmas.List.Splits.{slice_split_at, slice_split_none}
use Rattle.std.proofs.lemmas.Map.Keys.{IsDistinct-from_apart}
use Rattle.std.specs.Fmt.{decimal}
use Rattle.std.specs.List.{flat_map, slice_split}
use Rattle.std.specs.Str.{bytes_eq}
use Rattle.rule_check.specs.declared.state.State.{State}
use Rattle.rule_lang.specs.Tokens.{IsWord}
use Rattle.rule_check.specs.WellFormed.{IsFieldName}
use Rattle.run_watch.specs.declared.show.Format.{Format}
use Rattle.run_watch.specs.declared.show.Show.{Show}
use Rattle.run_watch.specs.Records.{AreNames, AreWords, CsvHeadingsAreRecords, CsvRowsAreRecords, CsvRowsTell, IsPlain, IsRecord, ShowsCsv, heading_cells, is_comma, node_name, row_cells, value_label}
use Rattle.run_watch.specs.Watching.{cell_text, headings, names_in, opening_text, row_end, row_start, row_text, value_name}
use Rattle.run_watch.proofs.Lines.{at_each, decimal_plain, field_name_plain, name_plain, no_end, number_is, word_plain, written_no_end, written_plain}
use Rattle.run_watch.proofs.Names.{label_tells, names_at}

no_comma : (text : List ℕ) → IsPlain text → All (λ b. is_comma b ≡ false) text
no_comma text plain k d inside =
    let other = (plain k d inside).0 in
    grind (arith, nat_tests, other)

cut_cells : (f : ℕ → List ℕ) (ks : List ℕ) (first : List ℕ) → IsPlain first → ((k : ℕ) → IsPlain (f k)) → slice_split is_comma (first ++ flat_map (λ (k : ℕ). codes "," ++ f k) ks) ≡ first ∷ map f ks
cut_cells f [] first plain each = ap (slice_split is_comma) (append-nil first) ∙ slice_split_none is_comma first (no_comma first plain)
cut_cells f (k ∷ ks) first plain each =
    slice_split_at is_comma first 44 (f k ++ flat_map (λ (j : ℕ). codes "," ++ f j) ks) (no_comma first plain) refl
    ∙ ap (λ (cells : List (List ℕ)). first ∷ cells) (cut_cells f ks (f k) (each k) each)

cells_no_end : (f : ℕ → List ℕ) (ks : List ℕ) → ((k : ℕ) → IsPlain (f k)) → All (λ b. b ≢ 10) (flat_map (λ (k : ℕ). codes "," ++ f k) ks)
cells_no_end f [] each = λ k d inside. absurd (omega (arith, inside))
cells_no_end f (k ∷ ks) each =
    All-append (λ b. b ≢ 10) (44 ∷ f k) (flat_map (λ (j : ℕ). codes "," ++ f j) ks)
    (All-append (λ b. b ≢ 10) (44 ∷ []) (f k) (written_no_end (44 ∷ []) refl) (no_end (f k) (each k))) (cells_no_end f ks each)

no_names : AreNames []
no_names = record {
  words = λ k d inside. absurd (omega (arith, inside));
  once = IsDistinct-from_apart bytes_eq [] (λ i j d up inside. absurd (omega (arith, inside)));
}

plain_words : (names : List (String Global)) → All IsWord (map string_bytes names) → All (λ name. IsPlain (string_bytes name)) names
plain_words [] words k d inside = absurd (omega (arith, inside))
plain_words (x ∷ xs) words zero d inside = word_plain (string_bytes x) (words zero [] (omega arith))
plain_words (x ∷ xs) words (suc k) d inside = plain_words xs (λ j c within. words (suc j) c (omega (arith, within))) k d (omega (arith, inside))

-- ---- the line of a node

module _ (show : Show) (names : List (List ℕ)) (shows : ShowsCsv show) where
  abbrev values_behind : State → List ℕ
  values_behind state = flat_map (λ (k : ℕ). codes "," ++ value_label show state k) show.fields.now

  row_is : (t u : ℕ) (state : State) → row_text show names t u state ≡ (decimal t ++ codes ",") ++ (node_name show u ++ (values_behind state ++ codes "\n"))
  row_is t u state =
      ap (λ (format : Format). row_start format t ++ (node_name show u ++ (flat_map (λ (k : ℕ). cell_text format (slice_index_or names k []) (value_name show k (slice_index state.words k)) (slice_index state.words k)) show.fields.now ++ row_end format))) shows.csv

  row_ends : (t u : ℕ) (state : State) → row_text show names t u state ≡ (decimal t ++ 44 ∷ (node_name show u ++ values_behind state)) ++ codes "\n"
  row_ends t u state =
      row_is t u state
      ∙ append_assoc (decimal t) (codes ",") (node_name show u ++ (values_behind state ++ codes "\n"))
      ∙ ap (λ (rest : List ℕ). decimal t ++ 44 ∷ rest) (sym (append_assoc (node_name show u) (values_behind state) (codes "\n")))
      ∙ sym (append_assoc (decimal t) (44 ∷ (node_name show u ++ values_behind state)) (codes "\n"))

  word_small : (state : State) → All (λ w. w < 2 ^ 32) state.words → (k : ℕ) → slice_index state.words k < 2 ^ 32
  word_small state small k = at_each (λ w. w < 2 ^ 32) 0 state.words k (omega arith) small

  -- the names of the values of the field at a place
  abbrev names_of_place : ℕ → List (String Global)
  names_of_place k = names_in (slice_get show.names.now k)

  place_names : (k : ℕ) → AreNames (map string_bytes (names_of_place k))
  place_names k = names_at (λ ns. AreNames (map string_bytes ns)) show.names.now k no_names shows.names

  label_plain : (state : State) → All (λ w. w < 2 ^ 32) state.words → (k : ℕ) → IsPlain (value_label show state k)
  label_plain state small k =
      let v = slice_index state.words k in
      name_plain string_bytes (names_of_place k) v v (word_small state small k) (plain_words (names_of_place k) (place_names k).words)

  row_record : (t u : ℕ) (state : State) → AreWords t u state → IsRecord (row_text show names t u state) (row_cells show t u state)
  row_record t u state are =
      let name = node_name show u in
      let plain_name : IsPlain name = name_plain string_bytes show.labels.now u u are.node shows.labels in
      let plain_round : IsPlain (decimal t) = decimal_plain t are.round in
      let each = label_plain state are.words in
      record {
        line = decimal t ++ 44 ∷ (name ++ values_behind state);
        ended = row_ends t u state;
        one =
            All-append (λ b. b ≢ 10) (decimal t) (44 ∷ (name ++ values_behind state)) (no_end (decimal t) plain_round)
            (All-append (λ b. b ≢ 10) (44 ∷ []) (name ++ values_behind state) (written_no_end (44 ∷ []) refl)
            (All-append (λ b. b ≢ 10) name (values_behind state) (no_end name plain_name) (cells_no_end (value_label show state) show.fields.now each)));
        cut =
            slice_split_at is_comma (decimal t) 44 (name ++ values_behind state) (no_comma (decimal t) plain_round) refl
            ∙ ap (λ (cells : List (List ℕ)). decimal t ∷ cells)
            (cut_cells (value_label show state) show.fields.now name plain_name each);
      }

  -- ---- the headings

  abbrev names_behind : List ℕ
  names_behind = flat_map (λ (k : ℕ). codes "," ++ slice_index_or names k []) show.fields.now

  heading_record : All IsFieldName names → IsRecord (opening_text show names) (heading_cells show names)
  heading_record fields =
      let each : (k : ℕ) → IsPlain (slice_index_or names k []) = λ k. at_each IsPlain [] names k (λ j d inside. absurd (omega (arith, inside))) (λ j d inside. field_name_plain (slice_index_or names j d) (fields j d inside)) in
      record {
        line = codes "round,node" ++ names_behind;
        ended = ap (λ (format : Format). headings format names_behind) shows.csv ∙ sym (append_assoc (codes "round,node") names_behind (codes "\n"));
        one = All-append (λ b. b ≢ 10) (codes "round,node") names_behind (written_no_end (codes "round,node") refl) (cells_no_end (λ (k : ℕ). slice_index_or names k []) show.fields.now each);
        cut =
            ap (λ (cells : List (List ℕ)). codes "round" ∷ cells)
            (cut_cells (λ (k : ℕ). slice_index_or names k []) show.fields.now (codes "node") (written_plain (codes "node") refl) each);
      }

pub csv_rows_are_records : CsvRowsAreRecords
csv_rows_are_records show names t u state shows are = row_record show names shows t u state are

same_count : (f g : ℕ → List ℕ) (ks : List ℕ) → length (map f ks) ≡ length (map g ks)
same_count f g [] = refl
same_count f g (k ∷ ks) = ap (λ (n : ℕ). suc n) (same_count f g ks)

pub csv_headings_are_records : CsvHeadingsAreRecords
csv_headings_are_records show names shows fields = (heading_record show names shows fields, λ t u state. ap (λ (n : ℕ). suc (suc n)) (same_count (value_label show state) (λ (k : ℕ). slice_index_or names k []) show.fields.now))

-- ---- equal lines

same_cells : (one other : List ℕ) (cells others : List (List ℕ)) → IsRecord one cells → IsRecord other others → one ≡ other → cells ≡ others
same_cells one other cells others is are same =
    let line = append_cancel_right is.line are.line (codes "\n") (sym is.ended ∙ same ∙ are.ended) in
    sym is.cut ∙ ap (slice_split is_comma) line ∙ are.cut

same_decimal : (m n : ℕ) → m < 2 ^ 32 → n < 2 ^ 32 → decimal m ≡ decimal n → m ≡ n
same_decimal m n small tiny same = decimal_injective m n (omega (arith, small)) (omega (arith, tiny)) same

same_values : (f g : ℕ → List ℕ) (v w : ℕ → ℕ) (ks : List ℕ) → ((k : ℕ) → f k ≡ g k → v k ≡ w k) → map f ks ≡ map g ks → map v ks ≡ map w ks
same_values f g v w [] tells same = refl
same_values f g v w (k ∷ ks) tells same =
    let head = tells k (ap (λ (cells : List (List ℕ)). get_or cells 0 []) same) in
    let tail = same_values f g v w ks tells (ap (λ (cells : List (List ℕ)). drop 1 cells) same) in
    λ i. head i ∷ tail i

pub csv_rows_tell : CsvRowsTell
csv_rows_tell show names t u s w old new shows are these same =
    let cells = same_cells (row_text show names t u old) (row_text show names s w new) (row_cells show t u old) (row_cells show s w new) (row_record show names shows t u old are) (row_record show names shows s w new these) same in
    let name : node_name show u ≡ node_name show w = ap (λ (xs : List (List ℕ)). get_or xs 1 []) cells in
    record {
      round = same_decimal t s are.round these.round (ap (λ (xs : List (List ℕ)). get_or xs 0 []) cells);
      name = name;
      node =
          λ none. same_decimal u w are.node these.node (sym (number_is string_bytes show.labels.now u none) ∙ name ∙ number_is string_bytes show.labels.now w none);
      values =
          same_values (value_label show old) (value_label show new) (slice_index old.words) (slice_index new.words) show.fields.now
          (λ k.
          label_tells string_bytes (names_of_place show names shows k) (slice_index old.words k) (slice_index new.words k)
          (word_small show names shows old are.words k) (word_small show names shows new these.words k) (place_names show names shows k))
          (ap (λ (xs : List (List ℕ)). drop 2 xs) cells);
    }

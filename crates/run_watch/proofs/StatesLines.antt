-- Lines of CSV, cut at their commas.
use Rattle.std.proofs.Common.{◌≡◌, ◌≢◌, ◌∙◌, ◌<◌, ◌≤◌, ◌+◌, ◌^◌, ℕ, zero, suc, List, [], ◌∷◌, ◌++◌, false, Global, String, Vec, All, ap, append-nil, append_assoc, arith, codes, drop, get_or, length, map, refl, slice_get, slice_index_or, string_bytes, sym, take}
use Rattle.std.proofs.lemmas.Bool.Decides.{nat_tests}
use Rattle.std.proofs.lemmas.Fmt.{decimal_injective}
use Rattle.std.proofs.lemmas.List.{append_cancel_right}
use Rattle.std.proofs.lemmas.List.Elements.{All-append}
use Rattle.std.proofs.lemmas.List.Splits.{slice_split_at, slice_split_none}
use Rattle.std.proofs.lemmas.Map.Keys.{IsDistinct-from_apart}
use Rattle.std.specs.Fmt.{decimal}
use Rattle.std.specs.List.{flat_map, slice_split}
use Rattle.std.specs.Str.{bytes_eq}
use Rattle.rule_lang.specs.Tokens.{IsWord}
use Rattle.rule_check.specs.declared.state.State.{State}
use Rattle.rule_check.specs.WellFormed.{IsFieldName}
use Rattle.run_watch.specs.Records.{AreNames, IsPlain, IsRecord, is_comma}
use Rattle.run_watch.specs.Watching.{names_in}
use Rattle.run_watch.proofs.Lines.{decimal_plain, field_name_plain, name_plain, no_end, word_plain, written_no_end, written_plain}
use Rattle.run_watch.proofs.Names.{label_tells, names_at}
use Rattle.run_watch.specs.StatesCsv.{cell, csv_line, value_text, value_texts}
use Rattle.run_watch.specs.StatesRecords.{AreValueNames, StateHeadingsAreRecords, StateLinesAreRecords, StateLinesTell, FitLine, line_cells}

-- ---- lists of which all elements hold something

behind : {A : Type 0} (P : A → Type 0) (x : A) (xs : List A) → All P (x ∷ xs) → All P xs
behind P x xs all k d inside = all (suc k) d (omega (arith, inside))

first_of : {A : Type 0} (P : A → Type 0) (x : A) (xs : List A) → All P (x ∷ xs) → P x
first_of P x xs all = all 0 x (omega arith)

joined : {A : Type 0} (P : A → Type 0) (x : A) (xs : List A) → P x → All P xs → All P (x ∷ xs)
joined P x xs is all zero d inside = is
joined P x xs is all (suc k) d inside = all k d (omega (arith, inside))

taken : {A : Type 0} (P : A → Type 0) (n : ℕ) (xs : List A) → All P xs → All P (take n xs)
taken P zero xs all k d inside = absurd (omega (arith, inside))
taken P (suc n) [] all k d inside = absurd (omega (arith, inside))
taken P (suc n) (x ∷ xs) all k d inside = joined P x (take n xs) (first_of P x xs all) (taken P n xs (behind P x xs all)) k d inside

-- ---- cells after commas

no_comma : (text : List ℕ) → IsPlain text → All (λ b. is_comma b ≡ false) text
no_comma text plain k d inside =
    let other = (plain k d inside).0 in
    grind (arith, nat_tests, other)

cut_cells : (first : List ℕ) (texts : List (List ℕ)) → IsPlain first → All IsPlain texts → slice_split is_comma (first ++ flat_map cell texts) ≡ first ∷ texts
cut_cells first [] is all = ap (slice_split is_comma) (append-nil first) ∙ slice_split_none is_comma first (no_comma first is)
cut_cells first (t ∷ ts) is all =
    slice_split_at is_comma first 44 (t ++ flat_map cell ts) (no_comma first is) refl
    ∙ ap (λ (rest : List (List ℕ)). first ∷ rest) (cut_cells t ts (first_of IsPlain t ts all) (behind IsPlain t ts all))

cells_no_end : (texts : List (List ℕ)) → All IsPlain texts → All (λ b. b ≢ 10) (flat_map cell texts)
cells_no_end [] all = λ k d inside. absurd (omega (arith, inside))
cells_no_end (t ∷ ts) all =
    All-append (λ b. b ≢ 10) (44 ∷ t) (flat_map cell ts)
    (All-append (λ b. b ≢ 10) (44 ∷ []) t (written_no_end (44 ∷ []) refl) (no_end t (first_of IsPlain t ts all))) (cells_no_end ts (behind IsPlain t ts all))

line_of : (first : List ℕ) (texts : List (List ℕ)) → IsPlain first → All IsPlain texts → IsRecord (first ++ (flat_map cell texts ++ codes "\n")) (first ∷ texts)
line_of first texts is all = record {
  line = first ++ flat_map cell texts;
  ended = sym (append_assoc first (flat_map cell texts) (codes "\n"));
  one = All-append (λ b. b ≢ 10) first (flat_map cell texts) (no_end first is) (cells_no_end texts all);
  cut = cut_cells first texts is all;
}

same_cells : (one other : List ℕ) (cells others : List (List ℕ)) → IsRecord one cells → IsRecord other others → one ≡ other → cells ≡ others
same_cells one other cells others is are same =
    let line = append_cancel_right is.line are.line (codes "\n") (sym is.ended ∙ same ∙ are.ended) in
    sym is.cut ∙ ap (slice_split is_comma) line ∙ are.cut

-- ---- what stands for values

no_names : AreNames []
no_names = record {
  words = λ k d inside. absurd (omega (arith, inside));
  once = IsDistinct-from_apart bytes_eq [] (λ i j d up inside. absurd (omega (arith, inside)));
}

plain_words : (names : List (String Global)) → All IsWord (map string_bytes names) → All (λ name. IsPlain (string_bytes name)) names
plain_words [] words k d inside = absurd (omega (arith, inside))
plain_words (x ∷ xs) words zero d inside = word_plain (string_bytes x) (words zero [] (omega arith))
plain_words (x ∷ xs) words (suc k) d inside = plain_words xs (λ j c within. words (suc j) c (omega (arith, within))) k d (omega (arith, inside))

module _ (names : List (Vec (String Global) Global)) (are : AreValueNames names) where
  place_names : (k : ℕ) → AreNames (map string_bytes (names_in (slice_get names k)))
  place_names k = names_at (λ ns. AreNames (map string_bytes ns)) names k no_names are

  labels_plain : (k : ℕ) (values : List ℕ) → All (λ w. w < 2 ^ 32) values → All IsPlain (value_texts names k values)
  labels_plain k [] small = λ j d inside. absurd (omega (arith, inside))
  labels_plain k (v ∷ vs) small =
      let here = names_in (slice_get names k) in
      joined IsPlain (value_text here v) (value_texts names (k + 1) vs)
      (name_plain string_bytes here v v (first_of (λ w. w < 2 ^ 32) v vs small) (plain_words here (place_names k).words))
      (labels_plain (k + 1) vs (behind (λ w. w < 2 ^ 32) v vs small))

  -- what stands for values tells them
  values_told : (k : ℕ) (vs ws : List ℕ) → All (λ w. w < 2 ^ 32) vs → All (λ w. w < 2 ^ 32) ws → value_texts names k vs ≡ value_texts names k ws → vs ≡ ws
  values_told k [] [] small tiny same = refl
  values_told k [] (w ∷ ws) small tiny same = absurd (let e : 0 ≡ suc (length (value_texts names (k + 1) ws)) = ap (λ (ls : List (List ℕ)). length ls) same in omega (arith, e))
  values_told k (v ∷ vs) [] small tiny same = absurd (let e : suc (length (value_texts names (k + 1) vs)) ≡ 0 = ap (λ (ls : List (List ℕ)). length ls) same in omega (arith, e))
  values_told k (v ∷ vs) (w ∷ ws) small tiny same =
      let head =
      label_tells string_bytes (names_in (slice_get names k)) v w (first_of (λ x. x < 2 ^ 32) v vs small) (first_of (λ x. x < 2 ^ 32) w ws tiny) (place_names k)
      (ap (λ (ls : List (List ℕ)). get_or ls 0 []) same) in
      let tail =
      values_told (k + 1) vs ws (behind (λ x. x < 2 ^ 32) v vs small) (behind (λ x. x < 2 ^ 32) w ws tiny) (ap (λ (ls : List (List ℕ)). drop 1 ls) same) in
      λ i. head i ∷ tail i

  line_record : (fields u : ℕ) (state : State) → FitLine u state → IsRecord (csv_line names fields u state) (line_cells names fields u state)
  line_record fields u state fit =
      let values = take fields state.words in
      line_of (decimal u) (value_texts names 0 values) (decimal_plain u fit.node) (labels_plain 0 values (taken (λ w. w < 2 ^ 32) fields state.words fit.words))

pub state_lines_are_records : StateLinesAreRecords
state_lines_are_records names fields u state are fit = line_record names are fields u state fit

names_plain : (fields : List (List ℕ)) → All IsFieldName fields → All IsPlain fields
names_plain fields are k d inside = field_name_plain (slice_index_or fields k d) (are k d inside)

labels_count : (names : List (Vec (String Global) Global)) (k : ℕ) (values : List ℕ) → length (value_texts names k values) ≡ length values
labels_count names k [] = refl
labels_count names k (v ∷ vs) = ap (λ (n : ℕ). suc n) (labels_count names (k + 1) vs)

taken_count : {A : Type 0} (n : ℕ) (xs : List A) → n ≤ length xs → length (take n xs) ≡ n
taken_count zero xs few = refl
taken_count (suc n) [] few = absurd (omega (arith, few))
taken_count (suc n) (x ∷ xs) few = ap (λ (m : ℕ). suc m) (taken_count n xs (omega (arith, few)))

pub state_headings_are_records : StateHeadingsAreRecords
state_headings_are_records names fields are = (
  line_of (codes "node") fields (written_plain (codes "node") refl) (names_plain fields are),
  λ u state few. ap (λ (n : ℕ). suc n) (labels_count names 0 (take (length fields) state.words) ∙ taken_count (length fields) state.words few),
)

pub state_lines_tell : StateLinesTell
state_lines_tell names fields u w old new are fit fits same =
    let cells =
    same_cells (csv_line names fields u old) (csv_line names fields w new) (line_cells names fields u old) (line_cells names fields w new)
    (line_record names are fields u old fit) (line_record names are fields w new fits) same in
    record {
      node =
          decimal_injective u w (omega (arith, fit.node)) (omega (arith, fits.node)) (ap (λ (xs : List (List ℕ)). get_or xs 0 []) cells);
      values =
          values_told names are 0 (take fields old.words) (take fields new.words) (taken (λ x. x < 2 ^ 32) fields old.words fit.words)
          (taken (λ x. x < 2 ^ 32) fields new.words fits.words) (ap (λ (xs : List (List ℕ)). drop 1 xs) cells);
    }

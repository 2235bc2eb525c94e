-- Lines of numbers, cut at their commas.
use Rattle.std.proofs.Common.{◌≡◌, ◌≢◌, ◌∙◌, ◌<◌, ◌^◌, ℕ, zero, suc, List, [], ◌∷◌, ◌++◌, Bool, false, if◌then◌else◌, Global, String, All, ap, append-nil, append_assoc, arith, codes, get_or, inl, inr, length, map, refl, slice_index_or, string_bytes, subst, sym}
use Rattle.std.proofs.lemmas.Bool.Decides.{nat_tests}
use Rattle.std.proofs.lemmas.Fmt.{digits_decimal}
use Rattle.std.proofs.lemmas.List.Elements.{All-append, All-cons, All-from_get_or}
use Rattle.std.proofs.lemmas.List.Splits.{slice_split_at, slice_split_none}
use Rattle.std.proofs.lemmas.Str.Parse.{IsNumeralModel, numerals_by_value, tells_by_index}
use Rattle.std.specs.Fmt.{decimal}
use Rattle.std.specs.Int.{IsInRange}
use Rattle.std.specs.List.{flat_map, slice_split}
use Rattle.std.specs.Str.Parse.{digits_value}
use Rattle.run_watch.specs.Records.{AreNames, IsPlain, IsRecord, is_comma}
use Rattle.run_watch.proofs.Lines.{at_each, field_name_plain, no_end, word_plain, written_no_end, written_plain}
use Rattle.run_watch.proofs.Names.{label_by, label_tells}
use Rattle.rule_check.specs.WellFormed.{IsFieldName}
use Rattle.run_counts.specs.declared.asked.CountFormat.TheVariants.{Csv}
use Rattle.run_counts.specs.declared.asked.Figure.{Figure}
use Rattle.run_counts.specs.declared.asked.FigureKind.{FigureKind}
use Rattle.run_counts.specs.declared.asked.FigureKind.TheVariants.{Sum, Least, Most}
use Rattle.run_counts.specs.Figures.{kind_name}
use Rattle.run_counts.specs.Records.{AreSmall, HeadingsAreRecords, LongLinesAreRecords, ValuesAreTold, WideLinesAreRecords, figures_in, long_numbers, wide_numbers}
use Rattle.run_counts.specs.Rows.{count_in}
use Rattle.run_counts.specs.Tables.{figure_name, opening_text, value_label}

by_place : IsNumeralModel (λ ds. (i : ℕ) → i < length ds → IsInRange 48 57 (get_or ds i 0)) (digits_value 10)
by_place = numerals_by_value _ tells_by_index

digit_plain : (b : ℕ) → IsInRange 48 57 b → (b ≢ 44) × (b ≢ 10)
digit_plain b digit = (omega (arith, digit.0), omega (arith, digit.0))

-- numbers of 64 bits have no comma and no LF
plain : (n : ℕ) → n < 2 ^ 64 → IsPlain (decimal n)
plain n small = All-from_get_or (λ b. (b ≢ 44) × (b ≢ 10)) (decimal n) 0 (λ i inside. digit_plain (get_or (decimal n) i 0) (digits_decimal by_place n small i inside))

no_comma : (text : List ℕ) → IsPlain text → All (λ b. is_comma b ≡ false) text
no_comma text is k d inside =
    let other = (is k d inside).0 in
    grind (arith, nat_tests, other)

-- ---- cells after commas

abbrev texts : List (List ℕ) → List ℕ
texts ts = flat_map (λ (t : List ℕ). codes "," ++ t) ts

behind : (P : List ℕ → Type 0) (t : List ℕ) (ts : List (List ℕ)) → All P (t ∷ ts) → All P ts
behind P t ts all k d inside = all (suc k) d (omega (arith, inside))

first_of : (P : List ℕ → Type 0) (t : List ℕ) (ts : List (List ℕ)) → All P (t ∷ ts) → P t
first_of P t ts all = all 0 t (omega arith)

cut_texts : (first : List ℕ) (ts : List (List ℕ)) → IsPlain first → All IsPlain ts → slice_split is_comma (first ++ texts ts) ≡ first ∷ ts
cut_texts first [] is all = ap (slice_split is_comma) (append-nil first) ∙ slice_split_none is_comma first (no_comma first is)
cut_texts first (t ∷ ts) is all =
    slice_split_at is_comma first 44 (t ++ texts ts) (no_comma first is) refl
    ∙ ap (λ (rest : List (List ℕ)). first ∷ rest) (cut_texts t ts (first_of IsPlain t ts all) (behind IsPlain t ts all))

texts_no_end : (ts : List (List ℕ)) → All IsPlain ts → All (λ b. b ≢ 10) (texts ts)
texts_no_end [] all = λ k d inside. absurd (omega (arith, inside))
texts_no_end (t ∷ ts) all =
    All-append (λ b. b ≢ 10) (44 ∷ t) (texts ts)
    (All-append (λ b. b ≢ 10) (44 ∷ []) t (written_no_end (44 ∷ []) refl) (no_end t (first_of IsPlain t ts all))) (texts_no_end ts (behind IsPlain t ts all))

line_of : (first : List ℕ) (ts : List (List ℕ)) → IsPlain first → All IsPlain ts → IsRecord (first ++ (texts ts ++ codes "\n")) (first ∷ ts)
line_of first ts is all = record {
  line = first ++ texts ts;
  ended = sym (append_assoc first (texts ts) (codes "\n"));
  one = All-append (λ b. b ≢ 10) first (texts ts) (no_end first is) (texts_no_end ts all);
  cut = cut_texts first ts is all;
}

joined : (xs ys : List (List ℕ)) → texts xs ++ texts ys ≡ texts (xs ++ ys)
joined [] ys = refl
joined (x ∷ xs) ys = append_assoc (codes "," ++ x) (texts xs) (texts ys) ∙ ap (λ (rest : List ℕ). (codes "," ++ x) ++ rest) (joined xs ys)

-- cells of what is mapped to texts
mapped : {A : Type 0} (g : A → List ℕ) (xs : List A) → flat_map (λ (x : A). codes "," ++ g x) xs ≡ texts (map g xs)
mapped g [] = refl
mapped g (x ∷ xs) = ap (λ (rest : List ℕ). (codes "," ++ g x) ++ rest) (mapped g xs)

-- what a value is called has no comma and no LF
label_plain : (labels : List (String Global)) (v : ℕ) → v < 2 ^ 64 → AreNames (map string_bytes labels) → IsPlain (value_label labels v)
label_plain labels v small are =
    elim (label_by string_bytes labels v v) [
      | inl e ↦ subst IsPlain (sym e) (plain v small)
      | inr e ↦ subst IsPlain (sym e.1) (word_plain (slice_index_or (map string_bytes labels) v []) (are.words v [] e.0))
    ]

-- ---- cells of numbers

abbrev cells : List ℕ → List ℕ
cells ns = texts (map decimal ns)

decimals_plain : (ns : List ℕ) → AreSmall ns → All IsPlain (map decimal ns)
decimals_plain [] small k d inside = absurd (omega (arith, inside))
decimals_plain (n ∷ ns) small zero d inside = plain n (small 0 n (omega arith))
decimals_plain (n ∷ ns) small (suc k) d inside = decimals_plain ns (λ j c within. small (suc j) c (omega (arith, within))) k d (omega (arith, inside))

numbers : {A : Type 0} (g : A → ℕ) (xs : List A) → flat_map (λ (x : A). codes "," ++ decimal (g x)) xs ≡ cells (map g xs)
numbers g [] = refl
numbers g (x ∷ xs) = ap (λ (rest : List ℕ). (codes "," ++ decimal (g x)) ++ rest) (numbers g xs)

together : (ms ns : List ℕ) → cells ms ++ cells ns ≡ cells (ms ++ ns)
together [] ns = refl
together (m ∷ ms) ns = append_assoc (codes "," ++ decimal m) (cells ms) (cells ns) ∙ ap (λ (rest : List ℕ). (codes "," ++ decimal m) ++ rest) (together ms ns)

abbrev shown : List (Figure × ℕ) → List ℕ
shown figures = flat_map (λ (f : Figure × ℕ). codes "," ++ decimal f.1) figures

pub wide_lines_are_records : WideLinesAreRecords
wide_lines_are_records labels names values row small =
    let t = decimal row.round in
    let counted = flat_map (λ (v : ℕ). codes "," ++ decimal (count_in row.counts v)) values in
    let all = decimals_plain (row.round ∷ wide_numbers values row) small in
    let same : t ++ (counted ++ (shown row.figures ++ codes "\n")) ≡ t ++ (cells (wide_numbers values row) ++ codes "\n") =
    ap (λ (rest : List ℕ). t ++ rest)
    (sym (append_assoc counted (shown row.figures) (codes "\n"))
    ∙ ap (λ (text : List ℕ). (text ++ shown row.figures) ++ codes "\n") (numbers (count_in row.counts) values)
    ∙ ap (λ (text : List ℕ). (cells (map (count_in row.counts) values) ++ text) ++ codes "\n") (numbers (λ (f : Figure × ℕ). f.1) row.figures)
    ∙ ap (λ (text : List ℕ). text ++ codes "\n") (together (map (count_in row.counts) values) (figures_in row))) in
    subst (λ (text : List ℕ). IsRecord text (map decimal (row.round ∷ wide_numbers values row))) (sym same)
    (line_of t (map decimal (wide_numbers values row)) (first_of IsPlain t (map decimal (wide_numbers values row)) all) (behind IsPlain t (map decimal (wide_numbers values row)) all))

pub long_lines_are_records : LongLinesAreRecords
long_lines_are_records labels names row c are small =
    let t = decimal row.round in
    let label = value_label labels c.0 in
    let rest = long_numbers row c in
    let all = decimals_plain (row.round ∷ c.0 ∷ rest) small in
    let others = behind IsPlain t (decimal c.0 ∷ map decimal rest) all in
    let is = label_plain labels c.0 (small 1 c.0 (omega arith)) are in
    let same : t ++ ((codes "," ++ label) ++ ((codes "," ++ decimal c.1) ++ (shown row.figures ++ codes "\n"))) ≡ t ++ (texts (label ∷ map decimal rest) ++ codes "\n") =
    ap (λ (text : List ℕ). t ++ ((codes "," ++ label) ++ ((codes "," ++ decimal c.1) ++ (text ++ codes "\n")))) (numbers (λ (f : Figure × ℕ). f.1) row.figures)
    ∙ ap (λ (text : List ℕ). t ++ ((codes "," ++ label) ++ text)) (sym (append_assoc (codes "," ++ decimal c.1) (cells (figures_in row)) (codes "\n")))
    ∙ ap (λ (text : List ℕ). t ++ text) (sym (append_assoc (codes "," ++ label) (cells rest) (codes "\n"))) in
    subst (λ (text : List ℕ). IsRecord text (t ∷ label ∷ map decimal rest)) (sym same)
    (line_of t (label ∷ map decimal rest) (first_of IsPlain t (decimal c.0 ∷ map decimal rest) all)
    (All-cons IsPlain label (map decimal rest) is (behind IsPlain (decimal c.0) (map decimal rest) others)))

-- ---- the headings

kind_plain : (kind : FigureKind) → IsPlain (kind_name kind)
kind_plain Sum = written_plain (codes "sum") refl
kind_plain Least = written_plain (codes "least") refl
kind_plain Most = written_plain (codes "most") refl

field_plain : (names : List (List ℕ)) (k : ℕ) → All IsFieldName names → IsPlain (slice_index_or names k [])
field_plain names k are =
    at_each IsPlain [] names k (λ j d inside. absurd (omega (arith, inside))) (λ j d inside. field_name_plain (slice_index_or names j d) (are j d inside))

figure_plain : (names : List (List ℕ)) (f : Figure) → All IsFieldName names → IsPlain (figure_name names f)
figure_plain names f are =
    All-append (λ b. (b ≢ 44) × (b ≢ 10)) (kind_name f.kind) (codes " " ++ slice_index_or names f.field []) (kind_plain f.kind)
    (All-append (λ b. (b ≢ 44) × (b ≢ 10)) (codes " ") (slice_index_or names f.field []) (written_plain (codes " ") refl) (field_plain names f.field are))

values_plain : (labels : List (String Global)) (values : List ℕ) → AreNames (map string_bytes labels) → AreSmall values → All IsPlain (map (value_label labels) values)
values_plain labels [] are small k d inside = absurd (omega (arith, inside))
values_plain labels (v ∷ values) are small zero d inside = label_plain labels v (small 0 v (omega arith)) are
values_plain labels (v ∷ values) are small (suc k) d inside =
    values_plain labels values are (λ j c within. small (suc j) c (omega (arith, within))) k d (omega (arith, inside))

figures_plain : (names : List (List ℕ)) (figures : List Figure) → All IsFieldName names → All IsPlain (map (figure_name names) figures)
figures_plain names [] are k d inside = absurd (omega (arith, inside))
figures_plain names (f ∷ figures) are zero d inside = figure_plain names f are
figures_plain names (f ∷ figures) are (suc k) d inside = figures_plain names figures are k d (omega (arith, inside))

pub headings_are_records : HeadingsAreRecords
headings_are_records labels names figures values wide are small fields =
    let called = map (value_label labels) values in
    let further = map (figure_name names) figures in
    let counted = flat_map (λ (v : ℕ). codes "," ++ value_label labels v) values in
    let others = flat_map (λ (f : Figure). codes "," ++ figure_name names f) figures in
    let same : opening_text Csv labels names figures values ≡ codes "round" ++ (texts (called ++ further) ++ codes "\n") =
    ap (λ (b : Bool). codes "round" ++ ((if b then counted else codes ",value,nodes") ++ (others ++ codes "\n"))) wide
    ∙ ap (λ (rest : List ℕ). codes "round" ++ rest)
    (sym (append_assoc counted others (codes "\n"))
    ∙ ap (λ (text : List ℕ). (text ++ others) ++ codes "\n") (mapped (value_label labels) values)
    ∙ ap (λ (text : List ℕ). (texts called ++ text) ++ codes "\n") (mapped (figure_name names) figures)
    ∙ ap (λ (text : List ℕ). text ++ codes "\n") (joined called further)) in
    subst (λ (text : List ℕ). IsRecord text (codes "round" ∷ (called ++ further))) (sym same)
    (line_of (codes "round") (called ++ further) (written_plain (codes "round") refl) (All-append IsPlain called further (values_plain labels values are small) (figures_plain names figures fields)))

pub values_are_told : ValuesAreTold
values_are_told labels v w are small tiny same = label_tells string_bytes labels v w small tiny are same

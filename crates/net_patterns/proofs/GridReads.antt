-- What a grid is written as is read back.
use Rattle.std.proofs.Common.{◌≡◌, inl, inr, ℕ, ◌+◌, ◌-◌, ◌<◌, ◌≤◌, ◌==◌, suc, ◌^◌, true, false, List, [], ◌∷◌, ◌++◌, length, nat_le, codes, replicate, refl, sym, ap, ◌∙◌, arith, Option, Some, None, Ok, append_assoc}
use Rattle.std.specs.Fmt.{decimal}
use Rattle.std.specs.Str.Parse.{AllDigits}
use Rattle.std.specs.List.{AllByRecursion, list_all, list_any}
use Rattle.std.proofs.lemmas.Bool.{cases_Bool}
use Rattle.std.proofs.lemmas.Bool.Decides.{nat_tests}
use Rattle.std.proofs.lemmas.Fmt.{decimal_is_IsNumeral}
use Rattle.std.proofs.lemmas.List.Folds.{list_any-append}
use Rattle.std.proofs.lemmas.Str.Parse.{digit_from_value}
use Rattle.std.specs.Option.{option_map}
use Rattle.std.proofs.Math.Nat.{div-le_self}
use Rattle.net_patterns.specs.declared.grid_text.ValueFault.{ValueFault}
use Rattle.net_patterns.specs.declared.spelling.Kind.{Kind}
use Rattle.net_patterns.specs.declared.spelling.Kind.TheVariants.{TwoStates, ManyStates, Plain}
use Rattle.net_patterns.specs.declared.spelling.PatternFormat.{PatternFormat}
use Rattle.net_patterns.specs.declared.spelling.PatternFormat.TheVariants.{Runs, Rows}
use Rattle.net_patterns.specs.OnGrids.{first_above, grid_cells, grid_text, header_of, kind_of, most_of, no_span, opening_of, rows_filled, spans_from, spelling_of, title_of, too_great}
use Rattle.net_patterns.specs.RunSteps.{pattern_in}
use Rattle.net_patterns.specs.Written.{Frame, IsFrame, IsLine, cells_in, written_from}
use Rattle.net_patterns.proofs.GridSpans.{all_bytes, all_of_two, cells_of_spans, in_order, none_above}
use Rattle.net_patterns.proofs.RoundTrip.{reads_plain, reads_runs, reads_states}

no_feed : (d : ℕ) → 48 ≤ d → (d == 10) ≡ false
no_feed d low = grind (arith, nat_tests)

-- digits have no LF
digits_line : (ds : List ℕ) → AllDigits 10 ds → list_any (λ b. b == 10) ds ≡ false
digits_line [] all = refl
digits_line (d ∷ ds) all =
    let range = digit_from_value d all.0 in
    rw (no_feed d (omega (arith, range))) (digits_line ds all.1)

number_line : (n : ℕ) → n < 2 ^ 64 → list_any (λ b. b == 10) (decimal n) ≡ false
number_line n few = digits_line (decimal n) (decimal_is_IsNumeral n few).0.1

header_line : (width height : ℕ) → width < 2 ^ 64 → height < 2 ^ 64 → IsLine 120 (header_of width height)
header_line width height few low = (
  refl,
  list_any-append (λ b. b == 10) (decimal width) (codes ", y = " ++ decimal height) ∙ rw (number_line width few) (number_line height low),
)

title_line : (width height : ℕ) → width < 2 ^ 64 → height < 2 ^ 64 → IsLine 33 (title_of width height)
title_line width height few low = (
  refl,
  list_any-append (λ b. b == 10) (decimal width) (codes " columns, " ++ (decimal height ++ codes " rows"))
      ∙ rw (number_line width few) (list_any-append (λ b. b == 10) (decimal height) (codes " rows") ∙ rw (number_line height low) refl),
)

-- the frame of runs
abbrev frame_of : ℕ → ℕ → Frame
frame_of width height = record { comments = []; header = header_of width height; ends = 10 ∷ []; gap = []; behind = 10 ∷ [] }

is_frame : (width height : ℕ) → width < 2 ^ 64 → height < 2 ^ 64 → IsFrame (frame_of width height)
is_frame width height few low = record { comments = tt; header = header_line width height few low; ends = refl; gap = refl }

module _ (width height : ℕ) (few : width < 2 ^ 64) (low : height < 2 ^ 64) (values : List ℕ) (some : 1 ≤ width) (nodes : length values ≤ 65536) where
  two_read : AllByRecursion (λ v. v ≤ 1) values → pattern_in (opening_of TwoStates width height ++ written_from (spelling_of TwoStates) 0 0 (spans_from width 0 no_span values)) ≡ Ok (cells_in (spans_from width 0 no_span values))
  two_read all = ap pattern_in (append_assoc (header_of width height) (10 ∷ []) (written_from (spelling_of TwoStates) 0 0 (spans_from width 0 no_span values)))
      ∙ reads_runs (frame_of width height) (spans_from width 0 no_span values) (is_frame width height few low) (in_order values 1 width some (omega arith) nodes all)

  many_read : AllByRecursion (λ v. v ≤ 255) values → pattern_in (opening_of ManyStates width height ++ written_from (spelling_of ManyStates) 0 0 (spans_from width 0 no_span values)) ≡ Ok (cells_in (spans_from width 0 no_span values))
  many_read all = ap pattern_in (append_assoc (header_of width height) (10 ∷ []) (written_from (spelling_of ManyStates) 0 0 (spans_from width 0 no_span values)))
      ∙ reads_states (frame_of width height) (spans_from width 0 no_span values) (is_frame width height few low) (in_order values 255 width some (omega arith) nodes all)

  plain_read : AllByRecursion (λ v. v ≤ 1) values → pattern_in (opening_of Plain width height ++ written_from (spelling_of Plain) 0 0 (spans_from width 0 no_span values)) ≡ Ok (cells_in (spans_from width 0 no_span values))
  plain_read all = ap pattern_in (append_assoc (title_of width height) (10 ∷ []) (written_from (spelling_of Plain) 0 0 (spans_from width 0 no_span values)))
      ∙ reads_plain (title_of width height) (spans_from width 0 no_span values) (title_line width height few low) (in_order values 1 width some (omega arith) nodes all)

reads_kind : (format : PatternFormat) (values : List ℕ) (width height : ℕ) → width < 2 ^ 64 → height < 2 ^ 64 → 1 ≤ width → length values ≤ 65536 → first_above (most_of format) 0 values ≡ None
    → pattern_in (opening_of (kind_of format values) width height ++ written_from (spelling_of (kind_of format values)) 0 0 (spans_from width 0 no_span values)) ≡ Ok (cells_in (spans_from width 0 no_span values))
reads_kind Rows values width height few low some nodes none = plain_read width height few low values some nodes (none_above values 1 0 none)
reads_kind Runs values width height few low some nodes none =
    elim (cases_Bool (list_all (λ v. nat_le v 1) values)) [
      | inl two ↦ rw two (two_read width height few low values some nodes (all_of_two values two))
      | inr many ↦ rw many (many_read width height few low values some nodes (none_above values 255 0 none))
    ]

pub reads_grid : (format : PatternFormat) (values : List ℕ) (width : ℕ) → width < 2 ^ 64 → rows_filled width (length values) < 2 ^ 64 → 1 ≤ width → length values ≤ 65536 → first_above (most_of format) 0 values ≡ None
    → pattern_in (grid_text format width values) ≡ Ok (grid_cells width 0 values)
reads_grid format values width few low some nodes none =
    reads_kind format values width (rows_filled width (length values)) few low some nodes none ∙ ap Ok (cells_of_spans values width 0 no_span)

-- one sign more, of those that are left
pub sign_more : {new spelled : List ℕ} (old out : List ℕ) (counter count sign : ℕ) → counter < count → new ≡ out ++ spelled → spelled ≡ sign ∷ [] → out ++ replicate (count - counter) sign ≡ old ++ replicate count sign
    → new ++ replicate (count - (counter + 1)) sign ≡ old ++ replicate count sign
sign_more old out counter count sign less written one so_far =
    let e : suc (count - (counter + 1)) ≡ count - counter = omega arith in
    rw (written, one) (append_assoc out (sign ∷ []) (replicate (count - (counter + 1)) sign) ∙ ap (λ n. out ++ replicate n sign) e ∙ so_far)

-- the text, part by part
pub text_made : {items all head front : List ℕ} {kind : Kind} {height : ℕ} (format : PatternFormat) (width : ℕ) (values : List ℕ) → kind ≡ kind_of format values → height ≡ rows_filled width (length values) → front ≡ [] → head ≡ front ++ opening_of kind width height
    → all ≡ head ++ written_from (spelling_of kind) 0 0 (spans_from width 0 no_span values) → items ≡ all → items ≡ grid_text format width values
text_made format width values is rows none begun written same = rw (same, written, begun, none, is, rows) refl

nothing_found : (found : Option (ℕ × ℕ)) → option_map too_great found ≡ None → found ≡ None
nothing_found None is = refl
nothing_found (Some s) is = absurd (let no = is in cc)

none_of : {most : ℕ} {fault : Option ValueFault} (format : PatternFormat) (values : List ℕ) → most ≡ most_of format → fault ≡ option_map too_great (first_above most 0 values) → fault ≡ None → first_above (most_of format) 0 values ≡ None
none_of {most} format values is told none = rw is at (nothing_found (first_above most 0 values) (sym told ∙ none))

most_is_byte : (format : PatternFormat) → most_of format ≤ 255
most_is_byte Runs = omega arith
most_is_byte Rows = omega arith

-- values none of which is told to be too great are bytes
pub fitting : {most : ℕ} {fault : Option ValueFault} (format : PatternFormat) (values : List ℕ) → most ≡ most_of format → fault ≡ option_map too_great (first_above most 0 values) → fault ≡ None → list_all (λ v. nat_le v 255) values ≡ true
fitting format values is told none = all_bytes values (most_of format) (most_is_byte format) (none_above values (most_of format) 0 (none_of format values is told none))

-- and their text is read back
pub reads_made : {most : ℕ} {fault : Option ValueFault} (format : PatternFormat) (values : List ℕ) (width : ℕ) → width < 2 ^ 32 → 1 ≤ width → length values ≤ 65536 → most ≡ most_of format → fault ≡ option_map too_great (first_above most 0 values) → fault ≡ None
    → pattern_in (grid_text format width values) ≡ Ok (grid_cells width 0 values)
reads_made format values width few some nodes is told none =
    let rows = div-le_self (length values + width - 1) width in
    reads_grid format values width (omega arith) (omega (arith, rows)) some nodes (none_of format values is told none)

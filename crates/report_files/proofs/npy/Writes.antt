-- The headers that are written.
use Rattle.std.proofs.Common.{◌≡◌, ◌∙◌, ℕ, ◌+◌, ◌-◌, ◌%◌, ◌^◌, ◌<◌, ◌≤◌, List, [], ◌∷◌, ◌++◌, length, not, false, refl, sym, ap, codes, arith, append_assoc, get_or, Ok, ◌==◌}
use Rattle.std.specs.Fmt.{decimal}
use Rattle.std.specs.Prelude.{replicate, IsTrue}
use Rattle.std.specs.List.{AllByRecursion, flat_map}
use Rattle.std.specs.Char.{is_ascii_digit}
use Rattle.std.proofs.lemmas.Bool.Decides.{nat_tests}
use Rattle.std.proofs.lemmas.Fmt.{length-decimal-le}
use Rattle.std.proofs.lemmas.List.{length-append, length-replicate}
use Rattle.std.proofs.lemmas.List.Elements.{All-replicate, recursion_from_All}
use Rattle.rule_lang.proofs.Bytes.{digit_bounds}
use Rattle.report_text.proofs.Digits.{decimal_digits}
use Rattle.std.specs.Int.{to_le_bytes, w32}
use Rattle.report_files.specs.declared.npy.front.Version.TheVariants.{One}
use Rattle.report_files.specs.declared.npy.element.Element.TheVariants.{U32}
use Rattle.report_files.specs.declared.npy.shape.ArrayShape.{ArrayShape}
use Rattle.report_files.specs.declared.npy.shape.ArrayShape.TheVariants.{Row, Table}
use Rattle.report_files.specs.npy.Files.{magic, version_bytes, length_bytes, file}
use Rattle.report_files.specs.npy.Arrays.{HasVerdict}
use Rattle.report_files.proofs.npy.Elements.{words_back}
use Rattle.report_files.specs.npy.Headers.{IsFreeOf, header_front, header_back}
use Rattle.report_files.specs.npy.Written.{axes_text, element_count, npy_file, padded_header}
use Rattle.report_files.specs.npy.Parts.{bare_header, front_text, IsRow, IsSmall}

number_short : (n : ℕ) → n < 2 ^ 64 → length (decimal n) ≤ 20
number_short n small = length-decimal-le 20 n (omega arith) (omega arith) (omega arith)

pub axes_short : (shape : ArrayShape) → IsSmall shape → length (axes_text shape) ≤ 42
axes_short (Row count) small = omega (arith, number_short count small, length-append (decimal count) (codes ","))
axes_short (Table rows columns) small =
    omega (arith, number_short rows small.0, number_short columns small.1, length-append (decimal rows) (codes ", " ++ decimal columns), length-append (codes ", ") (decimal columns))

-- how long a header is
pub header_length : (axes blanks : List ℕ) → length (header_front (codes "<u4") false ++ header_back axes blanks) ≡ 56 + length axes + length blanks
header_length axes blanks =
    omega (arith, length-append (header_front (codes "<u4") false) (header_back axes blanks), length-append axes (codes "), }" ++ (blanks ++ 10 ∷ [])), length-append (codes "), }") (blanks ++ 10 ∷ []), length-append blanks (10 ∷ []))

-- a header, its blanks and its end
pub bare_whole : (axes blanks : List ℕ) → bare_header axes ++ (blanks ++ 10 ∷ []) ≡ header_front (codes "<u4") false ++ header_back axes blanks
bare_whole axes blanks = ap (λ t. header_front (codes "<u4") false ++ t) (append_assoc axes (codes "), }") (blanks ++ 10 ∷ []))

pub bare_length : (axes : List ℕ) → length (bare_header axes) ≡ 55 + length axes
bare_length axes =
    omega (arith, length-append (codes "{'descr': '<u4', 'fortran_order': False, 'shape': (") (axes ++ codes "), }"), length-append axes (codes "), }"))

-- how many blanks fill it up
pub blank_count : (axes : List ℕ) → length axes ≤ 42 → 64 - (10 + length (header_front (codes "<u4") false ++ header_back axes [])) % 64 ≡ 62 - length axes
blank_count axes short =
    let long : length (header_front (codes "<u4") false ++ header_back axes []) ≡ 56 + length axes = omega (arith, header_length axes []) in
    omega (arith, long)

pub padded_length : (axes : List ℕ) → length axes ≤ 42 → length (padded_header axes) ≡ 118
padded_length axes short =
    let blanks = blank_count axes short in
    let many = length-replicate {A = ℕ} (64 - (10 + length (header_front (codes "<u4") false ++ header_back axes [])) % 64) 32 in
    omega (arith, blanks, many, header_length axes (replicate (64 - (10 + length (header_front (codes "<u4") false ++ header_back axes [])) % 64) 32))

-- blanks are blanks
pub all_blank : (n : ℕ) → AllByRecursion (λ b. IsTrue (b == 32)) (replicate n 32)
all_blank n = recursion_from_All (λ b. IsTrue (b == 32)) (replicate n 32) (All-replicate (λ b. IsTrue (b == 32)) n 32 refl)

-- no parenthesis stands in a number
digits_free : (ds more : List ℕ) → AllByRecursion (λ b. IsTrue (is_ascii_digit b)) ds → IsFreeOf 41 more → IsFreeOf 41 (ds ++ more)
digits_free [] more each rest = rest
digits_free (d ∷ ds) more each rest = (other d (digit_bounds d each.0), digits_free ds more each.1 rest) where
  other : (d : ℕ) → (48 ≤ d) × (d ≤ 57) → IsTrue (not (d == 41))
  other d bounds = let low = bounds.0 in grind (arith, nat_tests)

pub count_free : (n : ℕ) → n < 2 ^ 32 → IsFreeOf 41 (decimal n ++ codes ",")
count_free n small = digits_free (decimal n) (codes ",") (decimal_digits n small) (refl, tt)

-- a header, its blanks and its end stand after the front
pub front_is : (shape : ArrayShape) → IsSmall shape → (items : List ℕ) → items ≡ magic ++ (version_bytes One ++ (length_bytes One 118 ++ bare_header (axes_text shape)))
    → (items ++ replicate (127 - length items) 32) ++ 10 ∷ [] ≡ front_text shape
front_is shape small items is =
    let axes = axes_text shape in
    let bare = bare_header axes in
    let front = magic ++ (version_bytes One ++ length_bytes One 118) in
    let count : 127 - length items ≡ 64 - (10 + length (header_front (codes "<u4") false ++ header_back axes [])) % 64 =
    omega (arith, ap length is, length-append front bare, bare_length axes, blank_count axes (axes_short shape small), axes_short shape small) in
    ap (λ k. (items ++ replicate k 32) ++ 10 ∷ []) count
    ∙ ap (λ xs. (xs ++ replicate (64 - (10 + length (header_front (codes "<u4") false ++ header_back axes [])) % 64) 32) ++ 10 ∷ []) is
    ∙ ap (λ t. front ++ t) (append_assoc bare (replicate (64 - (10 + length (header_front (codes "<u4") false ++ header_back axes [])) % 64) 32) (10 ∷ []) ∙ bare_whole axes _)

-- the front of a file, and what stands after it
pub written_whole : (shape : ArrayShape) (body : List ℕ) → IsSmall shape → front_text shape ++ body ≡ file One (padded_header (axes_text shape)) body
written_whole shape body small =
    let padded = padded_header (axes_text shape) in
    ap (λ k. magic ++ (version_bytes One ++ (length_bytes One k ++ (padded ++ body)))) (sym (padded_length (axes_text shape) (axes_short shape small)))

-- words of one axis are read as they were written
pub row_back : (shape : ArrayShape) (words : List ℕ) → IsRow shape → length words ≡ element_count shape → IsSmall shape → length words < 2 ^ 32 → ((k : ℕ) → get_or words k 0 < 2 ^ 32)
    → HasVerdict (npy_file shape words) (Ok words)
row_back (Table rows columns) words row whole few long small = absurd row
row_back (Row n) words row whole few long small =
    let padded = padded_header (axes_text (Row n)) in
    let body = flat_map (to_le_bytes w32) words in
    let blanks = 64 - (10 + length (header_front (codes "<u4") false ++ header_back (axes_text (Row n)) [])) % 64 in
    record {
      element = U32;
      count = n;
      body = body;
      array = record {
        few = omega (arith, whole, long);
        whole = record {
          header = padded;
          file = record { version = One; short = omega (arith, padded_length (axes_text (Row n)) (axes_short (Row n) few)); text = refl };
          words = record {
            order = false;
            blanks = replicate blanks 32;
            kind_ends = (refl, (refl, (refl, tt)));
            shape_ends = count_free n (omega (arith, whole, long));
            blank = all_blank blanks;
            text = refl;
          };
        };
      };
      same = words_back words n (sym whole) small;
    }

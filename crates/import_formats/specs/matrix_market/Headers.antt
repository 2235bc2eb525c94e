-- What the first line says of the others.
use Rattle.std.specs.Prelude.{ℕ, Bool, true, false, not, ◌&&◌, ◌||◌, List, [], ◌∷◌, codes, Result, Ok, Err, if◌then◌else◌}
use Rattle.std.specs.Str.{str_eq_ignore_ascii_case}
use Rattle.import_lines.specs.Texts.{words_of}
use Rattle.import_lines.specs.Parts.{shown}
use Rattle.import_formats.specs.declared.matrix_market.fault.MatrixLineFault.{MatrixLineFault}
use Rattle.import_formats.specs.declared.matrix_market.fault.MatrixLineFault.TheVariants.{Words, NoHeader, ArrayFormat, UnknownField, UnknownSymmetry, Directed}
use Rattle.import_formats.specs.declared.matrix_market.header.Header.{Header}
use Rattle.import_formats.specs.declared.matrix_market.matrix.Direction.{Direction}
use Rattle.import_formats.specs.declared.matrix_market.matrix.Direction.TheVariants.{Refused, LeftAside, Kept}
use Rattle.import_formats.specs.matrix_market.Steps.{and_then, told_as}

-- the word is this one, in letters of any case
abbrev pub says : List ℕ → List ℕ → Bool
says word name = str_eq_ignore_ascii_case word name

-- whether entries of this field have values
abbrev pub values_in : List ℕ → Result Bool MatrixLineFault
values_in field =
    if says field (codes "pattern") then Ok false
    else if says field (codes "integer") || says field (codes "real") then Ok true
    else Err UnknownField

-- whether edges of this symmetry have a direction
abbrev pub direction_in : List ℕ → Result Bool MatrixLineFault
direction_in symmetry =
    if says symmetry (codes "symmetric") then Ok false
    else if says symmetry (codes "general") then Ok true
    else Err UnknownSymmetry

-- what the words of a header say: five, in letters of any case
abbrev pub header_of : List (List ℕ) → Result Header MatrixLineFault
header_of (banner ∷ object ∷ format ∷ field ∷ symmetry ∷ []) =
    if not (says banner (codes "%%MatrixMarket") && says object (codes "matrix")) then Err NoHeader
    else if says format (codes "array") then Err ArrayFormat
    else if not (says format (codes "coordinate")) then Err NoHeader
    else
    and_then (values_in field) (λ values.
    and_then (direction_in symmetry) (λ directed.
    Ok (record { has_values = values; is_directed = directed })))
header_of words = Err NoHeader

-- what is taken of a header: edges with a direction are refused, or it is left aside, or kept
abbrev pub allowed : Direction → Header → Result Header MatrixLineFault
allowed Refused header = if header.is_directed then Err Directed else Ok header
allowed LeftAside header = Ok (record { has_values = header.has_values; is_directed = false })
allowed Kept header = Ok header

-- what is taken of the header that a line says
abbrev pub header_in : Direction → List ℕ → Result Header MatrixLineFault
header_in direction line =
    and_then (told_as Words (shown line)) (λ text.
    and_then (header_of (words_of text)) (allowed direction))

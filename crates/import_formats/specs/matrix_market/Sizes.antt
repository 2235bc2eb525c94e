-- How many nodes and entries there are.
use Rattle.std.specs.Prelude.{ℕ, ◌==◌, not, List, [], ◌∷◌, nat_lt, Result, Ok, Err, if◌then◌else◌}
use Rattle.std.specs.Option.{ok_or}
use Rattle.import_lines.specs.Texts.{words_of}
use Rattle.import_lines.specs.Parts.{shown}
use Rattle.import_formats.specs.declared.matrix_market.fault.MatrixLineFault.{MatrixLineFault}
use Rattle.import_formats.specs.declared.matrix_market.fault.MatrixLineFault.TheVariants.{Words, BadSize, NotSquare, NoNodes, TooManyNodes}
use Rattle.import_formats.specs.declared.matrix_market.size.Size.{Size}
use Rattle.import_formats.specs.matrix_market.Numbers.{number_of}
use Rattle.import_formats.specs.matrix_market.Steps.{and_then, told_as}

-- the number that a word of a size line says
abbrev pub number_in : List ℕ → Result ℕ MatrixLineFault
number_in word = ok_or (number_of word) BadSize

-- the nodes and entries of so many rows, columns and entries, where there are no more nodes than the most
abbrev pub sized : ℕ → ℕ → ℕ → ℕ → Result Size MatrixLineFault
sized most rows columns entries =
    if not (rows == columns) then Err NotSquare
    else if rows == 0 then Err NoNodes
    else if nat_lt most rows then Err TooManyNodes
    else Ok (record { nodes = rows; entries = entries })

-- the nodes and entries that words say: rows, columns, entries
abbrev pub size_of : ℕ → List (List ℕ) → Result Size MatrixLineFault
size_of most (rows ∷ columns ∷ entries ∷ []) =
    and_then (number_in rows) (λ r.
    and_then (number_in columns) (λ c.
    and_then (number_in entries) (λ e.
    sized most r c e)))
size_of most words = Err BadSize

-- the nodes and entries that a line says
abbrev pub size_in : ℕ → List ℕ → Result Size MatrixLineFault
size_in most line = and_then (told_as Words (shown line)) (λ text. size_of most (words_of text))

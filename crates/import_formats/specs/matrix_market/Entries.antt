-- The links that lines say.
use Rattle.std.specs.Prelude.{ℕ, ◌-◌, true, ◌&&◌, List, nat_le, unwrap_or, Option, Some, None, Result, Ok, Err, if◌then◌else◌}
use Rattle.import_lines.specs.Texts.{words_of}
use Rattle.import_lines.specs.Parts.{shown, parts_of}
use Rattle.import_links.specs.declared.placed.PlacedLink.{PlacedLink}
use Rattle.import_lines.specs.declared.weight.Weight.{Weight}
use Rattle.import_lines.specs.Weights.{weight_of}
use Rattle.import_formats.specs.declared.matrix_market.entry.EntryForm.{EntryForm}
use Rattle.import_formats.specs.declared.matrix_market.fault.MatrixLineFault.{MatrixLineFault}
use Rattle.import_formats.specs.declared.matrix_market.fault.MatrixLineFault.TheVariants.{Words, BadIndex, NoValue, ValueInPattern, Value}
use Rattle.import_formats.specs.matrix_market.Numbers.{number_of}
use Rattle.import_formats.specs.matrix_market.Steps.{and_then, told_as}

-- the node of a number from 1 to the number of nodes
abbrev pub node_of : ℕ → Option ℕ → Result ℕ MatrixLineFault
node_of nodes None = Err (BadIndex nodes)
node_of nodes (Some number) = if nat_le 1 number && nat_le number nodes then Ok (number - 1) else Err (BadIndex nodes)

-- the node of a row or a column
abbrev pub index_in : ℕ → List ℕ → Result ℕ MatrixLineFault
index_in nodes word = node_of nodes (number_of word)

-- the weight of an entry: its value; where entries have none 1, or the factor where there is one
abbrev pub value_in : EntryForm → Option (List ℕ) → Result Weight MatrixLineFault
value_in form None = if form.has_values then Err NoValue else Ok (record { value = unwrap_or form.factor 1; exact = true })
value_in form (Some word) = if form.has_values then told_as Value (weight_of form.factor word) else Err ValueInPattern

-- the link that a line says: row, column, value
abbrev pub entry_in : EntryForm → ℕ → List ℕ → Result PlacedLink MatrixLineFault
entry_in form number line =
    and_then (told_as Words (shown line)) (λ text.
    and_then (told_as Words (parts_of (words_of text))) (λ parts.
    and_then (index_in form.nodes parts.0) (λ row.
    and_then (index_in form.nodes parts.1) (λ column.
    and_then (value_in form parts.2) (λ weight.
    Ok (record { link = (row, column, weight.value); line = number; exact = weight.exact }))))))

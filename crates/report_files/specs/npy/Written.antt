-- Files of arrays of words, as NumPy writes them.
use Rattle.std.specs.Prelude.{ℕ, ◌+◌, ◌-◌, ◌*◌, ◌%◌, List, [], ◌++◌, length, codes, flat_map, replicate, false}
use Rattle.std.specs.Int.{to_le_bytes, w32}
use Rattle.std.specs.Fmt.{decimal}
use Rattle.report_files.specs.declared.npy.front.Version.TheVariants.{One}
use Rattle.report_files.specs.declared.npy.shape.ArrayShape.{ArrayShape}
use Rattle.report_files.specs.declared.npy.shape.ArrayShape.TheVariants.{Row, Table}
use Rattle.report_files.specs.npy.Files.{file}
use Rattle.report_files.specs.npy.Headers.{header_front, header_back}

-- how many elements an array of this shape has
abbrev pub element_count : ArrayShape → ℕ
element_count (Row count) = count
element_count (Table rows columns) = rows * columns

-- a shape as a tuple of Python, without its parentheses
abbrev pub axes_text : ArrayShape → List ℕ
axes_text (Row count) = decimal count ++ codes ","
axes_text (Table rows columns) = decimal rows ++ (codes ", " ++ decimal columns)

-- the header of an array of words: their type, `<u4`, and the order in which the last axis is the fastest; the end of its line stands at a multiple of 64 bytes, those before the header counted in, with 1 to 64 blanks before it
abbrev pub padded_header : List ℕ → List ℕ
padded_header shape =
    let bare = header_front (codes "<u4") false ++ header_back shape [] in
    header_front (codes "<u4") false ++ header_back shape (replicate (64 - (10 + length bare) % 64) 32)

-- the file of an array of this shape with these words
abbrev pub npy_file : ArrayShape → List ℕ → List ℕ
npy_file shape words = file One (padded_header (axes_text shape)) (flat_map (to_le_bytes w32) words)

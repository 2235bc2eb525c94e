-- What functions return, as the definitions speak of it.
use Rattle.import_formats.specs.declared.matrix_market.matrix.Matrix.{Matrix}
use Rattle.import_formats.specs.matrix_market.Matrices.{MatrixLinks}

-- a matrix
abbrev pub matrix_view : Matrix → MatrixLinks
matrix_view m = record { nodes = m.nodes; is_directed = m.is_directed; links = m.links.items }

-- The parts of NumPy's files of arrays (.npy), as `numpy.lib.format` describes them: a header of text, and bytes.
use Rattle.std.specs.Prelude.{◌≡◌, ◌<◌, ◌^◌, ℕ, List, [], ◌∷◌, ◌++◌, length, codes}
use Rattle.std.specs.Int.{to_le_bytes, w16, w32}
use Rattle.report_files.specs.declared.npy.front.Version.{Version}
use Rattle.report_files.specs.declared.npy.front.Version.TheVariants.{One, Two}

-- what each file begins with
abbrev pub magic : List ℕ
magic = 147 ∷ codes "NUMPY"

-- version 1.0 or 2.0
abbrev pub version_bytes : Version → List ℕ
version_bytes One = 1 ∷ 0 ∷ []
version_bytes Two = 2 ∷ 0 ∷ []

-- how long the header is, the lowest byte first: in two bytes, or in four
abbrev pub length_bytes : Version → ℕ → List ℕ
length_bytes One long = to_le_bytes w16 long
length_bytes Two long = to_le_bytes w32 long

-- no header is so long
abbrev pub length_bound : Version → ℕ
length_bound One = 2 ^ 16
length_bound Two = 2 ^ 32

-- the file with this header, and these bytes after it
abbrev pub file : Version → List ℕ → List ℕ → List ℕ
file version header body = magic ++ (version_bytes version ++ (length_bytes version (length header) ++ (header ++ body)))

-- bytes are a file with this header, and these bytes after it
pub record IsFile (bytes header body : List ℕ) : Type 0 where
  pub version : Version
  pub short : length header < length_bound version
  pub text : bytes ≡ file version header body

-- bytes begin as a file of one of the two versions
pub record HasVersion (bytes : List ℕ) : Type 0 where
  pub version : Version
  pub rest : List ℕ
  pub text : bytes ≡ magic ++ (version_bytes version ++ rest)

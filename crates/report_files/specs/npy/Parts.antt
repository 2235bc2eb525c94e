-- Parts of files, as the parts of the program that read them know them.
use Rattle.std.specs.Prelude.{◌≡◌, ◌≢◌, ◌<◌, ◌^◌, ℕ, List, ◌++◌, ◌==◌, Bool, IsTrue, codes}
use Rattle.std.specs.List.{AllByRecursion}
use Rattle.report_files.specs.declared.npy.element.Element.{Element}
use Rattle.report_files.specs.declared.npy.fault.NpyFault.{NpyFault}
use Rattle.report_files.specs.declared.npy.fault.NpyFault.TheVariants.{Magic, Version as BadVersion, Header}
use Rattle.report_files.specs.declared.npy.shape.ArrayShape.{ArrayShape}
use Rattle.report_files.specs.declared.npy.shape.ArrayShape.TheVariants.{Row, Table}
use Rattle.report_files.specs.declared.npy.front.Version.TheVariants.{One}
use Rattle.report_files.specs.npy.Files.{magic, version_bytes, length_bytes, IsFile, HasVersion}
use Rattle.report_files.specs.npy.Headers.{IsFreeOf, header_front, header_back}
use Rattle.report_files.specs.npy.Arrays.{number_at, value_bound}
use Rattle.report_files.specs.npy.Written.{axes_text, padded_header}

-- why bytes have no header
abbrev pub IsFrontFault : List ℕ → NpyFault → Type 0
IsFrontFault bytes Magic = (rest : List ℕ) → bytes ≢ magic ++ rest
IsFrontFault bytes BadVersion = ((rest : List ℕ) × (bytes ≡ magic ++ rest)) × (HasVersion bytes → ⊥)
IsFrontFault bytes Header = HasVersion bytes × ((header body : List ℕ) → IsFile bytes header body → ⊥)
IsFrontFault bytes fault = ⊥

-- a header begins with this type, and goes on so after the parenthesis that opens its shape
pub record HasFront (header kind rest : List ℕ) : Type 0 where
  pub order : Bool
  pub kind_ends : IsFreeOf 39 kind
  pub text : header ≡ header_front kind order ++ rest

-- a header goes on with this shape, and ends
pub record HasBack (rest shape : List ℕ) : Type 0 where
  pub blanks : List ℕ
  pub shape_ends : IsFreeOf 41 shape
  pub blank : AllByRecursion (λ b. IsTrue (b == 32)) blanks
  pub text : rest ≡ header_back shape blanks

-- each element is a value
abbrev pub AreValues : Element → ℕ → List ℕ → Type 0
AreValues element count body = (place : ℕ) → place < count → number_at element body place < value_bound element

-- one axis
abbrev pub IsRow : ArrayShape → Type 0
IsRow (Row count) = Unit {0}
IsRow (Table rows columns) = ⊥

-- each axis is below 2 ^ 64
abbrev pub IsSmall : ArrayShape → Type 0
IsSmall (Row count) = count < 2 ^ 64
IsSmall (Table rows columns) = (rows < 2 ^ 64) × (columns < 2 ^ 64)

-- the header of an array of words with these axes, up to its brace
abbrev pub bare_header : List ℕ → List ℕ
bare_header axes = codes "{'descr': '<u4', 'fortran_order': False, 'shape': (" ++ (axes ++ codes "), }")

-- what stands before the words of an array of this shape
abbrev pub front_text : ArrayShape → List ℕ
front_text shape = magic ++ (version_bytes One ++ (length_bytes One 118 ++ padded_header (axes_text shape)))

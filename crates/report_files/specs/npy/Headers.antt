-- The headers of NumPy's files: a dictionary of Python on one line, as NumPy spells it.
use Rattle.std.specs.Prelude.{◌≡◌, ℕ, List, [], ◌∷◌, ◌++◌, ◌==◌, Bool, true, false, not, codes, IsTrue}
use Rattle.std.specs.List.{AllByRecursion}

-- bytes among which this one is not
abbrev pub IsFreeOf : ℕ → List ℕ → Type 0
IsFreeOf byte bytes = AllByRecursion (λ b. IsTrue (not (b == byte))) bytes

-- whether the first of several axes changes fastest
abbrev pub order_text : Bool → List ℕ
order_text true = codes "True"
order_text false = codes "False"

-- what stands before the shape: the type of the elements, and the order
abbrev pub header_front : List ℕ → Bool → List ℕ
header_front kind order = codes "{'descr': '" ++ (kind ++ (codes "', 'fortran_order': " ++ (order_text order ++ codes ", 'shape': (")))

-- the shape, and what stands after it: blanks, and the end of the line
abbrev pub header_back : List ℕ → List ℕ → List ℕ
header_back shape blanks = shape ++ (codes "), }" ++ (blanks ++ 10 ∷ []))

-- a header with this word for the type of its elements, and this between the parentheses of its shape
pub record IsHeader (header kind shape : List ℕ) : Type 0 where
  pub order : Bool
  pub blanks : List ℕ
  pub kind_ends : IsFreeOf 39 kind
  pub shape_ends : IsFreeOf 41 shape
  pub blank : AllByRecursion (λ b. IsTrue (b == 32)) blanks
  pub text : header ≡ header_front kind order ++ header_back shape blanks

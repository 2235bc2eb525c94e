-- The constants of a model that a caller sets: a text with their names, and a list of their values.
use Rattle.std.specs.Prelude.{ℕ, ◌≡◌, ◌≢◌, ◌==◌, ◌⊎◌, List, [], ◌∷◌, ◌++◌, count_by, length, map}
use Rattle.std.specs.Str.{IsUtf8}
use Rattle.report_text.specs.Lines.{lines_of}
use Rattle.model_rules.specs.Models.{GivenTree}
use Rattle.app_calls.specs.declared.models.fault.ConstantsFault.{ConstantsFault}
use Rattle.app_calls.specs.declared.models.fault.ConstantsFault.TheVariants.{NotUtf8, Unended, ValueCount}

-- the line with the name of a constant: the name, and LF (10) after it
abbrev pub name_line : GivenTree → List ℕ
name_line given = given.name ++ 10 ∷ []

-- the value that a constant is given
abbrev pub set_value : GivenTree → ℕ
set_value given = given.value

-- the text and the values set these constants: the lines of the text are their names, an LF after each, and the values are theirs, in order
pub record AreConstants (names values : List ℕ) (given : List GivenTree) : Type 0 where
  pub named : lines_of names ≡ map name_line given
  pub valued : map set_value given ≡ values

-- how many LFs there are
abbrev pub line_feeds : List ℕ → ℕ
line_feeds text = count_by (λ b. b == 10) text

-- the text is empty, or ends with LF
abbrev pub IsEnded : List ℕ → Type 0
IsEnded text = (text ≡ []) ⊎ ((front : List ℕ) × (text ≡ front ++ 10 ∷ []))

-- why a text and so many values set no constants: the text is no UTF-8; or else it does not end with LF, and is not empty; or else it has
-- another number of lines
abbrev pub AreNoConstants : List ℕ → ℕ → ConstantsFault → Type 0
AreNoConstants names values NotUtf8 = ¬ (IsUtf8 names)
AreNoConstants names values Unended = IsUtf8 names × ¬ (IsEnded names)
AreNoConstants names values ValueCount = IsUtf8 names × IsEnded names × (length (lines_of names) ≢ values)

-- nothing is wrong with a text and so many values
abbrev pub AreSound : List ℕ → ℕ → Type 0
AreSound names values = (f : ConstantsFault) → AreNoConstants names values f → ⊥

-- a text and values set one list of constants at most
abbrev pub OneSetting : Type 0
OneSetting = (names values : List ℕ) (one other : List GivenTree) → AreConstants names values one → AreConstants names values other → one ≡ other

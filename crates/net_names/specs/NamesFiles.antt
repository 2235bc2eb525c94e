-- Files of names: a line for each, in the order of their numbers.
use Rattle.std.specs.Prelude.{◌≡◌, ℕ, ◌+◌, true, false, List, [], ◌∷◌, ◌++◌, length}
use Rattle.std.specs.Str.Lines.{lines}
use Rattle.link_net.specs.Limits.{most_rows}
use Rattle.net_names.specs.declared.fault.NamesFileFault.{NamesFileFault}
use Rattle.net_names.specs.declared.fault.NamesFileFault.TheVariants.{BadName, NameTwice, TooManyNames, Memory}
use Rattle.net_names.specs.declared.fault.NamesFault.{NamesFault}
use Rattle.net_names.specs.declared.fault.NamesFault.TheVariants as name
use Rattle.net_names.specs.Naming.{AreNames, is_name, has_name, place_in}

-- each name and the end of its line
abbrev pub text_of : List (List ℕ) → List ℕ
text_of [] = []
text_of (name ∷ names) = name ++ 10 ∷ text_of names

-- the bytes are a file of these names: its lines are theirs, in order
pub record HasNames (bytes : List ℕ) (names : List (List ℕ)) : Type 0 where
  pub on_lines : lines bytes ≡ names
  pub are_names : AreNames names

-- the fault of a name as that of its line
abbrev pub at_line : ℕ → NamesFault → NamesFileFault
at_line line name.BadName = BadName line
at_line line name.TooManyNames = TooManyNames line
at_line line name.Memory = Memory

-- why a line gives no new name after the names of the lines before it
abbrev pub IsLineFault : List (List ℕ) → List ℕ → NamesFileFault → Type 0
IsLineFault earlier here (BadName line) = (line ≡ length earlier + 1) × (is_name here ≡ false)
IsLineFault earlier here (NameTwice line first) = (line ≡ length earlier + 1) × (has_name earlier here ≡ true) × (first ≡ place_in earlier here + 1)
IsLineFault earlier here (TooManyNames line) = (line ≡ length earlier + 1) × (is_name here ≡ true) × (has_name earlier here ≡ false) × (length earlier ≡ most_rows)
IsLineFault earlier here Memory = Unit {0}

-- why bytes are no file of names: the lines up to one give names, and that one does not
pub record IsFirstBadLine (bytes : List ℕ) (fault : NamesFileFault) : Type 0 where
  pub earlier : List (List ℕ)
  pub here : List ℕ
  pub later : List (List ℕ)
  pub on_lines : lines bytes ≡ earlier ++ here ∷ later
  pub are_names : AreNames earlier
  pub why : IsLineFault earlier here fault

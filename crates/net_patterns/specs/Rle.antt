-- Texts of runs: a grammar.
use Rattle.std.specs.Prelude.{◌≡◌, ◌⊎◌, ◌≤◌, ℕ, ◌+◌, ◌==◌, Bool, true, false, ◌||◌, List, [], ◌∷◌, ◌++◌, codes, Option, Some, None, Result, Ok, Err}
use Rattle.std.specs.Char.{is_ascii_digit}
use Rattle.std.specs.List.{list_all, count_by}
use Rattle.std.specs.Str.Parse.{IsNumeral, digits_value}
use Rattle.net_patterns.specs.declared.board.Mark.{Mark}
use Rattle.net_patterns.specs.declared.board.Mark.TheVariants.{Dead, Alive, RowEnd}
use Rattle.net_patterns.specs.declared.fault.PatternFault.{PatternFault}
use Rattle.net_patterns.specs.declared.fault.PatternFault.TheVariants.{BadCell, BadCount, NoEnd}
use Rattle.net_patterns.specs.Cells.{Run}
use Rattle.net_patterns.specs.Written.{state_tag}

-- a blank, TAB, CR, LF
abbrev pub is_blank : ℕ → Bool
is_blank b = b == 32 || b == 9 || b == 13 || b == 10

-- a run of a tag, before other pieces
abbrev pub run_of : ℕ → ℕ → Option Mark → List (Result Run PatternFault) → List (Result Run PatternFault)
run_of line count (Some mark) pieces = Ok (record { line = line; count = count; mark = mark }) ∷ pieces
run_of line count None pieces = Err (BadCell line) ∷ []

-- the tags of a mark: b or . for a dead cell; o for a live one of state 1, and the letters of a state from 1 to 255, A to
-- X, pA to pX, .. , yA to yO; $ for the end of a row
abbrev pub IsTagOf : Mark → List ℕ → Type 0
IsTagOf Dead tag = (tag ≡ codes "b") ⊎ (tag ≡ codes ".")
IsTagOf (Alive state) tag = ((state ≡ 1) × (tag ≡ codes "o")) ⊎ ((1 ≤ state) × (state ≤ 255) × (tag ≡ state_tag state))
IsTagOf RowEnd tag = tag ≡ codes "$"

-- a count is from 1 to 999,999,999
abbrev pub IsCount : ℕ → Type 0
IsCount n = (1 ≤ n) × (n ≤ 999999999)

-- what stands before a tag: a number in decimal digits, which is the run's count, or nothing for one
abbrev pub IsCountOf : ℕ → List ℕ → Type 0
IsCountOf n digits = ((digits ≡ []) × (n ≡ 1)) ⊎ (IsNumeral 10 digits × (digits_value 10 digits ≡ n) × IsCount n)

-- no digit stands at the front
abbrev pub EndsDigits : List ℕ → Type 0
EndsDigits [] = Unit {0}
EndsDigits (b ∷ bs) = is_ascii_digit b ≡ false

-- the text ends here, or what may stand between runs or after them all, a blank or !, stands at the front
abbrev pub EndsRuns : List ℕ → Type 0
EndsRuns [] = Unit {0}
EndsRuns (b ∷ bs) = (is_blank b || b == 33) ≡ true

-- the fault at a place in this line where neither a blank nor a run nor the end, !, stands:
-- NoEnd where the text ends; BadCount where a number is no count, or no tag follows it but a blank, ! or the text's end;
-- BadCell where no tag begins, though something else stands there, with a count before it or without
abbrev pub IsFaultAt : ℕ → List ℕ → PatternFault → Type 0
IsFaultAt line text NoEnd = text ≡ []
IsFaultAt line text (BadCount l) =
    (l ≡ line) × ((digits : List ℕ) × (behind : List ℕ) × (text ≡ digits ++ behind) × IsNumeral 10 digits × EndsDigits behind × ((IsCount (digits_value 10 digits) → ⊥) ⊎ EndsRuns behind))
IsFaultAt line text (BadCell l) =
    (l ≡ line) × ((n : ℕ) × (digits : List ℕ) × (behind : List ℕ) × (text ≡ digits ++ behind) × IsCountOf n digits × EndsDigits behind × (EndsRuns behind → ⊥)
    × ((mark : Mark) (tag rest : List ℕ) → IsTagOf mark tag → behind ≡ tag ++ rest → ⊥))
IsFaultAt line text _ = ⊥

-- the line after blanks: each LF (10) ends one
abbrev pub line_behind : ℕ → List ℕ → ℕ
line_behind line blanks = line + count_by (λ b. b == 10) blanks

-- a text whose first byte stands in this line has these pieces, after blanks each: runs, and the end, !, whatever stands
-- after it; or runs and a fault
abbrev pub AreRuns : ℕ → List (Result Run PatternFault) → List ℕ → Type 0
AreRuns line [] text =
    (blanks : List ℕ) × (behind : List ℕ) × (list_all is_blank blanks ≡ true) × (text ≡ blanks ++ (codes "!" ++ behind))
AreRuns line (Ok run ∷ pieces) text =
    (blanks : List ℕ) × (digits : List ℕ) × (tag : List ℕ) × (rest : List ℕ) × (list_all is_blank blanks ≡ true) × (text ≡ blanks ++ (digits ++ (tag ++ rest)))
    × (run.line ≡ line_behind line blanks) × IsCountOf run.count digits × IsTagOf run.mark tag × AreRuns run.line pieces rest
AreRuns line (Err fault ∷ pieces) text =
    (pieces ≡ []) × ((blanks : List ℕ) × (rest : List ℕ) × (list_all is_blank blanks ≡ true) × (text ≡ blanks ++ rest) × IsFaultAt (line_behind line blanks) rest fault)

-- Lines that may be shown, and their parts.
use Rattle.std.specs.Prelude.{◌≡◌, ℕ, ◌==◌, Bool, ◌||◌, ◌&&◌, not, List, [], ◌∷◌, nat_lt, length, MatchResult, Option, Some, None, Result, Ok, Err, if◌then◌else◌}
use Rattle.std.specs.List.{list_any}
use Rattle.std.specs.Str.{is_utf8}
use Rattle.import_lines.specs.declared.words_fault.WordsFault.{WordsFault}
use Rattle.import_lines.specs.declared.words_fault.WordsFault.TheVariants.{NotUtf8, ControlCharacter, LongLine, OneWord, TooManyWords}

-- the most bytes of a line
abbrev pub most_bytes : ℕ
most_bytes = 65536

-- a control character other than TAB and CR
abbrev pub is_control : ℕ → Bool
is_control b = (nat_lt b 32 && not (b == 9) && not (b == 13)) || b == 127

-- the line, where it may be shown
abbrev pub shown : List ℕ → Result (List ℕ) WordsFault
shown line =
    if not (is_utf8 line) then Err NotUtf8
    else if list_any is_control line then Err ControlCharacter
    else if nat_lt most_bytes (length line) then Err LongLine
    else Ok line

-- the two words, and the third where there is one
abbrev pub parts_of : List (List ℕ) → Result (List ℕ × List ℕ × Option (List ℕ)) WordsFault
parts_of [] = Err OneWord
parts_of (a ∷ []) = Err OneWord
parts_of (a ∷ b ∷ []) = Ok (a, b, None)
parts_of (a ∷ b ∷ w ∷ []) = Ok (a, b, Some w)
parts_of (a ∷ b ∷ w ∷ x ∷ words) = Err TooManyWords

-- what was returned, seen by view, is the defined result
abbrev pub IsGiven : {A B E : Type 0} → (B → A) → Result A E → Result B E → Type 0
IsGiven view defined r = MatchResult r (λ x. defined ≡ Ok (view x)) (λ fault. defined ≡ Err fault)

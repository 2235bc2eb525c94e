-- Lines and columns of the bytes of a text (10 is LF).
use Rattle.std.specs.Prelude.{ℕ, List, [], ◌∷◌, ◌≡◌, ◌≢◌, ◌+◌, ◌-◌, ◌<◌, ◌≤◌, ◌==◌, length, take, drop, slice_index, if◌then◌else◌}
use Rattle.std.specs.Str.{is_utf8, chars}
use Rattle.app_why.specs.declared.place.Place.{Place}

-- how many lines end in the bytes: how often LF stands there
abbrev pub lines_ended : List ℕ → ℕ
lines_ended [] = 0
lines_ended (b ∷ bs) = if b == 10 then lines_ended bs + 1 else lines_ended bs

-- the last line of the bytes begins here: at their beginning or after an LF, and no LF stands from here on
pub record IsLineStart (bytes : List ℕ) (start : ℕ) : Type 0 where
  pub within : start ≤ length bytes
  pub begins : 0 < start → slice_index bytes (start - 1) ≡ 10
  pub inside : (k : ℕ) → start ≤ k → k < length bytes → slice_index bytes k ≢ 10

-- how many characters the bytes are; bytes where they are no UTF-8
abbrev pub width : List ℕ → ℕ
width bytes = if is_utf8 bytes then length (chars bytes) else length bytes

-- the place of the byte `at`: after the lines that end before it, in the last line of the bytes before it
pub record IsPlace (text : List ℕ) (at : ℕ) (place : Place) : Type 0 where
  pub line : place.line ≡ lines_ended (take at text) + 1
  pub start : IsLineStart (take at text) place.start
  pub column : place.column ≡ width (drop place.start (take at text)) + 1

-- the bytes up to the first LF, or all of them where there is none
abbrev pub line_of : List ℕ → List ℕ
line_of [] = []
line_of (b ∷ bs) = if b == 10 then [] else b ∷ line_of bs

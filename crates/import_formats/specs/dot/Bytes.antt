-- Sorts of bytes. Bytes are numbers: 10 is LF, 46 is a point, 95 is _.
use Rattle.std.specs.Prelude.{ℕ, ◌==◌, Bool, ◌||◌, not, nat_le}
use Rattle.std.specs.Char.{is_ascii_alphanumeric, is_ascii_digit}
pub use Rattle.import_lines.specs.Texts.{is_line_feed}

-- any byte but LF
abbrev pub is_inside_line : ℕ → Bool
is_inside_line b = not (is_line_feed b)

-- TAB, LF, CR, a blank
abbrev pub is_blank : ℕ → Bool
is_blank b = b == 9 || b == 10 || b == 13 || b == 32

-- a letter, a digit, _, or a byte of 128 or more
abbrev pub is_word_byte : ℕ → Bool
is_word_byte b = is_ascii_alphanumeric b || b == 95 || nat_le 128 b

-- a point
abbrev pub is_point : ℕ → Bool
is_point b = b == 46

-- a digit or a point
abbrev pub begins_numeral : ℕ → Bool
begins_numeral b = is_ascii_digit b || is_point b

-- what does not stand after a numeral without a blank: a byte of words, or a point
abbrev pub is_numeral_byte : ℕ → Bool
is_numeral_byte b = is_word_byte b || is_point b

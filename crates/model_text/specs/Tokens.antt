-- The tokens of a model's text. Bytes are numbers: 35 is `#`, 46 is `.`, 61 is `=`, 95 is `_`, 110 is `n`.
use Rattle.std.specs.Prelude.{ℕ, ◌+◌, ◌-◌, ◌*◌, ◌^◌, ◌≡◌, ◌==◌, ◌||◌, ◌&&◌, List, [], ◌∷◌, Bool, true, false, nat_lt, nat_le, nat_eq, length, take, drop, Option, Some, None, if◌then◌else◌}
use Rattle.std.specs.List.{prefix_len}
use Rattle.std.specs.Option.{option_map}
use Rattle.std.specs.Char.{is_ascii_alphabetic, is_ascii_digit}
use Rattle.rule_lang.specs.Tokens.{is_word_byte, is_blank, is_inside_line}
use Rattle.model_text.specs.declared.tree.Decimal.{Decimal}
use Rattle.model_text.specs.declared.keyword.Keyword.{Keyword}
use Rattle.model_text.specs.declared.keyword.Keyword.TheVariants as word
use Rattle.model_text.specs.declared.token.Sign.{Sign}
use Rattle.model_text.specs.declared.token.Sign.TheVariants.{Assign, Semicolon, Colon, Comma, Open, Close, BraceOpen, BraceClose, Plus, Minus, Star, Slash, Percent, Ampersand, Bar, Caret, Equal, Differ, Less, LessEq, Greater, GreaterEq}
use Rattle.model_text.specs.declared.lex.Sort.{Sort}
use Rattle.model_text.specs.declared.lex.Sort.TheVariants as sort
use Rattle.model_text.specs.Keywords.{keyword_of}

-- a reserved word, a name, a name after `n.`, `n.id`, `n.weight`, a number, a decimal, or a sign
pub data Tok : Type 0 where
  KeywordTok : (keyword : Keyword) → Tok
  NameTok : (name : List ℕ) → Tok
  NearTok : (name : List ℕ) → Tok
  NearIdTok : Tok
  NearWeightTok : Tok
  NumberTok : (value : ℕ) → Tok
  DecimalTok : (decimal : Decimal) → Tok
  SignTok : (sign : Sign) → Tok

-- a token, and the place of its first byte
pub data Placed : Type 0 where
  placed : (token : Tok) (at : ℕ) → Placed

-- the bytes of a sort: those of words, digits, those of numerals, those of a line
abbrev pub belongs : Sort → ℕ → Bool
belongs sort.Word b = is_word_byte b
belongs sort.Digit b = is_ascii_digit b
belongs sort.Numeral b = is_ascii_digit b || b == 95
belongs sort.Line b = is_inside_line b

-- One byte more of a numeral, whose value so far is s.0, and whose last byte is `_` where s.1 is true: a digit, or `_`
-- between digits. None where that can't be, or where the value would not be below 2 ^ 32.
abbrev pub numeral_step : ℕ × Bool → ℕ → Option (ℕ × Bool)
numeral_step s b =
    if b == 95 then (if s.1 then None else Some (s.0, true))
    else if is_ascii_digit b then (if nat_lt (s.0 * 10 + (b - 48)) (2 ^ 32) then Some (s.0 * 10 + (b - 48), false) else None)
    else None

-- a numeral with these bytes more
abbrev pub numeral_after : Option (ℕ × Bool) → (ℕ × Bool → Option (ℕ × Bool)) → Option (ℕ × Bool)
numeral_after None next = None
numeral_after (Some s) next = next s

abbrev pub numeral_from : ℕ × Bool → List ℕ → Option (ℕ × Bool)
numeral_from s [] = Some s
numeral_from s (b ∷ bytes) = numeral_after (numeral_step s b) (λ t. numeral_from t bytes)

-- the value of a whole numeral, which does not end in `_`
abbrev pub whole_value : Option (ℕ × Bool) → Option ℕ
whole_value None = None
whole_value (Some s) = if s.1 then None else Some s.0

abbrev pub numeral_value : List ℕ → Option ℕ
numeral_value bytes = whole_value (numeral_from (0, false) bytes)

-- a word: a reserved word, or a name
abbrev pub word_only : Option Keyword → List ℕ → Tok
word_only None w = NameTok w
word_only (Some k) w = KeywordTok k

abbrev pub word_tok : List ℕ → Tok
word_tok w = word_only (keyword_of w) w

-- a word after `n.`: a name, `id` or `weight`
abbrev pub near_only : Option Keyword → List ℕ → Option Tok
near_only None w = Some (NearTok w)
near_only (Some word.Id) w = Some NearIdTok
near_only (Some word.Weight) w = Some NearWeightTok
near_only (Some _) w = None

unfoldable pub near_tok : List ℕ → Option Tok
near_tok w = near_only (keyword_of w) w

-- a token with how many bytes it takes after its first
abbrev pub sized : Option Tok → ℕ → Option (Tok × ℕ)
sized None size = None
sized (Some t) size = Some (t, size)

-- the bytes of this sort at the front
abbrev pub run : Sort → List ℕ → List ℕ
run s bytes = take (prefix_len (belongs s) bytes) bytes

-- the sign of this byte alone
unfoldable pub short_sign_of : ℕ → Option Sign
short_sign_of b =
    if nat_eq b 61 then Some Assign else
    if nat_eq b 59 then Some Semicolon else
    if nat_eq b 58 then Some Colon else
    if nat_eq b 44 then Some Comma else
    if nat_eq b 40 then Some Open else
    if nat_eq b 41 then Some Close else
    if nat_eq b 123 then Some BraceOpen else
    if nat_eq b 125 then Some BraceClose else
    if nat_eq b 43 then Some Plus else
    if nat_eq b 45 then Some Minus else
    if nat_eq b 42 then Some Star else
    if nat_eq b 47 then Some Slash else
    if nat_eq b 37 then Some Percent else
    if nat_eq b 38 then Some Ampersand else
    if nat_eq b 124 then Some Bar else
    if nat_eq b 94 then Some Caret else
    if nat_eq b 60 then Some Less else
    if nat_eq b 62 then Some Greater else
    None

-- the sign of this byte and `=`
unfoldable pub long_sign_of : ℕ → Option Sign
long_sign_of b =
    if nat_eq b 61 then Some Equal else
    if nat_eq b 33 then Some Differ else
    if nat_eq b 60 then Some LessEq else
    if nat_eq b 62 then Some GreaterEq else
    None

abbrev pub sign_only : Option Sign → ℕ → Option (Tok × ℕ)
sign_only None size = None
sign_only (Some s) size = Some (SignTok s, size)

abbrev pub long_or_short : Option Sign → Option Sign → Option (Tok × ℕ)
long_or_short None short = sign_only short 0
long_or_short (Some s) short = Some (SignTok s, 1)

-- the longest sign of this byte and those after it
unfoldable pub sign_at : ℕ → List ℕ → Option (Tok × ℕ)
sign_at b [] = sign_only (short_sign_of b) 0
sign_at b (c ∷ bytes) = if nat_eq c 61 then long_or_short (long_sign_of b) (short_sign_of b) else sign_only (short_sign_of b) 0

-- `n.` and a letter stand here
unfoldable pub begins_near : List ℕ → Bool
begins_near [] = false
begins_near (a ∷ []) = false
begins_near (a ∷ b ∷ []) = false
begins_near (a ∷ b ∷ c ∷ bytes) = (a == 110) && ((b == 46) && is_ascii_alphabetic c)

-- a letter and the letters, digits and `_` after it are a word; after `n.` it is one of the neighbour
abbrev pub word_at : List ℕ → Option (Tok × ℕ)
word_at bytes = Some (word_tok (run sort.Word bytes), length (run sort.Word bytes) - 1)

abbrev pub near_at : List ℕ → Option (Tok × ℕ)
near_at bytes = sized (near_tok (run sort.Word (drop 2 bytes))) (1 + length (run sort.Word (drop 2 bytes)))

-- a point and a digit stand here
unfoldable pub begins_fraction : List ℕ → Bool
begins_fraction [] = false
begins_fraction (a ∷ []) = false
begins_fraction (a ∷ b ∷ bytes) = (a == 46) && is_ascii_digit b

-- digits and the digits after the point, nine at most: a decimal
abbrev pub decimal_only : Option ℕ → ℕ → Option Tok
decimal_only None places = None
decimal_only (Some n) places = Some (DecimalTok (record { numerator = n; places = places }))

abbrev pub decimal_tok : List ℕ → List ℕ → Option Tok
decimal_tok digits fraction =
    if nat_le (length fraction) 9 then decimal_only (whole_value (numeral_after (numeral_from (0, false) digits) (λ s. numeral_from s fraction))) (length fraction) else None

-- the digits after the point that follows so many digits
abbrev pub fraction_behind : ℕ → List ℕ → List ℕ
fraction_behind digits bytes = run sort.Digit (drop (digits + 1) bytes)

abbrev pub decimal_at : List ℕ → Option (Tok × ℕ)
decimal_at bytes =
    sized (decimal_tok (run sort.Digit bytes) (fraction_behind (length (run sort.Digit bytes)) bytes)) (length (run sort.Digit bytes) + length (fraction_behind (length (run sort.Digit bytes)) bytes))

-- digits and `_`
abbrev pub number_at : List ℕ → Option (Tok × ℕ)
number_at bytes = sized (option_map NumberTok (numeral_value (run sort.Numeral bytes))) (length (run sort.Numeral bytes) - 1)

-- the token at the front of bytes, and how many it takes after the first
unfoldable pub token_at : List ℕ → Option (Tok × ℕ)
token_at [] = None
token_at (b ∷ bytes) =
    if is_ascii_alphabetic b then (if begins_near (b ∷ bytes) then near_at (b ∷ bytes) else word_at (b ∷ bytes))
    else if is_ascii_digit b then (if begins_fraction (drop (length (run sort.Digit (b ∷ bytes))) (b ∷ bytes)) then decimal_at (b ∷ bytes) else number_at (b ∷ bytes))
    else sign_at b bytes

abbrev pub stepped : Option (Tok × ℕ) → Option (Option Tok × ℕ)
stepped None = None
stepped (Some x) = Some (Some x.0, x.1)

-- what stands at the front of bytes: a blank or a comment, which give no token, or a token; and how many bytes it takes
-- after the first
unfoldable pub step_at : List ℕ → Option (Option Tok × ℕ)
step_at [] = None
step_at (b ∷ bytes) =
    if is_blank b then Some (None, 0)
    else if b == 35 then Some (None, prefix_len (belongs sort.Line) bytes)
    else stepped (token_at (b ∷ bytes))

-- The tokens of the last bytes of a text that has `end` bytes: at each place stands what step_at tells.
pub data HasTokens : ℕ → List ℕ → List Placed → Type 0 where
  at_end : (end : ℕ) → HasTokens end [] []
  after_gap : (end b size : ℕ) (bytes : List ℕ) (tokens : List Placed) → step_at (b ∷ bytes) ≡ Some (None, size) → HasTokens end (drop size bytes) tokens → HasTokens end (b ∷ bytes) tokens
  after_token : (end b size : ℕ) (bytes : List ℕ) (token : Tok) (tokens : List Placed) → step_at (b ∷ bytes) ≡ Some (Some token, size) → HasTokens end (drop size bytes) tokens → HasTokens end (b ∷ bytes) (placed token (end - length (b ∷ bytes)) ∷ tokens)

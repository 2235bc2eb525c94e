-- Weights as words: whole numbers, or decimal ones times a factor.
use Rattle.std.specs.Prelude.{ℕ, ◌+◌, ◌*◌, ◌/◌, ◌%◌, ◌^◌, ◌==◌, Bool, true, false, ◌||◌, ◌&&◌, not, List, [], ◌∷◌, ◌++◌, nat_le, length, slice_index, Option, Some, None, Result, Ok, Err, if◌then◌else◌}
use Rattle.std.specs.List.{list_any, before_first, after_first}
use Rattle.std.specs.Str.{all_ascii_digits}
use Rattle.std.specs.Str.Parse.{digits_value}
use Rattle.import_lines.specs.declared.weight_fault.WeightFault.{WeightFault}
use Rattle.import_lines.specs.declared.weight_fault.WeightFault.TheVariants.{Negative, Decimal, BadWeight, TooManyDigits, WeightTooLarge}
use Rattle.import_lines.specs.declared.weight.Weight.{Weight}

-- the greatest weight
abbrev pub most_weight : ℕ
most_weight = 4294967295

-- a point
abbrev pub is_point : ℕ → Bool
is_point b = b == 46

-- E or e
abbrev pub is_exponent_mark : ℕ → Bool
is_exponent_mark b = b == 69 || b == 101

-- + or -
abbrev pub is_sign : ℕ → Bool
is_sign b = b == 43 || b == 45

-- a whole number: digits alone, one or more
abbrev pub is_whole : List ℕ → Bool
is_whole bytes = not (length bytes == 0) && all_ascii_digits bytes

-- digits with a point among them or without, one digit at least
abbrev pub is_mantissa : List ℕ → Bool
is_mantissa bytes = is_whole (before_first is_point bytes ++ after_first is_point bytes)

-- a whole number, with a sign before it or without
abbrev pub is_exponent : List ℕ → Bool
is_exponent [] = false
is_exponent (b ∷ bytes) = if is_sign b then is_whole bytes else is_whole (b ∷ bytes)

-- a number, whole or decimal: a mantissa, and an exponent after an E or without
abbrev pub is_number : List ℕ → Bool
is_number bytes =
    is_mantissa (before_first is_exponent_mark bytes)
    && (not (list_any is_exponent_mark bytes) || is_exponent (after_first is_exponent_mark bytes))

-- a minus sign before a number
abbrev pub is_negative : List ℕ → Bool
is_negative [] = false
is_negative (b ∷ bytes) = b == 45 && is_number bytes

-- what is wrong with a word that is no whole number
abbrev pub bad_weight : List ℕ → WeightFault
bad_weight word = if is_negative word then Negative else if is_number word then Decimal else BadWeight

-- the part of a number before its exponent
abbrev pub mantissa_of : List ℕ → List ℕ
mantissa_of word = before_first is_exponent_mark word

-- its digits, those before the point and those after it, as one whole number
abbrev pub digits_of : List ℕ → ℕ
digits_of word = digits_value 10 (before_first is_point (mantissa_of word) ++ after_first is_point (mantissa_of word))

-- how many of them stand after the point
abbrev pub places_of : List ℕ → ℕ
places_of word = length (after_first is_point (mantissa_of word))

-- its exponent, nothing where it has none
abbrev pub exponent_of : List ℕ → List ℕ
exponent_of word = after_first is_exponent_mark word

-- what stands after a sign, where there is one
abbrev pub behind_sign : List ℕ → List ℕ
behind_sign [] = []
behind_sign (b ∷ bytes) = if is_sign b then bytes else b ∷ bytes

-- an exponent without its sign as a number, 0 where there is none
abbrev pub power_of : List ℕ → ℕ
power_of exponent = digits_value 10 (behind_sign exponent)

-- an exponent with a minus sign
abbrev pub is_lowering : List ℕ → Bool
is_lowering exponent = slice_index exponent 0 == 45

-- the power of ten that an exponent multiplies by, and the one that it divides by
abbrev pub raise_of : List ℕ → ℕ
raise_of exponent = if is_lowering exponent then 0 else power_of exponent

abbrev pub lower_of : List ℕ → ℕ
lower_of exponent = if is_lowering exponent then power_of exponent else 0

-- a number is raised_of divided by lowered_of
abbrev pub raised_of : List ℕ → ℕ
raised_of word = digits_of word * 10 ^ raise_of (exponent_of word)

abbrev pub lowered_of : List ℕ → ℕ
lowered_of word = 10 ^ (places_of word + lower_of (exponent_of word))

-- the whole number nearest to a / b, the greater one where two are
abbrev pub nearest : ℕ → ℕ → ℕ
nearest a b = (2 * a + b) / (2 * b)

-- a weight, where it is not too large
abbrev pub fitting : ℕ → Bool → Result Weight WeightFault
fitting value exact = if nat_le value most_weight then Ok (record { value = value; exact = exact }) else Err WeightTooLarge

-- the weight nearest to a / b, and whether it is that
abbrev pub weight_near : ℕ → ℕ → Result Weight WeightFault
weight_near a b = fitting (nearest a b) (a % b == 0)

-- the weight that a word says: a whole number, or where a factor is given any number times that
abbrev pub weight_of : Option ℕ → List ℕ → Result Weight WeightFault
weight_of None word =
    if not (is_whole word) then Err (bad_weight word)
    else fitting (digits_value 10 word) true
weight_of (Some f) word =
    if is_negative word then Err Negative
    else if not (is_number word) then Err BadWeight
    else if nat_le (2 ^ 64) (digits_of word) then Err TooManyDigits
    else weight_near (f * raised_of word) (lowered_of word)

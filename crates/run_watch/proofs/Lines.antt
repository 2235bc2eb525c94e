-- Texts that have no LF, and digits and names among them.
use Rattle.std.proofs.Common.{◌≡◌, ◌≢◌, ◌<◌, ◌^◌, ℕ, zero, suc, List, [], ◌∷◌, Bool, true, false, not, ◌&&◌, ◌==◌, All, ap, arith, get_or, length, refl, slice_get, slice_index_or, subst}
use Rattle.std.proofs.lemmas.Bool.Decides.{nat_tests}
use Rattle.std.proofs.lemmas.Fmt.{digits_decimal}
use Rattle.std.proofs.lemmas.List.Elements.{All-from_get_or}
use Rattle.std.proofs.lemmas.Str.Parse.{IsNumeralModel, numerals_by_value, tells_by_index}
use Rattle.std.specs.Fmt.{decimal}
use Rattle.std.specs.Int.{IsInRange}
use Rattle.std.specs.List.{AllByRecursion, list_all}
use Rattle.std.specs.Option.{option_map}
use Rattle.std.specs.Str.Parse.{digits_value}
use Rattle.rule_lang.specs.Tokens.{IsWord, is_word_byte}
use Rattle.rule_lang.proofs.Forms.{word_all}
use Rattle.rule_check.specs.WellFormed.{IsFieldName}
use Rattle.run_watch.specs.Records.{IsPlain}
use Rattle.run_watch.specs.Watching.{label_of}

by_place : IsNumeralModel (λ ds. (i : ℕ) → i < length ds → IsInRange 48 57 (get_or ds i 0)) (digits_value 10)
by_place = numerals_by_value _ tells_by_index

digit_plain : (b : ℕ) → IsInRange 48 57 b → (b ≢ 44) × (b ≢ 10)
digit_plain b digit = (omega (arith, digit.0), omega (arith, digit.0))

-- numbers have no comma and no LF
pub decimal_plain : (n : ℕ) → n < 2 ^ 32 → IsPlain (decimal n)
decimal_plain n small =
    let wide : n < 2 ^ 64 = omega (arith, small) in
    All-from_get_or (λ b. (b ≢ 44) × (b ≢ 10)) (decimal n) 0 (λ i inside. digit_plain (get_or (decimal n) i 0) (digits_decimal by_place n wide i inside))

pub no_end : (text : List ℕ) → IsPlain text → All (λ b. b ≢ 10) text
no_end text plain k d inside = (plain k d inside).1

-- what holds of each element of a list and of what stands past its end holds at each place
pub at_each : {A : Type 0} (P : A → Type 0) (default : A) (xs : List A) (k : ℕ) → P default → All P xs → P (slice_index_or xs k default)
at_each P default [] k past all = past
at_each P default (x ∷ xs) zero past all = all zero x (omega arith)
at_each P default (x ∷ xs) (suc k) past all = at_each P default xs k past (λ j d inside. all (suc j) d (omega (arith, inside)))

-- labels and numbers have no comma and no LF
pub name_plain : {A : Type 0} (bytes : A → List ℕ) (labels : List A) (k u : ℕ) → u < 2 ^ 32 → All (λ label. IsPlain (bytes label)) labels → IsPlain (label_of (option_map bytes (slice_get labels k)) u)
name_plain bytes [] k u small all = decimal_plain u small
name_plain bytes (x ∷ xs) zero u small all = all zero x (omega arith)
name_plain bytes (x ∷ xs) (suc k) u small all = name_plain bytes xs k u small (λ j d inside. all (suc j) d (omega (arith, inside)))

-- where there are no labels, a node's number stands for it
pub number_is : {A : Type 0} (bytes : A → List ℕ) (labels : List A) (u : ℕ) → labels ≡ [] → label_of (option_map bytes (slice_get labels u)) u ≡ decimal u
number_is bytes labels u none = ap (λ ls. label_of (option_map bytes (slice_get ls u)) u) none

-- ---- texts that are written out

both : (a b : Bool) → (a && b) ≡ true → (a ≡ true) × (b ≡ true)
both true b are = (refl, are)
both false b are = absurd (let e : false ≡ true = are in cc)

-- what a test that is true of each byte says of each
written : (P : ℕ → Type 0) (test : ℕ → Bool) → ((x : ℕ) → test x ≡ true → P x) → (text : List ℕ) → list_all test text ≡ true → All P text
written P test says [] tested k d inside = absurd (omega (arith, inside))
written P test says (x ∷ xs) tested zero d inside = says x (both (test x) (list_all test xs) tested).0
written P test says (x ∷ xs) tested (suc k) d inside = written P test says xs (both (test x) (list_all test xs) tested).1 k d (omega (arith, inside))

other_byte : (c x : ℕ) → not (x == c) ≡ true → x ≢ c
other_byte c x is same = absurd (grind (arith, nat_tests, is, same))

abbrev no_end_test : ℕ → Bool
no_end_test b = not (b == 10)

abbrev plain_test : ℕ → Bool
plain_test b = not (b == 44) && not (b == 10)

pub written_no_end : (text : List ℕ) → list_all no_end_test text ≡ true → All (λ b. b ≢ 10) text
written_no_end text tested = written (λ b. b ≢ 10) no_end_test (λ x is. other_byte 10 x is) text tested

pub written_plain : (text : List ℕ) → list_all plain_test text ≡ true → IsPlain text
written_plain text tested =
    written (λ b. (b ≢ 44) × (b ≢ 10)) plain_test
    (λ x is.
    let parts = both (not (x == 44)) (not (x == 10)) is in
    (other_byte 44 x parts.0, other_byte 10 x parts.1)) text tested

-- ---- names

word_byte_other : (c x : ℕ) → is_word_byte c ≡ false → is_word_byte x ≡ true → x ≢ c
word_byte_other c x none is same = absurd (let bad : is_word_byte c ≡ true = subst (λ (b : ℕ). is_word_byte b ≡ true) same is in let e : false ≡ true = subst (λ (b : Bool). b ≡ true) none bad in cc)

word_bytes : (text : List ℕ) → AllByRecursion (λ b. is_word_byte b ≡ true) text → All (λ b. is_word_byte b ≡ true) text
word_bytes [] all k d inside = absurd (omega (arith, inside))
word_bytes (x ∷ xs) all zero d inside = all.0
word_bytes (x ∷ xs) all (suc k) d inside = word_bytes xs all.1 k d (omega (arith, inside))

-- each byte of a word is one of words
pub bytes_in_word : (name : List ℕ) → IsWord name → All (λ b. is_word_byte b ≡ true) name
bytes_in_word name is = word_bytes name (word_all name is)

-- a word has no comma and no LF
pub word_plain : (name : List ℕ) → IsWord name → IsPlain name
word_plain name is k d inside =
    let byte = bytes_in_word name is k d inside in
    (word_byte_other 44 (slice_index_or name k d) refl byte, word_byte_other 10 (slice_index_or name k d) refl byte)

-- each byte of a field's name is one of words
pub name_bytes : (name : List ℕ) → IsFieldName name → All (λ b. is_word_byte b ≡ true) name
name_bytes name is = bytes_in_word name is.0

-- a field's name has no comma and no LF
pub field_name_plain : (name : List ℕ) → IsFieldName name → IsPlain name
field_name_plain name is = word_plain name is.0

-- a byte of a word is another than one that is none
pub word_byte_is_other : (c x : ℕ) → is_word_byte c ≡ false → is_word_byte x ≡ true → (x == c) ≡ false
word_byte_is_other c x none is =
    let other = word_byte_other c x none is in
    grind (arith, nat_tests, other)

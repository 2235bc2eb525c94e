-- Numerals: digits and points, counted.
use Rattle.std.proofs.Common.{◌≡◌, ℕ, ◌+◌, ◌-◌, ◌≤◌, Bool, true, false, cond, List, [], ◌∷◌, length, refl, sym, ap, ◌∙◌, subst, arith, ◌&&◌, ◌||◌, eqb-true, eq-eqb, lt-ltb, le-leb, ltb-true, leb-true}
use Rattle.std.specs.Prelude.{◌==◌, nat_lt, nat_le}
use Rattle.std.specs.List.{AllByRecursion, count_by}
use Rattle.std.specs.Char.{is_ascii_digit}
use Rattle.std.proofs.lemmas.Bool.{false≢true}
use Rattle.std.proofs.lemmas.List.Sums.{sum_by-cons, count_by-le-length}
use Rattle.import_formats.specs.dot.Bytes.{is_point, begins_numeral, is_numeral_byte}
use Rattle.import_formats.specs.dot.Lexemes.{IsNumeral}
use Rattle.import_formats.specs.dot.Runs.{is_numeral}
use Rattle.import_formats.proofs.dot.ByteTests.{by_test, differs}

pub count_cons : (sort : ℕ → Bool) (b : ℕ) (bytes : List ℕ) → count_by sort (b ∷ bytes) ≡ cond (sort b) 1 0 + count_by sort bytes
count_cons sort b bytes = sum_by-cons (λ x. cond (sort x) 1 0) b bytes

pub count_one : (sort : ℕ → Bool) (b : ℕ) (bytes : List ℕ) → sort b ≡ true → count_by sort (b ∷ bytes) ≡ 1 + count_by sort bytes
count_one sort b bytes is = count_cons sort b bytes ∙ ap (λ t. cond t 1 0 + count_by sort bytes) is

pub count_none : (sort : ℕ → Bool) (b : ℕ) (bytes : List ℕ) → sort b ≡ false → count_by sort (b ∷ bytes) ≡ count_by sort bytes
count_none sort b bytes is = count_cons sort b bytes ∙ ap (λ t. cond t 1 0 + count_by sort bytes) is ∙ omega arith

-- a byte that begins a numeral is a digit or a point, and not both
digit_no_point : (b : ℕ) → is_ascii_digit b ≡ true → is_point b ≡ false
digit_no_point b is = differs is_ascii_digit b 46 is refl

other_point : (b : ℕ) → begins_numeral b ≡ true → is_ascii_digit b ≡ false → is_point b ≡ true
other_point b is other = (let both : (false || is_point b) ≡ true = subst (λ x. (x || is_point b) ≡ true) other is in both)

counts_all : (bytes : List ℕ) → AllByRecursion (λ b. begins_numeral b ≡ true) bytes → count_by is_ascii_digit bytes + count_by is_point bytes ≡ length bytes
counts_all [] all = refl
counts_all (b ∷ bytes) all =
    (let more = counts_all bytes all.1 in
    by_test (is_ascii_digit b)
    (λ is. let d = count_one is_ascii_digit b bytes is in let p = count_none is_point b bytes (digit_no_point b is) in omega (arith, d, p, more))
    (λ is. let d = count_none is_ascii_digit b bytes is in let p = count_one is_point b bytes (other_point b all.0 is) in omega (arith, d, p, more)))

counts_most : (bytes : List ℕ) → count_by is_ascii_digit bytes + count_by is_point bytes ≤ length bytes
counts_most [] = omega arith
counts_most (b ∷ bytes) =
    (let more = counts_most bytes in
    by_test (is_ascii_digit b)
    (λ is. let d = count_one is_ascii_digit b bytes is in let p = count_none is_point b bytes (digit_no_point b is) in omega (arith, d, p, more))
    (λ is. let d = count_none is_ascii_digit b bytes is in by_test (is_point b) (λ at. let p = count_one is_point b bytes at in omega (arith, d, p, more)) (λ at. let p = count_none is_point b bytes at in omega (arith, d, p, more))))

pub digit_begins : (b : ℕ) → is_ascii_digit b ≡ true → begins_numeral b ≡ true
digit_begins b is = rw is refl

pub point_begins : (b : ℕ) → is_point b ≡ true → begins_numeral b ≡ true
point_begins b is = subst (λ x. begins_numeral x ≡ true) (sym (eqb-true b 46 is)) refl

counts_found : (bytes : List ℕ) → count_by is_ascii_digit bytes + count_by is_point bytes ≡ length bytes → AllByRecursion (λ b. begins_numeral b ≡ true) bytes
counts_found [] e = tt
counts_found (b ∷ bytes) e =
    by_test (is_ascii_digit b)
    (λ is. let d = count_one is_ascii_digit b bytes is in let p = count_none is_point b bytes (digit_no_point b is) in (digit_begins b is, counts_found bytes (omega (arith, d, p, e))))
    (λ is.
    let d = count_none is_ascii_digit b bytes is in
    by_test (is_point b)
    (λ at. let p = count_one is_point b bytes at in (point_begins b at, counts_found bytes (omega (arith, d, p, e))))
    (λ at. let p = count_none is_point b bytes at in absurd (omega (arith, d, p, e, counts_most bytes))))

-- ---- the lexer's test

all_three : (x y z : Bool) → x ≡ true → y ≡ true → z ≡ true → (x && y && z) ≡ true
all_three true true true a b c = refl
all_three false y z a b c = absurd (false≢true a)
all_three true false z a b c = absurd (false≢true b)
all_three true true false a b c = absurd (false≢true c)

each_of_three : (x y z : Bool) → (x && y && z) ≡ true → (x ≡ true) × (y ≡ true) × (z ≡ true)
each_of_three true true true e = (refl, refl, refl)
each_of_three false y z e = absurd (false≢true e)
each_of_three true false z e = absurd (false≢true e)
each_of_three true true false e = absurd (false≢true e)

pub numeral_passes : (bytes : List ℕ) → IsNumeral bytes → is_numeral bytes ≡ true
numeral_passes bytes is =
    (let digits = count_by is_ascii_digit bytes in
    let points = count_by is_point bytes in
    let all = counts_all bytes is.each in
    all_three (nat_lt 0 digits) (nat_le points 1) (digits == length bytes - points) (lt-ltb 0 digits is.digits) (le-leb points 1 is.points) (eq-eqb digits (length bytes - points) (omega (arith, all))))

pub passes_numeral : (bytes : List ℕ) → is_numeral bytes ≡ true → IsNumeral bytes
passes_numeral bytes is =
    (let digits = count_by is_ascii_digit bytes in
    let points = count_by is_point bytes in
    let are = each_of_three (nat_lt 0 digits) (nat_le points 1) (digits == length bytes - points) is in
    let same : digits ≡ length bytes - points = eqb-true digits (length bytes - points) are.2 in
    let few = count_by-le-length is_point bytes in
    record { each = counts_found bytes (omega (arith, same, few)); digits = ltb-true 0 digits are.0; points = leb-true points 1 are.1 })

begins_inside : (b : ℕ) → begins_numeral b ≡ true → is_numeral_byte b ≡ true
begins_inside b is =
    by_test (is_ascii_digit b) (λ digit. rw digit refl)
    (λ other. subst (λ x. is_numeral_byte x ≡ true) (sym (eqb-true b 46 (other_point b is other))) refl)

pub numeral_bytes : (bytes : List ℕ) → AllByRecursion (λ b. begins_numeral b ≡ true) bytes → AllByRecursion (λ b. is_numeral_byte b ≡ true) bytes
numeral_bytes [] all = tt
numeral_bytes (b ∷ bytes) all = (begins_inside b all.0, numeral_bytes bytes all.1)

-- What the first byte of a lexeme tells.
use Rattle.std.proofs.Common.{◌≡◌, ℕ, Bool, true, false, List, refl, ◌&&◌, ◌||◌}
use Rattle.std.specs.Prelude.{◌==◌, if◌then◌else◌}
use Rattle.std.specs.Char.{is_ascii_digit}
use Rattle.import_formats.specs.declared.dot.fault.DotLineFault.TheVariants.{BadNumeral, NotUtf8}
use Rattle.import_formats.specs.dot.Bytes.{is_blank, is_word_byte, begins_numeral}
use Rattle.import_formats.specs.dot.Lexing.{begins_star, fault_at}
use Rattle.import_formats.proofs.dot.ByteTests.{by_test, differs}

-- one of nine, by the first byte
abbrev pub pick : {A : Type 0} → Bool → ℕ → A → A → A → A → A → A → A → A → A → A
pick fresh b blank hash slash quote angle dash numeral word other =
    if is_blank b then blank
    else if b == 35 && fresh then hash
    else if b == 47 then slash
    else if b == 34 then quote
    else if b == 60 then angle
    else if b == 45 then dash
    else if begins_numeral b then numeral
    else if is_word_byte b then word
    else other

pub pick_numeral : {A : Type 0} (fresh : Bool) (b : ℕ) (blank hash slash quote angle dash numeral word other : A) → begins_numeral b ≡ true → pick fresh b blank hash slash quote angle dash numeral word other ≡ numeral
pick_numeral fresh b blank hash slash quote angle dash numeral word other is =
    (let n : (k : ℕ) → begins_numeral k ≡ false → (b == k) ≡ false = λ k other. differs begins_numeral b k is other in
    rw (n 9 refl, n 10 refl, n 13 refl, n 32 refl, n 35 refl, n 47 refl, n 34 refl, n 60 refl, n 45 refl, is) refl)

pub pick_word : {A : Type 0} (fresh : Bool) (b : ℕ) (blank hash slash quote angle dash numeral word other : A) → is_word_byte b ≡ true → begins_numeral b ≡ false → pick fresh b blank hash slash quote angle dash numeral word other ≡ word
pick_word fresh b blank hash slash quote angle dash numeral word other is no_numeral =
    (let n : (k : ℕ) → is_word_byte k ≡ false → (b == k) ≡ false = λ k other. differs is_word_byte b k is other in
    rw (n 9 refl, n 10 refl, n 13 refl, n 32 refl, n 35 refl, n 47 refl, n 34 refl, n 60 refl, n 45 refl, no_numeral, is) refl)

-- a byte of words that is no digit begins no numeral
pub word_begins : (b : ℕ) → is_word_byte b ≡ true → is_ascii_digit b ≡ false → begins_numeral b ≡ false
word_begins b is digit = (let point : (b == 46) ≡ false = differs is_word_byte b 46 is refl in rw (digit, point) refl)

pub numeral_fault : (b : ℕ) (bytes : List ℕ) → begins_numeral b ≡ true → fault_at b bytes ≡ BadNumeral
numeral_fault b bytes is =
    (let n : (k : ℕ) → begins_numeral k ≡ false → (b == k) ≡ false = λ k other. differs begins_numeral b k is other in
    rw (n 34 refl, n 60 refl, n 47 refl, is) refl)

-- no first byte tells that a text is no UTF-8
pub fault_plain : (b : ℕ) (bytes : List ℕ) → fault_at b bytes ≡ NotUtf8 → ⊥
fault_plain b bytes =
    by_test (b == 34) (λ x. rw x (λ e. cc))
    (λ x. by_test (b == 60) (λ y. rw (x, y) (λ e. cc))
    (λ y. by_test (b == 47 && begins_star bytes) (λ z. rw (x, y, z) (λ e. cc))
    (λ z. by_test (begins_numeral b || b == 45) (λ w. rw (x, y, z, w) (λ e. cc)) (λ w. rw (x, y, z, w) (λ e. cc)))))

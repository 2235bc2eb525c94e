-- The letters of states are read.
use Rattle.std.proofs.Common.{◌≡◌, inl, inr, ℕ, ◌+◌, ◌*◌, ◌-◌, ◌/◌, ◌%◌, ◌<◌, ◌≤◌, ◌==◌, ◌&&◌, true, false, List, ◌∷◌, ◌++◌, nat_le, refl, ◌∙◌, arith, Option, Some, None, Ok}
use Rattle.std.specs.Char.{is_ascii_digit}
use Rattle.std.proofs.lemmas.Bool.{cases_Bool}
use Rattle.std.proofs.lemmas.Bool.Decides.{nat_tests}
use Rattle.net_patterns.specs.declared.board.Mark.TheVariants.{Alive}
use Rattle.net_patterns.specs.RunSteps.{count_of, is_between, pieces_from}
use Rattle.net_patterns.specs.Written.{state_tag}
use Rattle.net_patterns.proofs.RunTexts.{IsTag, is_count}

no_digit : (higher b : ℕ) → 65 ≤ b → (higher == 0 && is_ascii_digit b) ≡ false
no_digit higher b low = grind (arith, nat_tests)

not_between : (higher b : ℕ) → 65 ≤ b → (higher == 0 && is_between b) ≡ false
not_between higher b low = grind (arith, nat_tests)

no_line : (b : ℕ) → 65 ≤ b → (b == 10) ≡ false
no_line b low = grind (arith, nat_tests)

capital : (b : ℕ) → 65 ≤ b → b ≤ 88 → (nat_le 65 b && nat_le b 88) ≡ true
capital b low high = grind (arith, nat_tests)

no_small : (b : ℕ) → b ≤ 88 → (nat_le 112 b && nat_le b 121) ≡ false
no_small b high = grind (arith, nat_tests)

small : (b : ℕ) → 112 ≤ b → b ≤ 121 → (nat_le 112 b && nat_le b 121) ≡ true
small b low high = grind (arith, nat_tests)

known : (state : ℕ) → state ≤ 255 → nat_le state 255 ≡ true
known state few = grind (arith, nat_tests)

and_false : (higher : ℕ) → (higher == 0 && false) ≡ false
and_false higher = grind (arith, nat_tests)

-- a capital letter, after one that adds so many states
letter_read : (number : Option ℕ) (count higher b state line : ℕ) (rest : List ℕ) → count_of number ≡ Some count → 65 ≤ b → b ≤ 88 → higher + (b - 64) ≡ state → state ≤ 255
    → pieces_from line number higher (b ∷ rest) ≡ Ok (record { line = line; count = count; mark = Alive state }) ∷ pieces_from line None 0 rest
letter_read number count higher b state line rest counted low high same few =
    rw (no_digit higher b low, counted, not_between higher b low, no_small b high, and_false higher, capital b low high, no_line b low, same, known state few) refl

-- the letter before it
prefix_read : (number : Option ℕ) (count b line : ℕ) (rest : List ℕ) → count_of number ≡ Some count → 112 ≤ b → b ≤ 121
    → pieces_from line number 0 (b ∷ rest) ≡ pieces_from line number (24 * (b - 111)) rest
prefix_read number count b line rest counted low high =
    rw (no_digit 0 b (omega (arith, low)), counted, not_between 0 b (omega (arith, low)), small b low high) refl

tag_read : (number : Option ℕ) (count state line : ℕ) (rest : List ℕ) → count_of number ≡ Some count → 1 ≤ state → state ≤ 255
    → pieces_from line number 0 (state_tag state ++ rest) ≡ Ok (record { line = line; count = count; mark = Alive state }) ∷ pieces_from line None 0 rest
tag_read number count state line rest counted some few =
    elim (cases_Bool (nat_le state 24)) [
      | inl short ↦
          (let low : state ≤ 24 = grind (arith, nat_tests) in
          rw short (letter_read number count 0 (64 + state) state line rest counted (omega arith) (omega arith) (omega arith) few))
      | inr long ↦
          (let more : 24 < state = grind (arith, nat_tests) in
          let high = (state - 1) / 24 in
          let low = (state - 1) % 24 in
          let e : state - 1 ≡ 24 * high + low = omega arith in
          let few_high : high ≤ 10 = omega arith in
          let some_high : 1 ≤ high = omega arith in
          let few_low : low < 24 = omega arith in
          rw long
          (prefix_read number count (111 + high) line ((65 + low) ∷ rest) counted (omega arith) (omega arith)
          ∙ letter_read number count (24 * (111 + high - 111)) (65 + low) state line rest counted (omega arith) (omega arith) (omega arith) few))
    ]

counted : (n : ℕ) → 0 < n → n ≤ 999999999 → count_of (Some n) ≡ Some n
counted n some few = rw (is_count n some few) refl

pub state_tag_read : (state : ℕ) → 1 ≤ state → state ≤ 255 → IsTag (state_tag state) (Alive state)
state_tag_read state some few = record {
  counted = λ line n rest any most. tag_read (Some n) n state line rest (counted n any most) some few;
  single = λ line rest. tag_read None 1 state line rest refl some few;
}

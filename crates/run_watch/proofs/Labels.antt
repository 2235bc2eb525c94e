-- Labels in quotes, which JSON spells without LF.
use Rattle.std.proofs.Common.{◌≡◌, ◌≢◌, ◌∙◌, ◌+◌, ◌/◌, ◌%◌, ◌==◌, ◌||◌, ℕ, zero, suc, List, [], ◌∷◌, ◌++◌, Bool, true, false, cond, All, append-nil, arith, nat_lt, refl, subst, sym}
use Rattle.std.proofs.lemmas.List.Elements.{All-append}
use Rattle.std.specs.Char.{digit_char}
use Rattle.json.specs.Print.{escape, escape_byte, escape_letter, print_from, quoted}
use Rattle.run_watch.specs.Objects.{JsonLabelsAreTexts}

all_more : (x : ℕ) (xs : List ℕ) → x ≢ 10 → All (λ b. b ≢ 10) xs → All (λ b. b ≢ 10) (x ∷ xs)
all_more x xs first rest zero d inside = first
all_more x xs first rest (suc k) d inside = rest k d (omega (arith, inside))

none_left : All (λ (b : ℕ). b ≢ 10) []
none_left k d inside = absurd (omega (arith, inside))

letter_by : (quote a b c d e : Bool) (x : ℕ) → (quote ≡ true → x ≢ 10) → cond quote x (cond a 98 (cond b 102 (cond c 110 (cond d 114 (cond e 116 0))))) ≢ 10
letter_by true a b c d e x other = other refl
letter_by false true b c d e x other = omega arith
letter_by false false true c d e x other = omega arith
letter_by false false false true d e x other = omega arith
letter_by false false false false true e x other = omega arith
letter_by false false false false false true x other = omega arith
letter_by false false false false false false x other = omega arith

letter_other : (x : ℕ) → escape_letter x ≢ 10
letter_other x =
    letter_by ((x == 34) || (x == 92)) (x == 8) (x == 12) (x == 10) (x == 13) (x == 9) x
    (λ quote same. absurd (let e : false ≡ true = subst (λ (y : ℕ). ((y == 34) || (y == 92)) ≡ true) same quote in cc))

digit_by : (b : Bool) (d : ℕ) → cond b (48 + d) (87 + d) ≢ 10
digit_by true d = omega arith
digit_by false d = omega arith

digit_other : (d : ℕ) → digit_char d ≢ 10
digit_other d = digit_by (nat_lt d 10) d

spelled_by : (short low : Bool) (letter first second x : ℕ) → letter ≢ 10 → first ≢ 10 → second ≢ 10 → (low ≡ false → x ≢ 10)
    → All (λ b. b ≢ 10) (cond short (92 ∷ letter ∷ []) (cond low (92 ∷ 117 ∷ 48 ∷ 48 ∷ first ∷ second ∷ []) (x ∷ [])))
spelled_by true low letter first second x letter_is first_is second_is high = all_more 92 (letter ∷ []) (omega arith) (all_more letter [] letter_is none_left)
spelled_by false true letter first second x letter_is first_is second_is high =
    all_more 92 (117 ∷ 48 ∷ 48 ∷ first ∷ second ∷ []) (omega arith)
    (all_more 117 (48 ∷ 48 ∷ first ∷ second ∷ []) (omega arith)
    (all_more 48 (48 ∷ first ∷ second ∷ []) (omega arith)
    (all_more 48 (first ∷ second ∷ []) (omega arith) (all_more first (second ∷ []) first_is (all_more second [] second_is none_left)))))
spelled_by false false letter first second x letter_is first_is second_is high = all_more x [] (high refl) none_left

byte_no_end : (x : ℕ) → All (λ b. b ≢ 10) (escape_byte x)
unfolding escape_byte
byte_no_end x =
    spelled_by (nat_lt 0 (escape_letter x)) (nat_lt x 32) (escape_letter x) (digit_char (x / 16)) (digit_char (x % 16)) x (letter_other x) (digit_other (x / 16)) (digit_other (x % 16))
    (λ high same. absurd (let e : true ≡ false = subst (λ (y : ℕ). nat_lt y 32 ≡ false) same high in cc))

escape_no_end : (text : List ℕ) → All (λ b. b ≢ 10) (escape text)
escape_no_end [] = none_left
escape_no_end (x ∷ xs) = All-append (λ b. b ≢ 10) (escape_byte x) (escape xs) (byte_no_end x) (escape_no_end xs)

quoted_no_end : (text : List ℕ) → All (λ b. b ≢ 10) (quoted text)
quoted_no_end text =
    all_more 34 (escape text ++ 34 ∷ []) (omega arith) (All-append (λ b. b ≢ 10) (escape text) (34 ∷ []) (escape_no_end text) (all_more 34 [] (omega arith) none_left))

pub json_labels_are_texts : JsonLabelsAreTexts
unfolding print_from
json_labels_are_texts show u name shown words spelled = record {
  json = shown;
  words = words;
  text = spelled ∙ sym (append-nil (quoted name));
  numbers = tt;
  flat = refl;
  one = subst (λ (text : List ℕ). All (λ b. b ≢ 10) text) (sym spelled) (quoted_no_end name);
}

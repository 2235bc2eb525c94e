-- The names of fields have no LF in them: they are words.
use Rattle.std.proofs.Common.{◌≡◌, ◌≢◌, ◌<◌, ◌+◌, ◌++◌, ◌∙◌, ℕ, true, List, [], ◌∷◌, All, subst, ap, sym, map, take, set, length, get_or, add-one}
use Rattle.std.proofs.lemmas.List.{map-append, take_more_set}
use Rattle.std.proofs.Math.Seq.{take-suc}
use Rattle.std.specs.Char.{is_ascii_alphabetic}
use Rattle.std.specs.List.{AllByRecursion}
use Rattle.rule_lang.specs.Tokens.{IsWord, is_word_byte}
use Rattle.rule_check.specs.WellFormed.{IsFieldName}
use Rattle.report_text.proofs.Lines.{IsInLine}

letter_in_line : (b : ℕ) → is_ascii_alphabetic b ≡ true → b ≢ 10
letter_in_line b h e = let bad : is_ascii_alphabetic 10 ≡ true = subst (λ c. is_ascii_alphabetic c ≡ true) e h in cc

byte_in_line : (b : ℕ) → is_word_byte b ≡ true → b ≢ 10
byte_in_line b h e = let bad : is_word_byte 10 ≡ true = subst (λ c. is_word_byte c ≡ true) e h in cc

bytes_in_line : (bytes : List ℕ) → AllByRecursion (λ c. is_word_byte c ≡ true) bytes → IsInLine bytes
bytes_in_line [] h = tt
bytes_in_line (b ∷ bytes) h = (byte_in_line b h.0, bytes_in_line bytes h.1)

word_in_line : (word : List ℕ) → IsWord word → IsInLine word
word_in_line [] h = tt
word_in_line (b ∷ bytes) h = (letter_in_line b h.0, bytes_in_line bytes h.1)

pub names_in_line : (names : List (List ℕ)) → All IsFieldName names → All IsInLine names
names_in_line names each k d inside = word_in_line _ (each k d inside).0

-- the names so far, with one more
pub names_more : {A : Type 0} (view : A → List ℕ) (xs : List A) (names : List (List ℕ)) (p : ℕ) (x : A) → p < length xs → p < length names → view x ≡ get_or names p [] → map view (take p xs) ≡ take p names → map view (take (p + 1) (set xs p x)) ≡ take (p + 1) names
names_more view xs names p x inside more is so_far =
    ap (map view) (take_more_set xs p x inside) ∙ map-append view (take p xs) (x ∷ [])
    ∙ ap (λ ns. ns ++ view x ∷ []) so_far ∙ ap (λ n. take p names ++ n ∷ []) is
    ∙ sym (ap (λ k. take k names) (add-one p) ∙ take-suc names p [] more)

-- One field more that was read.
use Rattle.std.proofs.Common.{◌≡◌, ℕ, zero, suc, ◌+◌, ◌<◌, ◌^◌, List, [], ◌∷◌, ◌++◌, length, get_or, set, map, refl, take, drop, sym, ap, ◌∙◌, arith, append_assoc, add-one}
use Rattle.std.proofs.lemmas.List.{append-nil}
use Rattle.report_text.specs.Front.{Ends}
use Rattle.report_text.specs.Report.{field_text, fields_text}
use Rattle.report_text.proofs.Texts.{fields_more}
use Rattle.report_text.proofs.Once.{field_once, ends_fields}

fields_set : (names : List (List ℕ)) (words : List ℕ) (p v : ℕ) → p < length names → p < length words → fields_text (take (suc p) names) (set words p v) ≡ fields_text (take p names) words ++ field_text (get_or names p []) v
fields_set [] words p v inside long = absurd (omega arith)
fields_set (name ∷ names) [] p v inside long = absurd (omega arith)
fields_set (name ∷ names) (w ∷ words) zero v inside long = append-nil (field_text name v)
fields_set (name ∷ names) (w ∷ words) (suc p) v inside long =
    ap (λ t. field_text name w ++ t) (fields_set names words p v (omega arith) (omega arith)) ∙ sym (append_assoc (field_text name w) (fields_text (take p names) words) (field_text (get_or names p []) v))

-- the text so far, with one field more
pub done_more : (names : List (List ℕ)) (words bytes rest more : List ℕ) (p v : ℕ) → p < length names → p < length words → bytes ≡ fields_text (take p names) words ++ rest → rest ≡ field_text (get_or names p []) v ++ more → bytes ≡ fields_text (take (p + 1) names) (set words p v) ++ more
done_more names words bytes rest more p v inside long done read =
    let so_far = fields_text (take p names) words in
    done ∙ ap (λ r. so_far ++ r) read ∙ sym (append_assoc so_far (field_text (get_or names p []) v) more)
    ∙ ap (λ t. t ++ more) (sym (fields_set names words p v inside long)) ∙ ap (λ k. fields_text (take k names) (set words p v) ++ more) (sym (add-one p))

-- what is left begins with the field's text
pub left_apart : (names : List (List ℕ)) (words rest behind : List ℕ) (p : ℕ) → p < length names → p < length words → rest ≡ fields_text (drop p names) (drop p words) ++ behind → rest ≡ field_text (get_or names p []) (get_or words p 0) ++ (fields_text (drop (p + 1) names) (drop (p + 1) words) ++ behind)
left_apart names words rest behind p inside long left =
    left ∙ ap (λ t. t ++ behind) (fields_more names words p inside long) ∙ append_assoc (field_text (get_or names p []) (get_or words p 0)) (fields_text (drop (p + 1) names) (drop (p + 1) words)) behind

-- and after the field stands what is left then
pub left_more : (names : List (List ℕ)) (words rest more behind : List ℕ) (p v : ℕ) → p < length names → p < length words → v < 2 ^ 32 → get_or words p 0 < 2 ^ 32 → Ends more → Ends behind → rest ≡ field_text (get_or names p []) v ++ more → rest ≡ fields_text (drop p names) (drop p words) ++ behind → more ≡ fields_text (drop (p + 1) names) (drop (p + 1) words) ++ behind
left_more names words rest more behind p v inside long small tiny ends stops read left =
    (field_once (get_or names p []) v (get_or words p 0) more (fields_text (drop (p + 1) names) (drop (p + 1) words) ++ behind) small tiny ends
    (ends_fields (drop (p + 1) names) (drop (p + 1) words) behind stops)
    (sym read ∙ left_apart names words rest behind p inside long left)).1

abbrev pub Small : ℕ → Type 0
Small n = n < 2 ^ 32

-- what stands at a place of the views
pub at_place : {A : Type 0} (f : A → List ℕ) (xs : List A) (p : ℕ) (d : A) → p < length xs → f (get_or xs p d) ≡ get_or (map f xs) p []
at_place f [] p d inside = absurd (omega arith)
at_place f (x ∷ xs) zero d inside = refl
at_place f (x ∷ xs) (suc p) d inside = at_place f xs p d (omega arith)

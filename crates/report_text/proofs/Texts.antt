-- One part more of a report.
use Rattle.std.proofs.Common.{◌≡◌, ℕ, ◌+◌, ◌<◌, List, [], ◌∷◌, ◌++◌, length, drop, get_or, ap, ◌∙◌}
use Rattle.std.proofs.lemmas.List.{drop_more}
use Rattle.report_text.specs.Report.{field_text, fields_text}

pub fields_more : (names : List (List ℕ)) (words : List ℕ) (i : ℕ) → i < length names → i < length words → fields_text (drop i names) (drop i words) ≡ field_text (get_or names i []) (get_or words i 0) ++ fields_text (drop (i + 1) names) (drop (i + 1) words)
fields_more names words i inside long =
    ap (λ ns. fields_text ns (drop i words)) (drop_more names i [] inside) ∙ ap (fields_text (get_or names i [] ∷ drop (i + 1) names)) (drop_more words i 0 long)

use Rattle.std.proofs.Common.{◌≡◌, ◌∙◌, ◌∷◌, [], refl, sym, ap, false, true, eqb}
use lib.Pointwise.{pointwise}
use Rattle.report_text.proofs.Digits.{number_once}
use Rattle.report_files.proofs.npy.shape.count_in.Goals as goal

pub returns-else-eq : goal.returns-else-eq
returns-else-eq c = λ n small is.
    let once = number_once c.in_ok-count.count n c.in_ok-count.rest.now (44 ∷ []) c.in_ok-count.ensures.1 small c.in_ok-count.ensures.2 refl (sym c.in_ok-count.ensures.0 ∙ is) in
    let rest = c.in_ok-count.rest.now in
    let word = c.as_slice.result.now in
    let alike : pointwise eqb rest word ≡ true = ap (λ xs. pointwise eqb xs word) once.1 ∙ ap (λ xs. pointwise eqb (44 ∷ []) xs) c.as_slice.ensures in
    let no : false ≡ true = sym c.if-eq.false ∙ (c.eq.ensures ∙ alike) in
    cc

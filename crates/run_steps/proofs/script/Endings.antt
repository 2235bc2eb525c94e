-- Beginnings that are ended.
use Rattle.std.proofs.Common.{◌≡◌, ℕ, replicate, zero, suc, [], ◌∷◌, ◌++◌, sym, ap, ◌∙◌, append_assoc, append-nil, arith}
use Rattle.run_steps.specs.declared.script.line.Line.TheVariants.{Repeat, End}
use Rattle.run_steps.specs.script.Texts.{Parts, none, again, lines_of}
use Rattle.run_steps.specs.script.Refusals.{Beginning, whole, inside, begun_lines, open_in}
use Rattle.run_steps.proofs.script.Following.{grown, lines-grown, open-grown}

-- the last open repeat is ended first
pub ending : (n : ℕ) (b : Beginning) → open_in b ≡ n → (parts : Parts) × (lines_of parts ≡ begun_lines b ++ replicate n End)
ending zero (whole ps) is = (ps, sym (append-nil (lines_of ps)))
ending zero (inside outer k ps) is = absurd (omega arith)
ending (suc n) (whole ps) is = absurd (omega arith)
ending (suc n) (inside outer k ps) is =
    let more = again k ps none in
    let less : open_in outer ≡ n = omega arith in
    let x = ending n (grown outer more) (open-grown outer more ∙ less) in
    let front = begun_lines outer in
    let inner = Repeat k ∷ lines_of ps in
    let rest = replicate n End in
    let lines : begun_lines (grown outer more) ≡ (front ++ inner) ++ (End ∷ []) = lines-grown outer more ∙ sym (append_assoc front inner (End ∷ [])) in
    (x.0, x.1 ∙ ap (λ ls. ls ++ rest) lines ∙ append_assoc (front ++ inner) (End ∷ []) rest)

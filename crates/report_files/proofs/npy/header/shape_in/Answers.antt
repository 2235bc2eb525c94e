use Rattle.std.proofs.Common.{◌++◌, ◌∷◌, [], ◌∙◌, sym, false, true, ◌≡◌}
use Rattle.std.proofs.lemmas.List.{append_cancel_left}
use Rattle.report_files.proofs.npy.Headers.{closes, behind_shape}
use Rattle.report_files.proofs.npy.header.shape_in.Goals as goal

pub returns-in_err-blanks : goal.returns-in_err-blanks
returns-in_err-blanks c =
    rw c.from_residual.ensures (λ s back. c.in_err-blanks.ensures (back.blanks ++ 10 ∷ [])
    (behind_shape c.args.rest.now c.split_before.result.0.now c.split_before.result.1.now s c.split_before.ensures back).1)

pub returns-else-are_blanks : goal.returns-else-are_blanks
returns-else-are_blanks c = λ s back.
    let behind = (behind_shape c.args.rest.now c.split_before.result.0.now c.split_before.result.1.now s c.split_before.ensures back).1 in
    let is = append_cancel_left closes c.in_ok-blanks.blanks.now (back.blanks ++ 10 ∷ []) (sym c.in_ok-blanks.ensures ∙ behind) in
    let yes : c.are_blanks.result ≡ true = c.are_blanks.ensures.1 (back.blanks, back.blank, is) in
    let no : c.are_blanks.result ≡ false = c.if-are_blanks.false in
    cc

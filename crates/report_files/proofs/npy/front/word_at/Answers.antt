use Rattle.std.proofs.Common.{◌≡◌, ◌∙◌, ◌++◌, ◌<◌, length, get_or, take, ap, sym, subst, arith}
use Rattle.std.proofs.lemmas.List.{take-append-drop, length-take}
use Rattle.std.proofs.lemmas.Nat.{le_bytes_4}
use Rattle.report_files.proofs.npy.Fronts.{small_front}
use Rattle.report_files.proofs.npy.front.word_at.Goals as goal

pub returns : goal.returns
returns c =
    let bytes = c.args.bytes.now in
    let rest = c.in_ok-number.rest.now in
    let long : length c.in_ok-number.number.now ≡ 4 = ap length c.in_ok-number.ensures.cases.0 ∙ omega (arith, length-take 4 bytes, c.in_ok-number.ensures.cases.2) in
    let spelled = le_bytes_4 c.in_ok-number.number.now c.from_le_bytes.result long (λ i. subst (λ xs. get_or xs i 0 < 256) (sym c.in_ok-number.ensures.cases.0) (small_front 4 bytes (λ k. omega (arith, c.type_inv.bytes k)) i)) c.from_le_bytes.ensures in
    (sym (ap (λ t. t ++ rest) (spelled ∙ c.in_ok-number.ensures.cases.0) ∙ ap (λ t. take 4 bytes ++ t) c.in_ok-number.ensures.cases.1 ∙ take-append-drop 4 bytes), omega arith, tt)

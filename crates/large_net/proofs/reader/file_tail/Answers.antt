use Rattle.std.proofs.Common.{◌≡◌, ◌∙◌, ◌≤◌, ◌-◌, Bool, true, false, not, refl, ap, sym, length, Ok, Some, None, drop, take, if◌then◌else◌, arith}
use Rattle.std.proofs.Math.Seq.{take-length}
use Rattle.std.proofs.lemmas.List.{length-drop}
use Rattle.large_net.specs.File.{asked_length, tail_in, with_header}
use Rattle.large_net.proofs.reader.file_tail.Goals as goal

is_true : (b : Bool) → not b ≡ false → b ≡ true
is_true true h = refl
is_true false h = grind (arith, h)

pub returns-clause-tail : goal.returns-clause-tail
returns-clause-tail c =
    let bytes = c.args.bytes.now in
    let header = c.in_ok-header.header in
    let place = c.file_length-asked.result in
    let whole : asked_length header ≤ length bytes = c.in_ok-header.ensures.whole in
    let asked : asked_length header ≡ place = omega (arith, whole, c.file_length-asked.ensures) in
    let tailed : header.tailed ≡ true = is_true header.tailed c.if-not-header.false in
    let rest : drop place bytes ≡ take (length bytes - place) (drop place bytes) = sym (ap (λ n. take n (drop place bytes)) (sym (length-drop place bytes)) ∙ take-length (drop place bytes)) in
    ap (λ r. with_header r (λ h. tail_in h bytes)) (sym c.read_header.ensures.exact ∙ c.in_ok-header.was)
    ∙ ap (λ b. Ok (if b then Some (drop (asked_length header) bytes) else None)) tailed
    ∙ ap (λ t. Ok (Some t)) (ap (λ k. drop k bytes) asked ∙ rest)

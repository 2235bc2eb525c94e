use Rattle.std.proofs.Common.{ap, ◌∙◌, take, drop, ◌+◌}
use Rattle.import_lines.proofs.Numerals.{number_plain, number_marked}
use Rattle.import_lines.proofs.number.is_number.Goals as goal

pub returns-then-place-bytes : goal.returns-then-place-bytes
returns-then-place-bytes c =
    let at = c.mark_place-place.ensures in
    number_plain c.args.bytes.now c.cut_at.result.0.now c.mark_place-place.result c.is_mantissa.result at (c.cut_at.ensures.front ∙ ap (λ k. take k c.args.bytes.now) at) c.is_mantissa.ensures c.if-is_mantissa.true c.if-place-bytes.true

pub returns-else-place-bytes : goal.returns-else-place-bytes
returns-else-place-bytes c =
    let at = c.mark_place-place.ensures in
    number_marked c.args.bytes.now c.cut_at.result.0.now c.mark_place-place.result c.is_mantissa.result at (c.cut_at.ensures.front ∙ ap (λ k. take k c.args.bytes.now) at) c.is_mantissa.ensures c.if-is_mantissa.true
    c.cut_at.result.1.now c.is_exponent.result c.if-place-bytes.false (c.cut_at.ensures.back ∙ ap (λ k. drop (k + 1) c.args.bytes.now) at) c.is_exponent.ensures

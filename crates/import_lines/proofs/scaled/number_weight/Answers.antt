use Rattle.import_lines.proofs.Scaling.{exponent_digits, front_digits, back_digits, scaled_some}
use Rattle.import_lines.proofs.scaled.number_weight.Goals as goal

pub digits_together-requires-clause-front : goal.digits_together-requires-clause-front
digits_together-requires-clause-front c =
    front_digits c.args.number.now c.cut_at.result.0.now c.cut_at.result.1.now c.mark_place.result c.mark_place.ensures c.cut_at.ensures.front c.cut_at.ensures.back
    c.cut_at-2.result.0.now c.cut_at-2.result.1.now c.point_place.result c.point_place.ensures c.cut_at-2.ensures.front c.cut_at-2.ensures.back c.requires

pub digits_together-requires-clause-back : goal.digits_together-requires-clause-back
digits_together-requires-clause-back c =
    back_digits c.args.number.now c.cut_at.result.0.now c.cut_at.result.1.now c.mark_place.result c.mark_place.ensures c.cut_at.ensures.front c.cut_at.ensures.back
    c.cut_at-2.result.0.now c.cut_at-2.result.1.now c.point_place.result c.point_place.ensures c.cut_at-2.ensures.front c.cut_at-2.ensures.back c.requires

pub with_exponent-requires-clause-digits : goal.with_exponent-requires-clause-digits
with_exponent-requires-clause-digits c =
    exponent_digits c.args.number.now c.cut_at.result.0.now c.cut_at.result.1.now c.mark_place.result c.mark_place.ensures c.cut_at.ensures.front c.cut_at.ensures.back c.requires

pub returns-in-Some : goal.returns-in-Some
returns-in-Some c =
    scaled_some c.args.number.now c.cut_at.result.0.now c.cut_at.result.1.now c.mark_place.result c.mark_place.ensures c.cut_at.ensures.front c.cut_at.ensures.back
    c.cut_at-2.result.0.now c.cut_at-2.result.1.now c.point_place.result c.point_place.ensures c.cut_at-2.ensures.front c.cut_at-2.ensures.back
    c.in-Some.digits c.args.factor c.with_exponent.result c.in-Some.ensures.0 c.in-Some.ensures.1 c.with_exponent.ensures

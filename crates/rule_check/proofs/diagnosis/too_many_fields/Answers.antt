use Rattle.std.proofs.Common.{◌≡◌, ◌+◌, ◌∙◌, sym, ap, drop}
use Rattle.rule_check.proofs.Counts.{field_count, ninth}
use Rattle.rule_check.proofs.diagnosis.too_many_fields.Goals as goal

pub returns-then-count-eq8-clause-named : goal.returns-then-count-eq8-clause-named
returns-then-count-eq8-clause-named c =
    let items = c.args.items.now in
    let k = c.loop-k.k in
    let rest : 8 + field_count (drop k items) ≡ field_count items = ap (λ n. n + field_count (drop k items)) (sym c.if-count-eq8.true) ∙ c.loop-k.invariant.rest in
    let h = ninth items k c.index-items-k.result c.in-Field.name c.in-Field.value c.loop-k-test.true (sym c.index-items-k.is ∙ c.in-Field.is) rest in
    (h.before, h.with)

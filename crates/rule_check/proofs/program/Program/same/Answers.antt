use Rattle.std.proofs.Common.{ap, sym, ◌∙◌, map, ◌≡◌}
use Rattle.rule_check.specs.Shapes.{rule_shape, part_shape}
use Rattle.rule_check.proofs.Equal.{equal_from_code, rules_from_equal}
use Rattle.rule_check.proofs.program.Program.same.Goals as goal
use Rattle.rule_check.proofs.program.Program.same.Goals.{then-same_fields, else-same_fields}

pub returns-then-same_parts : goal.returns-then-same_parts
returns-then-same_parts c =
    let p = c.self.inside in
    let q = c.other.inside in
    elim c.if-same_fields.branch [
      | then-same_fields w ↦
          let fields_same : c.deref.result.now ≡ c.deref-2.result.now = c.same_fields.ensures.exact.0 w.if-same_fields.true in
          let parts_same : map part_shape w.deref-then-same_fields.result.now ≡ map part_shape w.deref-then-same_fields-2.result.now = w.same_parts.ensures.exact.0 (sym w.value-is ∙ c.if-same_parts.true) in
          let fields : p.fields.items ≡ q.fields.items = sym c.deref.ensures.value ∙ fields_same ∙ c.deref-2.ensures.value in
          let parts : map part_shape p.gatherers.items ≡ map part_shape q.gatherers.items =
          ap (map part_shape) (sym w.deref-then-same_fields.ensures.value) ∙ parts_same ∙ ap (map part_shape) w.deref-then-same_fields-2.ensures.value in
          record {
            exact = (
              (λ r. sym c.self.view_is ∙ equal_from_code p q fields parts (ap (map rule_shape) (sym c.deref-then-same_parts.ensures.value) ∙ c.same_rules.ensures.exact.0 r ∙ ap (map rule_shape) c.deref-then-same_parts-2.ensures.value) ∙ c.other.view_is),
              (λ e. c.same_rules.ensures.exact.1 (ap (map rule_shape) c.deref-then-same_parts.ensures.value ∙ rules_from_equal p q c.self.invariant c.other.invariant (c.self.view_is ∙ e ∙ sym c.other.view_is) ∙ ap (map rule_shape) (sym c.deref-then-same_parts-2.ensures.value))),
            );
          }
      | else-same_fields w ↦ cc
    ]

use Rattle.std.proofs.Common.{ap, sym, ◌∙◌, map, ◌≡◌}
use Rattle.std.specs.Prelude.{true, false, ◌||◌}
use Rattle.std.specs.List.{list_any}
use Rattle.rule_check.specs.Shapes.{rule_shape, part_shape}
use Rattle.rule_check.specs.Rounds.{reads_round}
use Rattle.rule_check.proofs.RoundCode.{shape_reads, reads_by_code}
use Rattle.rule_check.proofs.program.Program.uses_round.Goals as goal

pub returns-then-rules_read_round : goal.returns-then-rules_read_round
returns-then-rules_read_round c =
    let p = c.self.inside in
    let by_rules : true ≡ list_any shape_reads (map rule_shape p.rules.items) =
    sym c.if-rules_read_round.true ∙ c.rules_read_round.ensures.exact ∙ ap (λ rs. list_any shape_reads (map rule_shape rs)) c.deref.ensures.value in
    record {
      exact =
          c.if-rules_read_round.true
          ∙ ap (λ r. r || list_any shape_reads (map part_shape p.gatherers.items)) by_rules
          ∙ reads_by_code p c.self.invariant
          ∙ ap reads_round c.self.view_is;
    }

pub returns-else-rules_read_round : goal.returns-else-rules_read_round
returns-else-rules_read_round c =
    let p = c.self.inside in
    let by_rules : false ≡ list_any shape_reads (map rule_shape p.rules.items) =
    sym c.if-rules_read_round.false ∙ c.rules_read_round.ensures.exact ∙ ap (λ rs. list_any shape_reads (map rule_shape rs)) c.deref.ensures.value in
    record {
      exact =
          c.parts_read_round.ensures.exact
          ∙ ap (λ gs. list_any shape_reads (map part_shape gs)) c.deref-else-rules_read_round.ensures.value
          ∙ ap (λ r. r || list_any shape_reads (map part_shape p.gatherers.items)) by_rules
          ∙ reads_by_code p c.self.invariant
          ∙ ap reads_round c.self.view_is;
    }

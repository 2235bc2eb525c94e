use Rattle.std.proofs.Common.{sym, ◌∙◌, arith}
use Rattle.net_patterns.proofs.LineSteps.{told_said, told_passed, rest_shorter}
use Rattle.net_patterns.proofs.lines.first_told.Goals as goal

pub returns-then-not-says_nothing-clause-told : goal.returns-then-not-says_nothing-clause-told
returns-then-not-says_nothing-clause-told c =
    sym c.loop-text.invariant.told
    ∙ told_said c.loop-text.line c.loop-text.text.now c.split_line.result.0.now c.split_line.result.1.now c.says_nothing.result c.split_line.ensures.line c.split_line.ensures.rest c.says_nothing.ensures c.if-not-says_nothing.true

pub loop-text-preserved : goal.loop-text-preserved
loop-text-preserved c =
    let less = rest_shorter c.loop-text.text.now c.split_line.result.1.now c.split_line.ensures.rest c.loop-text-test.ensures in
    let room = c.loop-text.invariant.room in
    record {
      room = omega (arith, less, room);
      told = told_passed c.loop-text.line c.loop-text.text.now c.split_line.result.0.now c.split_line.result.1.now c.says_nothing.result c.split_line.ensures.line c.split_line.ensures.rest c.says_nothing.ensures c.if-not-says_nothing.false
          ∙ c.loop-text.invariant.told;
    }

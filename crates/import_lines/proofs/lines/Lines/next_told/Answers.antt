use Rattle.std.proofs.Common.{◌+◌, sym, ◌∙◌, arith}
use Rattle.import_lines.proofs.LinesCut.{told_said, told_passed, rest_shorter}
use Rattle.import_lines.proofs.lines.Lines.next_told.Goals as goal

pub returns-then-not-says_nothing-clause-told : goal.returns-then-not-says_nothing-clause-told
returns-then-not-says_nothing-clause-told c =
    sym c.loop-line.invariant.told
    ∙ told_said (c.loop-line.self.passed + 1) c.loop-line.self.bytes.now c.split_line.result.0.now c.split_line.result.1.now c.says_nothing.result c.split_line.ensures.line c.split_line.ensures.rest c.says_nothing.ensures c.if-not-says_nothing.true

pub loop-line-preserved : goal.loop-line-preserved
loop-line-preserved c =
    let less = rest_shorter c.loop-line.self.bytes.now c.split_line.result.1.now c.split_line.ensures.rest c.loop-line-test.ensures in
    let room = c.loop-line.invariant.room in
    record {
      room = omega (arith, less, room);
      told = told_passed (c.loop-line.self.passed + 1) c.loop-line.self.bytes.now c.split_line.result.0.now c.split_line.result.1.now c.says_nothing.result c.split_line.ensures.line c.split_line.ensures.rest c.says_nothing.ensures c.if-not-says_nothing.false
          ∙ c.loop-line.invariant.told;
    }

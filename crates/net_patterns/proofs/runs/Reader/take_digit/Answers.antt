use Rattle.std.proofs.Common.{arith}
use Rattle.net_patterns.proofs.LongNumbers.{digit_too_great}
use Rattle.net_patterns.proofs.runs.Reader.take_digit.Goals as goal

pub returns-then-number-gt-MOST_COUNT-clause-reads :
    goal.returns-then-number-gt-MOST_COUNT-clause-reads
returns-then-number-gt-MOST_COUNT-clause-reads c =
    λ bs. digit_too_great c.args.self.now.line c.args.self.now.number c.args.digit bs c.requires.digit (omega arith)

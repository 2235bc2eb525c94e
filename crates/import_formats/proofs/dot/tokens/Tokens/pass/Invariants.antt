use Rattle.std.proofs.Common.{◌≡◌, ◌+◌, ◌-◌, ◌<◌, ◌^◌, length}
use Rattle.import_formats.specs.dot.Tokens.{tokens_at}
use Rattle.import_formats.proofs.dot.tokens.Tokens.pass.Given as goal

abbrev pub invariant-loop-passed : goal.invariant-loop-passed
invariant-loop-passed l = record {
  room : l.self.line + length l.self.bytes.now < 2 ^ 64;
  ended : l.self.ended ≡ l.fn.self.ended;
  length : length l.self.bytes.now + l.passed ≡ length l.fn.self.bytes.now;
  tokens : tokens_at (l.size - l.passed) l.self.fresh l.self.line l.self.bytes.now ≡ tokens_at l.size l.fn.self.fresh l.fn.self.line l.fn.self.bytes.now;
}

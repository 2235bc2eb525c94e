use Rattle.std.proofs.Common.{◌≡◌, ◌+◌, ◌<◌, ◌^◌, length}
use Rattle.import_formats.specs.dot.View.{tokens_left}
use Rattle.import_formats.proofs.dot.tokens.Tokens.next_token.Given as goal

abbrev pub invariant-loop-self : goal.invariant-loop-self
invariant-loop-self l = record {
  room : l.self.line + length l.self.bytes.now < 2 ^ 64;
  tokens : tokens_left l.self ≡ tokens_left l.fn.self;
}

abbrev pub decreases-loop-self : goal.decreases-loop-self
decreases-loop-self l = length l.self.bytes.now

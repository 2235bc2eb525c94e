use Rattle.std.proofs.Common.{◌≡◌, not, drop}
use Rattle.std.specs.List.{list_any}
use Rattle.net_patterns.specs.Rle.{is_blank}
use Rattle.net_patterns.proofs.lines.has_sign.Given as goal

abbrev pub invariant-loop-byte : goal.invariant-loop-byte
invariant-loop-byte l = list_any (λ b. not (is_blank b)) (drop l.byte-index l.line) ≡ list_any (λ b. not (is_blank b)) l.line

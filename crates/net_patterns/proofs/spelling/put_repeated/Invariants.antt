use Rattle.std.proofs.Common.{◌≡◌, ◌++◌, ◌-◌, replicate, string_bytes}
use Rattle.net_patterns.proofs.spelling.put_repeated.Given as goal

abbrev pub invariant-loop : goal.invariant-loop
invariant-loop l = string_bytes l.out ++ replicate (l.count - l.counter) l.sign ≡ string_bytes l.fn.out ++ replicate l.count l.sign

use Rattle.std.proofs.Common.{◌≡◌, ◌++◌, ◌-◌, length, take, replicate}
use Rattle.rule_check.proofs.words.clear_words.Given as goal

-- the words from count up to k are 0
abbrev pub invariant-loop-k : goal.invariant-loop-k
invariant-loop-k l = record {
  long : length l.words ≡ 8;
  front : take l.k l.words ≡ take l.count l.fn.words ++ replicate (l.k - l.count) 0;
}

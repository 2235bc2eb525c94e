use Rattle.std.proofs.Common.{◌≡◌, ◌++◌, length, drop, take, map}
use Rattle.rule_check.specs.Value.{updated}
use Rattle.rule_check.specs.Loops.{with_none}
use Rattle.rule_check.specs.Shapes.{part_shape}
use Rattle.rule_check.proofs.words.start_words.Given as goal

-- the words up to k are done, and the others are as they were
abbrev pub invariant-loop-k : goal.invariant-loop-k
invariant-loop-k l = record {
  long : length l.words ≡ 16;
  rest : take l.k l.words ++ updated with_none (map part_shape (drop l.k l.gatherers)) (drop l.k l.words) ≡ updated with_none (map part_shape l.gatherers) l.fn.words;
}

use Rattle.std.proofs.Common.{◌≡◌, length, drop, map}
use Rattle.rule_check.specs.Loops.{written}
use Rattle.rule_check.specs.Shapes.{rule_shape}
use Rattle.rule_check.specs.Frames.{seen}
use Rattle.rule_check.proofs.words.finish_words.Given as goal

-- what is left of the rules completes the words
abbrev pub invariant-loop-rule : goal.invariant-loop-rule
invariant-loop-rule l = record {
  long : length l.words ≡ 8;
  rest : written (seen l.frame) (map rule_shape (drop l.rule-index l.rules)) l.words ≡ written (seen l.frame) (map rule_shape l.rules) l.fn.words;
}

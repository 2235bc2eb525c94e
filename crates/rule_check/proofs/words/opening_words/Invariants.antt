use Rattle.std.proofs.Common.{◌≡◌, ◌++◌, length, drop, take, map}
use Rattle.rule_check.specs.Value.{updated}
use Rattle.rule_check.proofs.words.opening_words.Given as goal

abbrev pub invariant-loop-k : goal.invariant-loop-k
invariant-loop-k l = record {
  long : length l.words ≡ 8;
  rest : take l.k l.words ++ updated (λ v w. v) (map (λ f. f.opening) (drop l.k l.fields)) (drop l.k l.words) ≡ updated (λ v w. v) (map (λ f. f.opening) l.fields) l.fn.words;
}

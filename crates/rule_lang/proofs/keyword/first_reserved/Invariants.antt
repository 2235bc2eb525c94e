use Rattle.std.proofs.Common.{◌≡◌, drop, map}
use Rattle.rule_lang.specs.Keywords.{first_reserved}
use Rattle.rule_lang.proofs.keyword.first_reserved.Given as goal

abbrev pub invariant-loop-text : goal.invariant-loop-text
invariant-loop-text l = first_reserved l.word (map (λ k. (k.0.now, k.1)) (drop l.text-index l.words)) ≡ first_reserved l.word (map (λ k. (k.0.now, k.1)) l.words)

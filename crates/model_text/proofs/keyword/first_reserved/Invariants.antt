use Rattle.std.proofs.Common.{◌≡◌, drop, map}
use Rattle.model_text.specs.Keywords.{first_reserved}
use Rattle.model_text.proofs.keyword.first_reserved.Given as goal

abbrev pub invariant-loop-text : goal.invariant-loop-text
invariant-loop-text l = first_reserved l.word (map (λ k. (k.0.now, k.1)) (drop l.text-index l.words)) ≡ first_reserved l.word (map (λ k. (k.0.now, k.1)) l.words)

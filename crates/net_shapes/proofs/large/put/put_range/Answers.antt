use Rattle.std.proofs.Common.{◌≡◌, ◌∙◌, ℕ, ◌+◌, ◌++◌, ◌∷◌, [], suc, append_assoc, ap, arith, refl}
use Rattle.std.specs.List.{range_with_len}
use Rattle.net_shapes.proofs.Ahead.{range_more}
use Rattle.net_shapes.proofs.large.put.put_range.Goals as goal

more : (a k : ℕ) → range_with_len a (k + 1) ≡ range_with_len a k ++ (a + k) ∷ []
more a k = let on : k + 1 ≡ suc k = omega arith in ap (range_with_len a) on ∙ range_more a k

pub loop-step-preserved : goal.loop-step-preserved
loop-step-preserved c = rw (c.in_ok-push.ensures.items, c.loop-step.invariant, more c.args.first c.loop-step.step, append_assoc) refl

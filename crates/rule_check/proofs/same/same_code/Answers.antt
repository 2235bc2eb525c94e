use Rattle.std.proofs.Common.{rules}
use Rattle.std.proofs.lemmas.Slice.Eq.{slice_eq-Decides}
use Rattle.rule_check.proofs.same.same_code.Goals as goal

pub returns : goal.returns
returns c = record { exact = slice_eq-Decides (λ a b. search rules) c.args.xs.now c.args.ys.now c.eq.result c.eq.ensures }

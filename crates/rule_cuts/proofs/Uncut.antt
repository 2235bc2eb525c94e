-- Totals that never pass the greatest value.
use Rattle.std.specs.Prelude.{map}
use Rattle.std.specs.List.{All}
use Rattle.std.proofs.Common.{ℕ, ◌*◌, ◌≤◌, List, length, arith}
use Rattle.std.proofs.lemmas.Nat.{mul-le}
use Rattle.std.proofs.lemmas.List.{length-map}
use Rattle.std.proofs.lemmas.List.Elements.{All-map}
use Rattle.std.proofs.lemmas.List.Sums.{sum_by-le}
use Rattle.rule_lang.specs.Tree.{Tree}
use Rattle.rule_check.specs.Table.{M}
use Rattle.rule_check.specs.Value.{value}
use Rattle.rule_cuts.specs.declared.limits.Limits.{Limits}
use Rattle.rule_ranges.specs.declared.range.Range.{Range}
use Rattle.rule_cuts.specs.Operations.{TotalTree, IsNeverCut, LiesIn}

-- a total over as many neighbours as a node can have, where the greatest value so often is no more than the greatest value there is
pub total_uncut : (limits : Limits) (e : Tree) (range : Range) → range.most * limits.bounds.degree ≤ M → LiesIn limits e range → IsNeverCut limits (TotalTree e)
total_uncut limits e range small lies = λ here near inside beside.
    let values : List ℕ = map (value here e) here.nears in
    let each : All (λ v. v ≤ range.most) values = All-map (λ v. v ≤ range.most) (value here e) here.nears (λ k d within. (lies here _ inside (inside.nears k d within)).to) in
    omega (
      arith,
      length-map here.nears (value here e),
      sum_by-le (λ v. v) range.most values each,
      mul-le (length values) range.most limits.bounds.degree range.most (omega (arith, length-map here.nears (value here e), inside.few)) (omega arith),
      small,
    )

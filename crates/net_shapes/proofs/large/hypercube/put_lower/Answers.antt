use Rattle.std.proofs.Common.{◌≡◌, ◌∙◌, ℕ, ◌+◌, ◌-◌, ◌^◌, ◌<◌, ◌==◌, ◌++◌, List, ap, append_assoc, arith, sym}
use Rattle.link_net.specs.Neighbours.{numbers_below}
use Rattle.net_shapes.specs.Ahead.{when}
use Rattle.net_shapes.specs.Listed.{lowered}
use Rattle.net_shapes.specs.Shapes.{digit}
use Rattle.net_shapes.proofs.CubeRows.{lowered_more}
use Rattle.net_shapes.proofs.large.hypercube.put_lower.Goals as goal

pub loop-place-preserved : goal.loop-place-preserved
loop-place-preserved c =
    let u = c.args.node in
    let l = c.loop-place in
    let d = c.args.dimension in
    let k = d - (l.place + 1) in
    let before = l.neighbours.items in
    let inside : l.place < d = omega (arith, c.loop-place-test.true) in
    let one_more : d - l.place ≡ k + 1 = omega arith in
    let here = when (digit u k == 1) (u - 2 ^ k) in
    let same : d - 1 - l.place ≡ k = omega arith in
    let step : c.power-step.result ≡ 2 ^ k = c.power-step.ensures.value ∙ ap (λ (n : ℕ). 2 ^ n) same in
    let less : c.saturating_sub.result ≡ u - 2 ^ k = omega (arith, step) in
    let put : c.put_if.new.neighbours.items ≡ before ++ here = rw (less, step) at c.in_ok-put_if.ensures in
    ap (λ (xs : List ℕ). xs ++ lowered u (numbers_below k)) put
    ∙ append_assoc before here (lowered u (numbers_below k))
    ∙ ap (λ (xs : List ℕ). before ++ xs) (sym (ap (λ (n : ℕ). lowered u (numbers_below n)) one_more ∙ lowered_more u k))
    ∙ l.invariant

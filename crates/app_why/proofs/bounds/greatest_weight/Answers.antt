use Rattle.std.specs.Prelude.{All}
use Rattle.std.proofs.Common.{ℕ, ◌+◌, ◌<◌, ◌≤◌, ◌≡◌, ◌⊎◌, inl, inr, subst, arith}
use Rattle.std.proofs.lemmas.Bool.{cases_lt}
use Rattle.link_net.specs.Neighbours.{row}
use Rattle.app_why.proofs.Rows.{seconds_at_most}
use Rattle.app_why.proofs.bounds.greatest_weight.Goals as goal

pub loop-node-preserved : goal.loop-node-preserved
loop-node-preserved c = λ u before. at u before (cases_lt u c.loop-node.node) where
  at : (u : ℕ) → u < c.loop-node.node + 1 → (u < c.loop-node.node) ⊎ (c.loop-node.node ≤ u) → All (λ (arc : ℕ × ℕ). arc.1 ≤ c.greatest-found.result) (row c.args.rows.now u)
  at u before (inl earlier) = λ k d inside. omega (arith, c.greatest-found.ensures.first, c.loop-node.invariant u earlier k d inside)
  at u before (inr here) =
      let same : c.loop-node.node ≡ u = omega (arith, before, here) in
      subst (λ v. All (λ (arc : ℕ × ℕ). arc.1 ≤ c.greatest-found.result) (row c.args.rows.now v)) same
      (seconds_at_most c.greatest-found.result (row c.args.rows.now c.loop-node.node)
      (subst (All (λ weight. weight ≤ c.greatest-found.result)) c.weights_of.ensures.exact c.greatest-found.ensures.each))

use Rattle.std.proofs.Common.{◌≡◌, ◌∙◌, ◌+◌, ◌<◌, ◌≤◌, ℕ, inl, inr, ap, arith, drop, length, map, max, sym}
use Rattle.std.proofs.lemmas.List.{length-map}
use Rattle.std.specs.List.{fold}
use Rattle.std.proofs.lemmas.Bool.{cases_lt}
use Rattle.run_naive.specs.declared.node.Node.{Node}
use Rattle.run_naive.specs.Naive.{NaiveNode, node_in, nobody}
use Rattle.run_naive.specs.Keeping.{shown}
use Rattle.run_naive.proofs.Seen.{shown_at}
use Rattle.run_naive.proofs.Counted.{counts_more}
use Rattle.run_naive.proofs.rounds.most_moves.Goals as goal

pub loop-this-preserved : goal.loop-this-preserved
loop-this-preserved c =
    let nodes = c.args.nodes.now in
    let k = c.loop-this.this-index in
    let i = c.loop-this.invariant in
    let n = c.this-item.result in
    let inside : k < length nodes = omega arith in
    let own : (node_in (map shown nodes) k).moves ≡ n.moves = ap (λ (x : NaiveNode). x.moves) (shown_at nodes k n inside) ∙ ap (λ (x : Node). x.moves) (sym c.this-item.is) in
    let ns = map shown nodes in
    let more = counts_more c.loop-this.most ns k nobody (omega (arith, inside, length-map nodes shown)) in
    let counted : c.max-most.result ≡ max c.loop-this.most (node_in ns k).moves = c.max-most.ensures ∙ ap (max c.loop-this.most) (sym own) in
    record {
      exact = ap (λ (m : ℕ). fold max m (map (λ (x : NaiveNode). x.moves) (drop (k + 1) ns))) counted ∙ more ∙ i.exact;
      late = omega (arith, i.late, c.max-most.ensures);
      most = λ u below. elim (cases_lt u k) as (λ _. (node_in (map shown nodes) u).moves ≤ c.max-most.result) [
        | inl before ↦ (let old = i.most u before in omega (arith, old, c.max-most.ensures))
        | inr last ↦
            (let here : u ≡ k = omega (arith, last, below) in
            omega (arith, own, ap (λ v. (node_in (map shown nodes) v).moves) here, c.max-most.ensures))
      ];
      few = λ m late all. (let old = i.few m late all in let here = all k inside in omega (arith, old, here, own, c.max-most.ensures));
    }

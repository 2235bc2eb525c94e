use Rattle.std.proofs.Common.{◌≡◌, ◌∙◌, ◌+◌, ◌<◌, ℕ, Bool, true, false, not, cond, ap, arith, length, map, refl, sym}
use Rattle.std.specs.List.{count_by}
use Rattle.link_net.specs.Neighbours.{numbers_below}
use Rattle.rule_check.specs.declared.state.State.{State}
use Rattle.rounds_plan.specs.Lockstep.{lockstep}
use Rattle.run_naive.specs.Naive.{NaiveNode, node_in}
use Rattle.run_naive.specs.Differences.{differs, is_same}
use Rattle.run_naive.specs.Keeping.{shown}
use Rattle.run_naive.proofs.Lines.{count_more}
use Rattle.run_naive.proofs.Seen.{shown_at}
use Rattle.run_naive.proofs.telling.differing.Goals as goal

flip : (b : Bool) → ◌≡◌ {A = ℕ} (cond b 0 1) (cond (not b) 1 0)
flip true = refl
flip false = refl

pub loop-node-preserved : goal.loop-node-preserved
loop-node-preserved c =
    let p = c.args.plan.now in
    let nodes = c.args.nodes.now in
    let shows = map shown nodes in
    let u = c.loop-node.node in
    let n = c.index-nodes-node.result in
    let twin = c.state_at-twin.result in
    let inside : u < length p.network = omega (arith, c.loop-node-test.true, c.nodes-node-end.ensures.count, ap length c.network.ensures.network) in
    let within : u < length nodes = omega (arith, inside, c.requires.nodes) in
    let own : node_in shows u ≡ shown n = shown_at nodes u n within ∙ ap shown (sym c.index-nodes-node.is) in
    let known : twin ≡ lockstep p (node_in shows u).moves u = c.state_at-twin.ensures.exact ∙ c.requires.known.known u inside in
    let same : is_same n.state twin ≡ is_same (node_in shows u).state (lockstep p (node_in shows u).moves u) =
    ap (λ (x : NaiveNode). is_same x.state twin) (sym own) ∙ ap (is_same (node_in shows u).state) known in
    let one : c.one_if_differs-count.result ≡ cond (differs p shows u) 1 0 =
    c.one_if_differs-count.ensures.count ∙ flip (is_same n.state twin) ∙ ap (λ (b : Bool). cond (not b) 1 0) same in
    record {
      count = ap (λ k. k + c.one_if_differs-count.result) c.loop-node.invariant.count ∙ ap (λ k. count_by (differs p shows) (numbers_below u) + k) one ∙ sym (count_more (differs p shows) u);
      few = omega (arith, c.loop-node.invariant.few, c.one_if_differs-count.ensures.most);
    }

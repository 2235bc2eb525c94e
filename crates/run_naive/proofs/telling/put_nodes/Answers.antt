use Rattle.std.proofs.Common.{◌≡◌, ◌∙◌, ◌++◌, ◌∷◌, ◌<◌, [], ap, arith, length, map, string_bytes, sym}
use Rattle.std.specs.List.{flat_map}
use Rattle.link_net.specs.Neighbours.{numbers_below}
use Rattle.rule_check.specs.declared.state.State.{State}
use Rattle.rule_check.specs.Value.{Rules, names_of}
use Rattle.rounds_plan.specs.Lockstep.{lockstep}
use Rattle.run_naive.specs.Naive.{NaiveNode, node_in}
use Rattle.run_naive.specs.Telling.{node_line, standing}
use Rattle.run_naive.specs.Keeping.{shown}
use Rattle.run_naive.proofs.Lines.{line_more}
use Rattle.run_naive.proofs.Seen.{shown_at}
use Rattle.run_naive.proofs.telling.put_nodes.Goals as goal

pub loop-node-preserved : goal.loop-node-preserved
loop-node-preserved c =
    let p = c.args.plan.now in
    let nodes = c.args.nodes.now in
    let shows = map shown nodes in
    let u = c.loop-node.node in
    let n = c.index-nodes-node.result in
    let out = string_bytes c.loop-node.out in
    let inside : u < length p.network = omega (arith, c.loop-node-test.true, c.nodes-node-end.ensures.count, ap length c.network.ensures.network) in
    let within : u < length nodes = omega (arith, inside, c.requires.nodes) in
    let own : node_in shows u ≡ shown n = shown_at nodes u n within ∙ ap shown (sym c.index-nodes-node.is) in
    let twin : c.state_at-twin.result ≡ lockstep p n.moves u =
    c.state_at-twin.ensures.exact ∙ c.requires.known.known u inside ∙ ap (λ (x : NaiveNode). lockstep p x.moves u) own in
    let line : string_bytes c.put_standing.new.out ≡ out ++ node_line p shows u =
    c.in_ok-put_standing.ensures.text
    ∙ ap (λ (rules : Rules). out ++ (standing (names_of rules) u n.moves n.state c.state_at-twin.result ++ 10 ∷ [])) c.program.ensures.program
    ∙ ap (λ (s : State). out ++ (standing (names_of p.program) u n.moves n.state s ++ 10 ∷ [])) twin
    ∙ ap (λ (x : NaiveNode). out ++ (standing (names_of p.program) u x.moves x.state (lockstep p x.moves u) ++ 10 ∷ [])) (sym own) in
    line_more (node_line p shows) out (string_bytes c.put_standing.new.out)
    (string_bytes c.args.out.now ++ flat_map (node_line p shows) (numbers_below (length p.network))) u (length p.network) inside line c.loop-node.invariant

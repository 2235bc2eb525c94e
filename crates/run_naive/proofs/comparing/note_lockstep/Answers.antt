use Rattle.std.proofs.Common.{◌≡◌, ◌∙◌, ◌+◌, ◌<◌, ◌≤◌, ◌-◌, ◌==◌, if◌then◌else◌, ℕ, inl, inr, ap, arith, get_or, length, map, set, subst, sym}
use Rattle.std.proofs.lemmas.Bool.{cases_lt}
use Rattle.std.proofs.lemmas.List.{get_or-set_other, get_or-set_same, length-set}
use Rattle.rounds_plan.specs.Configs.{blank}
use Rattle.rounds_plan.specs.Lockstep.{lockstep, state_in}
use Rattle.rounds_plan.proofs.Nears.{states_at}
use Rattle.run_naive.specs.Naive.{NaiveNode, node_in}
use Rattle.run_naive.specs.Keeping.{shown}
use Rattle.run_naive.proofs.Noting.{noted_is}
use Rattle.run_naive.proofs.Seen.{shown_at}
use Rattle.run_naive.proofs.comparing.note_lockstep.Goals as goal

pub loop-node-preserved : goal.loop-node-preserved
loop-node-preserved c =
    let p = c.args.plan.now in
    let nodes = c.args.nodes.now in
    let shows = map shown nodes in
    let moves = c.args.moves in
    let u = c.loop-node.node in
    let known = c.loop-node.known in
    let i = c.loop-node.invariant in
    let d = c.index-nodes-place.result in
    let inside : u < length p.network = omega (arith, c.loop-node-test.true, c.nodes-node-end.ensures.count, ap length c.network.ensures.network) in
    let within : u < length nodes = omega (arith, inside, c.requires.nodes) in
    let room : u < length known = omega (arith, inside, i.room) in
    let result = c.noted.result in
    let old = c.state_at-old.result in
    let new = c.state_at-new.result in
    let noted : result ≡ (if (node_in shows u).moves == moves then new else old) =
    c.noted.ensures.exact ∙ ap (λ (n : NaiveNode). if n.moves == moves then new else old) (ap shown c.index-nodes-place.is ∙ sym (shown_at nodes u d within)) in
    let there : new ≡ lockstep p moves u = c.state_at-new.ensures.exact ∙ states_at p moves c.args.states.now u c.requires.states inside in
    let own : (node_in shows u).moves ≤ moves → state_in (set known u result) u ≡ lockstep p (node_in shows u).moves u =
    λ few.
    get_or-set_same known u result blank room ∙ noted
    ∙ noted_is p (node_in shows u).moves moves u old new there
    (λ before. c.state_at-old.ensures.exact ∙ i.left u (omega arith) ∙ c.requires.known u inside before) few in
    record {
      room = length-set known u result ∙ i.room;
      done = λ v below few. elim (cases_lt v u) as (λ _. state_in (set known u result) v ≡ lockstep p (node_in shows v).moves v) [
        | inl before ↦ get_or-set_other known u v result blank (λ same. absurd (omega (arith, before, same))) ∙ i.done v before few
        | inr last ↦
            (let here : u ≡ v = omega (arith, last, below) in
            subst (λ (w : ℕ). (node_in shows w).moves ≤ moves → state_in (set known u result) w ≡ lockstep p (node_in shows w).moves w) here own few)
      ];
      left = λ v above. get_or-set_other known u v result blank (λ same. absurd (omega (arith, above, same))) ∙ i.left v (omega (arith, above));
    }

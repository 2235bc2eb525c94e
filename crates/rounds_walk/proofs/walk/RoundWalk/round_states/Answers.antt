use Rattle.std.proofs.Common.{◌≡◌, ◌∙◌, ap, arith, length, subst, sym}
use Rattle.std.specs.Prelude.{All}
use Rattle.std.proofs.lemmas.List.FromFn.{length-map-range_with_len}
use Rattle.rule_check.specs.Value.{Rules}
use Rattle.rounds_plan.specs.Configs.{IsPlain}
use Rattle.rounds_plan.specs.Lockstep.{lockstep}
use Rattle.rounds_walk.proofs.Held.{config_is}
use Rattle.rounds_walk.proofs.walk.RoundWalk.round_states.Goals as goal

pub of-requires-clause-few : goal.of-requires-clause-few
of-requires-clause-few c =
    let v = c.args.self.now in
    let count = c.in_ok-states.states.ok.0
    ∙ ap length c.in_ok-states.ensures.exact
    ∙ length-map-range_with_len (lockstep v.plan v.round) 0 (length v.plan.network) in
    let most = c.round-round.ensures.whole.network.nodes in
    omega (arith, count, most)

pub of-requires-clause-plain : goal.of-requires-clause-plain
of-requires-clause-plain c =
    subst (λ (r : Rules). All (IsPlain (length r.fields)) c.in_ok-states.states.items) (sym c.program-program.ensures.program) c.in_ok-states.ensures.plain

pub returns : goal.returns
returns c =
    let v = c.args.self.now in
    let states = c.in_ok-states.states.items in
    let parts = subst (λ (r : Rules). c.of.result ≡ record { rounds = c.round-round.result; fields = length r.fields; states = states }) c.program-program.ensures.program c.of.ensures.parts in
    record { exact = config_is v.plan c.round-round.result v.round states c.of.result parts c.round-round.ensures.round c.in_ok-states.ensures.exact }

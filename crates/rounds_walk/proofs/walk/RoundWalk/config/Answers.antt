use Rattle.std.proofs.Common.{◌≡◌, ◌∙◌, ap, length, subst, sym}
use Rattle.std.specs.Prelude.{All}
use Rattle.std.proofs.lemmas.List.FromFn.{length-map-range_with_len}
use Rattle.rounds_plan.specs.Configs.{IsPlain}
use Rattle.rounds_plan.specs.Lockstep.{lockstep}
use Rattle.rounds_plan.specs.Plans.{PlanView}
use Rattle.rounds_walk.proofs.Held.{config_is}
use Rattle.rounds_walk.proofs.walk.RoundWalk.config.Goals as goal

pub of-requires-clause-nodes : goal.of-requires-clause-nodes
of-requires-clause-nodes c =
    let v = c.args.self.now in
    c.in_ok-states.states.ok.0
    ∙ ap length c.in_ok-states.ensures.exact
    ∙ length-map-range_with_len (lockstep v.plan v.round) 0 (length v.plan.network)
    ∙ ap (λ (p : PlanView). length p.network) c.requires.plan

pub of-requires-clause-plain : goal.of-requires-clause-plain
of-requires-clause-plain c =
    subst (λ (p : PlanView). All (IsPlain (length p.program.fields)) c.in_ok-states.states.items) c.requires.plan c.in_ok-states.ensures.plain

pub returns : goal.returns
returns c =
    let v = c.args.self.now in
    let states = c.in_ok-states.states.items in
    let parts = subst (λ (p : PlanView). c.of.result ≡ record { rounds = c.round-round.result; fields = length p.program.fields; states = states }) (sym c.requires.plan) c.of.ensures.parts in
    record { exact = config_is v.plan c.round-round.result v.round states c.of.result parts c.round-round.ensures.round c.in_ok-states.ensures.exact }

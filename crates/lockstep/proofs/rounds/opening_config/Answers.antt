use Rattle.std.proofs.Common.{◌∙◌, length}
use Rattle.rounds_walk.proofs.Held.{config_is}
use Rattle.rounds_plan.proofs.Nears.{states_start}
use Rattle.lockstep.proofs.rounds.opening_config.Goals as goal

pub returns : goal.returns
returns c =
    let p = c.args.plan.now in
    record {
      config = config_is p c.start.result p.start c.in_ok-states.states.items c.of.result c.of.ensures.parts c.start.ensures.start
          (c.in_ok-states.ensures.items_if_clones_equal (λ x y e. e) ∙ c.openings.ensures.openings ∙ states_start p (length p.network) c.phase-phase.ensures.whole.opening);
    }

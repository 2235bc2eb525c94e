use Rattle.std.proofs.Common.{◌≡◌, ◌+◌, arith, ap, ◌∙◌}
use Rattle.rounds_walk.specs.Walking.{RoundView}
use Rattle.run_settle.proofs.Returns.{none_more, not_like, same_view}
use Rattle.run_settle.proofs.tail.first_round.Goals as goal

pub loop-round-preserved : goal.loop-round-preserved
loop-round-preserved g c =
    let p = c.args.course.now.start.now in
    let inv = c.loop-round.invariant in
    let r = c.loop-round.round in
    let n = c.args.period in
    let behind = c.loop-round.behind in
    let ahead = c.loop-round.ahead in
    let low : behind.round ≡ r = ap (λ (v : RoundView). v.round) inv.behind in
    let high : ahead.round ≡ r + n = ap (λ (v : RoundView). v.round) inv.ahead in
    let next : RoundView = record { plan = p; round = r + 1 } in
    let far : RoundView = record { plan = p; round = r + 1 + n } in
    record {
      late = omega (arith, inv.late);
      behind = c.step_by.ensures.next ∙ same_view next behind.plan (behind.round + 1) (ap (λ (v : RoundView). v.plan) inv.behind) (omega (arith, low));
      ahead = c.step_by-in-loop-round.ensures.next ∙ same_view far ahead.plan (ahead.round + 1) (ap (λ (v : RoundView). v.plan) inv.ahead) (omega (arith, high));
      first = none_more p n r inv.first (not_like p r n ahead behind c.is_like.result inv.ahead inv.behind c.if-is_like.false c.is_like.ensures.exact.1);
    }

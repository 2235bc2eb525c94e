use Rattle.std.proofs.Common.{◌≡◌, ◌≤◌, ap, length, subst, arith}
use Rattle.unison_pool.specs.declared.worker.Driven.{Driven}
use Rattle.unison_pool.specs.declared.worker.Pass.{Pass}
use Rattle.unison_pool.specs.declared.worker.Pass.TheVariants.{Ended}
use Rattle.unison_pool.proofs.Driving.{both-ended, pass-all, pass-more, pass-others}
use Rattle.unison_pool.proofs.team.Team.make_pass.Goals as goal

pub loop-driven-preserved : goal.loop-driven-preserved
loop-driven-preserved g c =
    let old = c.args.nodes.now.items in
    let items = c.loop-driven.driven-items in
    let i = c.loop-driven.driven-index in
    let same = c.loop-driven.invariant.later in
    let long = c.loop-driven.auto.driven-items in
    record {
      later = pass-others old items i c.attend.new.driven same;
      ended = λ e. (
          let each = both-ended c.loop-driven.pass c.in_ok-attend.field-0 (subst (λ (p : Pass). p ≡ Ended) c.and-pass.ensures e) in
          pass-more (λ (d : Driven). c.args.self.now.stop ≤ d.moves) old items i _ (omega arith) same (c.in_ok-attend.ensures.ended.0 each.1) (c.loop-driven.invariant.ended each.0));
    }

pub returns : goal.returns
returns g c =
    let old = c.args.nodes.now.items in
    let whole = ap length c.deref_mut-driven-items.ensures.value in
    record {
      ended = λ e. pass-all (λ (d : Driven). c.args.self.now.stop ≤ d.moves) old c.loop-driven.driven-index (omega arith) (c.loop-driven.invariant.ended e);
    }

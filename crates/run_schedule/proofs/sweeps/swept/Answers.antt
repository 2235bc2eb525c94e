use Rattle.std.proofs.Common.{◌≡◌, ◌+◌, ◌-◌, ◌++◌, ◌≤◌, [], ap, ◌∙◌, take, arith}
use Rattle.std.specs.List.{repeat}
use Rattle.run_schedule.specs.Sweeps.{sweep_of}
use Rattle.run_schedule.proofs.Fronts.{front-full, front-more, front-short, repeat-none, repeat-push, repeat-split, front-whole}
use Rattle.run_schedule.proofs.sweeps.swept.Goals as goal

pub loop-round-init : goal.loop-round-init
loop-round-init c =
    let sweep = sweep_of c.args.plan.now.network in
    let begun = c.start-round.ensures.start in
    let put = repeat-none c.args.limit (c.start-round.result - c.args.plan.now.start) sweep c.new-steps.result.items (omega arith) c.new-steps.ensures.items in
    record { few = front-short c.args.limit (repeat (c.start-round.result - c.args.plan.now.start) sweep) c.new-steps.result.items put; put = put }

pub returns-then-len-limit : goal.returns-then-len-limit
returns-then-len-limit c =
    let sweep = sweep_of c.args.plan.now.network in
    let start = c.args.plan.now.start in
    let r = c.loop-round._round in
    let begun = c.start-round.ensures.start in
    let after = c.loop-round.auto._round in
    let e : (r - start) + (c.args.stop - r) ≡ c.args.stop - start = omega arith in
    record {
      exact = front-full c.args.limit (repeat (r - start) sweep) (repeat (c.args.stop - r) sweep) c.loop-round.steps.items c.loop-round.invariant.put (omega arith)
          ∙ ap (take c.args.limit) (repeat-split (r - start) (c.args.stop - r) sweep ∙ ap (λ k. repeat k sweep) e);
    }

pub loop-round-preserved : goal.loop-round-preserved
loop-round-preserved c =
    let network = c.args.plan.now.network in
    let sweep = sweep_of network in
    let start = c.args.plan.now.start in
    let r = c.loop-round._round in
    let begun = c.start-round.ensures.start in
    let after = c.loop-round.auto._round in
    let e : (r - start) + 1 ≡ (r + 1) - start = omega arith in
    let put = c.in_ok-put_sweep.ensures.put ∙ ap (λ n. take c.args.limit (c.loop-round.steps.items ++ sweep_of n)) c.network.ensures.network in
    let made = front-more c.args.limit [] (repeat (r - start) sweep) sweep c.loop-round.steps.items c.put_sweep.new.steps.items c.loop-round.invariant.put put
    ∙ ap (take c.args.limit) (repeat-push (r - start) sweep ∙ ap (λ k. repeat k sweep) e) in
    record { few = front-short c.args.limit (repeat ((r + 1) - start) sweep) c.put_sweep.new.steps.items made; put = made }

pub returns : goal.returns
returns c =
    let sweep = sweep_of c.args.plan.now.network in
    let start = c.args.plan.now.start in
    let begun = c.start-round.ensures.start in
    let low : c.start-round.result ≤ c.args.stop = omega (arith, begun, c.requires.late) in
    let ends = c.loop-round.auto._round-end low in
    let after = c.loop-round.auto._round in
    let last = c.loop-round-test.false in
    record { exact = front-whole c.args.limit (c.loop-round._round - start) (c.args.stop - start) sweep c.loop-round.steps.items c.loop-round.invariant.put (omega arith) }

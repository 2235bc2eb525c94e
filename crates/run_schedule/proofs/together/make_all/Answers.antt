use Rattle.std.proofs.Common.{◌≡◌, ◌+◌, ◌++◌, ◌∷◌, [], ◌∙◌, take, get_or, sym, ap, subst, arith}
use Rattle.std.proofs.lemmas.List.{take_more, take_all}
use Rattle.std.proofs.lemmas.Result.{err_from_is_err_and}
use Rattle.unison_world.specs.declared.step.Step.TheVariants.{Read}
use Rattle.run_schedule.specs.Walks.{GoesOn}
use Rattle.run_schedule.proofs.Driven.{HasMade, changes-at, made-full, made-more, made-none, open-without}
use Rattle.run_schedule.proofs.Walking.{goes-nowhere, goes-on-further, step-goes}
use Rattle.run_schedule.proofs.together.make_all.Goals as goal

pub loop-step-init : goal.loop-step-init
loop-step-init c = made-none c.args.walk.now (goes-nowhere c.args.walk.now)

pub loop-step-preserved : goal.loop-step-preserved
loop-step-preserved c =
    let old = c.args.walk.now in
    let now = c.loop-step.walk in
    let new = c.make.new.self in
    let steps = c.args.steps.now in
    let k = c.loop-step.step-index in
    let s = get_or steps k (Read 0 0) in
    let i = c.loop-step.invariant in
    let after = c.in_ok-make.ensures.after in
    let changes = changes-at old.world now.world steps k (Read 0 0) c.requires.change i.goes.plan i.goes.stop i.counts (omega arith) in
    let free = open-without now s (i.goes.still ∙ c.requires.none) changes in
    let front : take (k + 1) steps ≡ take k steps ++ s ∷ [] = take_more steps k (Read 0 0) (omega arith) in
    subst (HasMade old new) (sym front) (made-more old now new (take k steps) s i (goes-on-further old now new i.goes (step-goes now new s after)) after free)

pub returns-in_err-make-clause-goes : goal.returns-in_err-make-clause-goes
returns-in_err-make-clause-goes c = subst (GoesOn c.args.walk.now) (sym c.in_err-make.ensures.unchanged) c.loop-step.invariant.goes

pub returns-in_err-make-clause-full : goal.returns-in_err-make-clause-full
returns-in_err-make-clause-full c =
    let steps = c.args.steps.now in
    let k = c.loop-step.step-index in
    let p = err_from_is_err_and c.from_residual.result c.from_residual.ensures.1 in
    rw (p.1, p.2)
    (λ e.
    let f = c.in_err-make.ensures.full e in
    made-full c.args.walk.now c.loop-step.walk c.make.new.self steps k (get_or steps k (Read 0 0)) c.loop-step.invariant c.in_err-make.ensures.unchanged f.0 f.1)

pub returns-clause-made : goal.returns-clause-made
returns-clause-made c =
    let steps = c.args.steps.now in
    let whole : take c.loop-step.step-index steps ≡ steps = take_all c.loop-step.step-index steps (omega arith) in
    c.loop-step.invariant.steps ∙ ap (λ xs. c.args.walk.now.steps ++ xs) whole

pub returns-clause-counts : goal.returns-clause-counts
returns-clause-counts c =
    let steps = c.args.steps.now in
    let whole : take c.loop-step.step-index steps ≡ steps = take_all c.loop-step.step-index steps (omega arith) in
    (subst (HasMade c.args.walk.now c.loop-step.walk) whole c.loop-step.invariant).counts

pub returns-clause-goes : goal.returns-clause-goes
returns-clause-goes c = c.loop-step.invariant.goes

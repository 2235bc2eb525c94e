use Rattle.std.proofs.Common.{◌≡◌, ◌++◌, ◌∙◌, List, take, sym, ap, subst}
use Rattle.std.specs.Result.{OnOk, IfErr}
use Rattle.unison_world.specs.declared.step.Step.{Step}
use Rattle.unison_world.specs.Counting.{Counts, is_marked, run}
use Rattle.run_schedule.specs.declared.fault.Halt.TheVariants.{Full}
use Rattle.run_schedule.specs.Daemons.{AllChange, IsBare}
use Rattle.run_schedule.specs.Walks.{IsFull}
use Rattle.run_schedule.proofs.Driven.{on-ok}
use Rattle.run_schedule.proofs.Joint.{together}
use Rattle.run_schedule.proofs.together.move_together.Goals as goal

pub make_all-requires-clause-change : goal.make_all-requires-clause-change
make_all-requires-clause-change c =
    let w = c.args.walk.now.world in
    let exact = rw c.network.ensures.network at c.in_ok-steps.ensures.exact in
    subst (AllChange w) (sym (c.deref.ensures.value ∙ exact)) (together w.plan.network w.stop c.args.nodes.now w.counts c.network.ensures.sound.shape c.requires.bare c.requires.may).0

pub returns-clause-made : goal.returns-clause-made
returns-clause-made c =
    let exact = rw c.network.ensures.network at c.in_ok-steps.ensures.exact in
    subst (λ (xs : List Step). OnOk c.make_all.result (c.make_all.new.walk.steps ≡ c.args.walk.now.steps ++ xs)) (c.deref.ensures.value ∙ exact) c.make_all.ensures.made

pub returns-clause-bare : goal.returns-clause-bare
returns-clause-bare c =
    let w = c.args.walk.now.world in
    let exact = rw c.network.ensures.network at c.in_ok-steps.ensures.exact in
    let bare = (together w.plan.network w.stop c.args.nodes.now w.counts c.network.ensures.sound.shape c.requires.bare c.requires.may).1 in
    on-ok c.make_all.result _ (IsBare c.make_all.new.walk.world) (λ counts u j. ap (λ (x : Counts). is_marked x u j) (counts ∙ ap (run w.plan.network w.stop w.counts) (c.deref.ensures.value ∙ exact)) ∙ bare u j) c.make_all.ensures.counts

pub returns-clause-full : goal.returns-clause-full
returns-clause-full c =
    let exact = rw c.network.ensures.network at c.in_ok-steps.ensures.exact in
    subst (λ (xs : List Step). IfErr c.make_all.result (λ halt. halt ≡ Full → IsFull c.make_all.new.walk × (c.make_all.new.walk.steps ≡ take c.args.walk.now.limit (c.args.walk.now.steps ++ xs)))) (c.deref.ensures.value ∙ exact) c.make_all.ensures.full

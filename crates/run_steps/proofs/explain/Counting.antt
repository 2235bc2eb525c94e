-- Each answer is counted once.
use Rattle.std.proofs.Common.{◌≡◌, ℕ, suc, ◌+◌, List, [], ◌∷◌, length, refl, ap, arith}
use Rattle.std.specs.List.{fold}
use Rattle.link_net.specs.Neighbours.{Neighbours}
use Rattle.unison_world.specs.declared.step.Step.{Step}
use Rattle.unison_world.specs.declared.step.Answer.{Answer}
use Rattle.unison_world.specs.declared.step.Answer.TheVariants.{Taken, Behind, Already, Moved, NotReady, Stopped, NoNode, NoSlot}
use Rattle.unison_world.specs.Counting.{Counts, after, answers}
use Rattle.run_steps.specs.declared.explain.answered.Answered.{Answered}
use Rattle.run_steps.specs.explain.Summaries.{none_answered, with_answer, total, EachIsCounted}

one_more : (a : Answered) (answer : Answer) → total (with_answer a answer) ≡ total a + 1
one_more a Taken = omega arith
one_more a Behind = omega arith
one_more a Already = omega arith
one_more a Moved = omega arith
one_more a NotReady = omega arith
one_more a Stopped = omega arith
one_more a NoNode = omega arith
one_more a NoSlot = omega arith

all_counted : (a : Answered) (given : List Answer) → total (fold with_answer a given) ≡ total a + length given
all_counted a [] = omega arith
all_counted a (answer ∷ given) = (let one = one_more a answer in let all = all_counted (with_answer a answer) given in omega arith)

as_many : (network : Neighbours) (stop : ℕ) (c : Counts) (steps : List Step) → length (answers network stop c steps) ≡ length steps
as_many network stop c [] = refl
as_many network stop c (step ∷ steps) = ap suc (as_many network stop (after network stop c step) steps)

pub each_is_counted : EachIsCounted
each_is_counted network stop c steps =
    let all = all_counted none_answered (answers network stop c steps) in
    let many = as_many network stop c steps in
    omega arith

-- Steps that are found open.
use Rattle.std.proofs.Common.{◌≡◌, ℕ, ◌<◌, ◌≤◌, Bool, true, false, ◌&&◌, List, [], ◌∷◌, ◌++◌, length, length-append, sym, refl, ap, ◌∙◌, ⊎_elim, arith, if◌then◌else◌}
use Rattle.std.specs.List.{All}
use Rattle.std.proofs.lemmas.List.Elements.{All-push}
use Rattle.std.proofs.lemmas.Bool.{cases_lt}
use Rattle.std.proofs.lemmas.Bool.Decides.{nat_tests}
use Rattle.link_net.specs.Neighbours.{Neighbours, degree}
use Rattle.unison_world.specs.declared.step.Step.{Step}
use Rattle.unison_world.specs.declared.step.Step.TheVariants.{Read, Write}
use Rattle.unison_world.specs.declared.step.Answer.TheVariants.{NoNode, NoSlot}
use Rattle.unison_world.specs.Counting.{Counts, answer_of}
use Rattle.unison_world.proofs.Sights.{cases_bool}
use Rattle.unison_trace.specs.Histories.{is_change}
use Rattle.run_schedule.specs.Walks.{WalkView, AtRest, GoesOn, RestsAt, is_open, is_other, walk_after}
use Rattle.run_schedule.proofs.Walking.{open-lengthens, step-goes}

pub find-opens : (w : WalkView) (step : Step) (old new : List Step) → new ≡ (if is_open w step then old ++ step ∷ [] else old) → All (λ s. is_open w s ≡ true) old → All (λ s. is_open w s ≡ true) new
find-opens w step old new e h =
    ⊎_elim
    (λ t. (let f : new ≡ old ++ step ∷ [] = rw t at e in rw f (All-push (λ s. is_open w s ≡ true) old step h t)))
    (λ t. (let f : new ≡ old = rw t at e in rw f h))
    (cases_bool (is_open w step))

pub find-none : (w : WalkView) (step : Step) (old new : List Step) → new ≡ (if is_open w step then old ++ step ∷ [] else old) → new ≡ [] → (old ≡ []) × (is_open w step ≡ false)
find-none w step old new e n =
    ⊎_elim
    (λ t. (let f : new ≡ old ++ step ∷ [] = rw t at e in let m = ap length (sym f ∙ n) in absurd (omega (arith, m, length-append old (step ∷ [])))))
    (λ t. (let f : new ≡ old = rw t at e in (sym f ∙ n, t)))
    (cases_bool (is_open w step))

and-false : (a b : Bool) → b ≡ false → a && b ≡ false
and-false true b e = e
and-false false b e = refl

past-node : (network : Neighbours) (stop : ℕ) (c : Counts) (u j : ℕ) → length network ≤ u → (answer_of network stop c (Read u j) ≡ NoNode) × (answer_of network stop c (Write u) ≡ NoNode)
past-node network stop c u j h = (grind (arith, nat_tests), grind (arith, nat_tests))

past-slot : (network : Neighbours) (stop : ℕ) (c : Counts) (u j : ℕ) → u < length network → degree network u ≤ j → answer_of network stop c (Read u j) ≡ NoSlot
past-slot network stop c u j h l = grind (arith, nat_tests)

-- where no node has an open step, there is none
pub rests-everywhere : (w : WalkView) → ((u : ℕ) → u < length w.world.plan.network → RestsAt w u) → AtRest w
rests-everywhere w h (Read u j) =
    let network = w.world.plan.network in
    ⊎_elim
    (λ a. ⊎_elim (λ b. (h u a).reads j b) (λ b. and-false (is_other w.still (Read u j)) _ (ap is_change (past-slot network w.world.stop w.world.counts u j a b))) (cases_lt j (degree network u)))
    (λ a. and-false (is_other w.still (Read u j)) _ (ap is_change (past-node network w.world.stop w.world.counts u j a).0))
    (cases_lt u (length network))
rests-everywhere w h (Write u) =
    let network = w.world.plan.network in
    ⊎_elim
    (λ a. (h u a).write)
    (λ a. and-false (is_other w.still (Write u)) _ (ap is_change (past-node network w.world.stop w.world.counts u 0 a).1))
    (cases_lt u (length network))

-- a pass makes a step: if it makes no other, then the first that was open
pub pass-lengthens : (a b c : WalkView) (step : Step) → GoesOn a b → c ≡ walk_after b step → is_open a step ≡ true → length a.steps < length c.steps
pass-lengthens a b c step goes e free =
    let l = goes.longer in
    let m = (step-goes b c step e).longer in
    ⊎_elim
    (λ more. omega arith)
    (λ same.
    let f : b ≡ a = goes.idle same in
    let still : is_open b step ≡ true = ap (λ (w : WalkView). is_open w step) f ∙ free in
    let n = open-lengthens b c step e still in
    omega arith)
    (cases_lt (length a.steps) (length b.steps))

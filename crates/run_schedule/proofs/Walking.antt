-- Steps of a walk.
use Rattle.std.proofs.Common.{◌≡◌, ◌+◌, ◌<◌, Bool, true, false, ◌&&◌, [], ◌∷◌, length, length-append, sym, refl, ap, subst, ◌∙◌, ⊎_elim, arith}
use Rattle.std.proofs.lemmas.List.Elements.{All-push}
use Rattle.unison_world.specs.declared.step.Step.{Step}
use Rattle.unison_world.specs.View.{answer_in}
use Rattle.unison_world.proofs.Sights.{cases_bool}
use Rattle.unison_trace.specs.Histories.{is_change}
use Rattle.unison_trace.proofs.Leading.{lead-more}
use Rattle.run_schedule.specs.Walks.{WalkView, IsWalk, GoesOn, is_other, is_open, with_step, walk_after}

pub both-true : (a b : Bool) → a && b ≡ true → (a ≡ true) × (b ≡ true)
both-true true b e = (refl, e)
both-true false b e = cc

-- one step more
pub walk-more : (w : WalkView) (step : Step) → IsWalk w → is_open w step ≡ true → length w.steps < w.limit → IsWalk (with_step w step)
walk-more w step is free room =
    let b = both-true (is_other w.still step) (is_change (answer_in w.world step)) free in
    record {
      leads = lead-more w.world.plan w.world.stop w.world.counts w.steps step is.leads b.1;
      others = All-push (λ s. is_other w.still s ≡ true) w.steps step is.others b.0;
      few = omega (arith, length-append w.steps (step ∷ []), room);
    }

pub goes-nowhere : (w : WalkView) → GoesOn w w
goes-nowhere w = record { plan = refl; stop = refl; still = refl; limit = refl; longer = omega arith; idle = λ _. refl }

pub goes-on-further : (a b c : WalkView) → GoesOn a b → GoesOn b c → GoesOn a c
goes-on-further a b c f g =
    let l = f.longer in
    let m = g.longer in
    record {
      plan = g.plan ∙ f.plan;
      stop = g.stop ∙ f.stop;
      still = g.still ∙ f.still;
      limit = g.limit ∙ f.limit;
      longer = omega arith;
      idle = λ e. g.idle (omega arith) ∙ f.idle (omega arith);
    }

-- a step that is made
with-step-goes : (w : WalkView) (step : Step) → GoesOn w (with_step w step)
with-step-goes w step =
    let l = length-append w.steps (step ∷ []) in
    record { plan = refl; stop = refl; still = refl; limit = refl; longer = omega (arith, l); idle = λ e. absurd (omega (arith, l, e)) }

-- a step, made or not
pub step-goes : (w v : WalkView) (step : Step) → v ≡ walk_after w step → GoesOn w v
step-goes w v step e =
    ⊎_elim
    (λ t. (let f : v ≡ with_step w step = rw t at e in subst (GoesOn w) (sym f) (with-step-goes w step)))
    (λ t. (let f : v ≡ w = rw t at e in subst (GoesOn w) (sym f) (goes-nowhere w)))
    (cases_bool (is_open w step))

-- a step that is open
pub open-lengthens : (w v : WalkView) (step : Step) → v ≡ walk_after w step → is_open w step ≡ true → length w.steps + 1 ≡ length v.steps
open-lengthens w v step e t = (let f : v ≡ with_step w step = rw t at e in let m = ap (λ (x : WalkView). length x.steps) f in omega (arith, m, length-append w.steps (step ∷ [])))

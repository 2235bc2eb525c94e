use Rattle.std.proofs.Common.{◌≡◌, ◌≤◌, ℕ, List, length, take, refl, ap, ◌∙◌}
use Rattle.std.proofs.lemmas.List.{take_all}
use Rattle.link_net.specs.declared.field_set.FieldSet.{FieldSet}
use Rattle.link_net.specs.Names.{AreRising}
use Rattle.net_initial.specs.declared.opening.Opening.{Opening}
use Rattle.net_initial.specs.Opened.{set_at, set_after, AreOpened}
use Rattle.net_initial.proofs.field_sets.opened_sets.Goals as goal

-- no opening is left
all_opened : (n : ℕ) (sets : List FieldSet) (openings : List Opening) (place : ℕ) (opened : List FieldSet) → length openings ≤ place → AreRising opened → ((f : List ℕ) → set_at opened f ≡ set_after n sets openings (take place openings) f) → AreOpened n sets openings opened
all_opened n sets openings place opened end rising each =
    let all = take_all place openings end in
    let now : (f : List ℕ) → set_at opened f ≡ set_after n sets openings openings f = λ f. each f ∙ ap (λ os. set_after n sets openings os f) all in
    record {
      rising = rising;
      named = λ f is. now f ∙ (rw is refl);
      kept = λ f is. now f ∙ (rw is refl);
    }

pub loop-place-init : goal.loop-place-init
loop-place-init c = record {
  rising = rw c.in_ok-opened.ensures c.requires.rising;
  each = λ f. ap (λ sets. set_at sets f) c.in_ok-opened.ensures;
  defined = refl;
}

pub loop-place-preserved : goal.loop-place-preserved
loop-place-preserved c = record {
  rising = c.in_ok-put_field.ensures.rising;
  each = c.in_ok-put_field.ensures.each;
  defined = c.in_ok-put_field.ensures.defined;
}

pub returns-clause-opened : goal.returns-clause-opened
returns-clause-opened c =
    all_opened c.args.nodes c.args.sets.now c.args.openings.now c.loop-place.place c.loop-place.opened.items c.loop-place-test.false c.loop-place.invariant.rising c.loop-place.invariant.each

-- Lockstep states that are noted, and lists that are written.
use Rattle.std.proofs.Common.{◌≡◌, ◌<◌, ◌≤◌, ◌-◌, ℕ, List, [], ◌++◌, length, take, drop, Bool, true, false, ◌==◌, if◌then◌else◌, refl, sym, ap, ◌∙◌, arith}
use Rattle.std.proofs.lemmas.Bool.{eqb-true, eqb-false}
use Rattle.std.proofs.lemmas.List.{append-nil, drop_at, take_all}
use Rattle.rule_check.specs.declared.state.State.{State}
use Rattle.rounds_plan.specs.Lockstep.{lockstep}
use Rattle.rounds_plan.specs.Plans.{PlanView}

noted_by : (p : PlanView) (count moves u : ℕ) (old new : State) (b : Bool) → (count == moves) ≡ b → new ≡ lockstep p moves u
    → (count ≤ moves - 1 → old ≡ lockstep p count u) → count ≤ moves → (if b then new else old) ≡ lockstep p count u
noted_by p count moves u old new true same is before few = is ∙ ap (λ (t : ℕ). lockstep p t u) (sym (eqb-true count moves same))
noted_by p count moves u old new false other is before few = (let apart = eqb-false count moves other in before (omega (arith, apart, few)))

-- the state that is noted of a node with this count
pub noted_is : (p : PlanView) (count moves u : ℕ) (old new : State) → new ≡ lockstep p moves u → (count ≤ moves - 1 → old ≡ lockstep p count u) → count ≤ moves
    → (if count == moves then new else old) ≡ lockstep p count u
noted_is p count moves u old new is before few = noted_by p count moves u old new (count == moves) refl is before few

-- a list that is written over the whole of another one
pub written : {X : Type 0} (new old : List X) (n : ℕ) → n ≡ length old → length new ≡ length old → take n (new ++ drop (length new) old) ≡ new
written {X} new old n count same =
    let none : drop (length new) old ≡ [] = ap (λ (xs : List X). drop (length new) xs) (sym (append-nil old)) ∙ drop_at old [] (length new) (sym same) in
    ap (λ (xs : List X). take n (new ++ xs)) none ∙ ap (take n) (append-nil new) ∙ take_all n new (omega (arith, count, same))

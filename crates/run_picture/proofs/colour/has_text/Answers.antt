use Rattle.std.proofs.Common.{◌≡◌, ◌∙◌, ◌<◌, ◌≤◌, ◌||◌, ℕ, List, Bool, false, ap, arith, get_or, length, refl, sym}
use Rattle.std.proofs.lemmas.List.{take_all}
use Rattle.std.proofs.lemmas.List.Folds.{list_any_more}
use Rattle.std.specs.List.{list_any, range_with_len}
use Rattle.std.specs.Str.{bytes_eq}
use Rattle.run_picture.specs.Shades.{class_count, colour_of}
use Rattle.run_picture.proofs.Fills.{at_place}
use Rattle.run_picture.proofs.colour.has_text.Goals as goal

pub loop-class-init : goal.loop-class-init
loop-class-init c = refl

pub loop-class-preserved : goal.loop-class-preserved
loop-class-preserved c =
    let class = c.loop-class.class in
    let inside : class < class_count = c.loop-class-test.true in
    let is : ℕ → Bool = λ (n : ℕ). bytes_eq (colour_of n) c.args.text.now in
    let other : is class ≡ false = sym (ap (λ (colour : List ℕ). bytes_eq colour c.args.text.now) c.colour_of.ensures.colour) ∙ sym c.eq.ensures ∙ c.if-eq.false in
    list_any_more is (range_with_len 0 class_count) class 0 inside
    ∙ ap (λ (b : Bool). b || is (get_or (range_with_len 0 class_count) class 0)) c.loop-class.invariant
    ∙ ap is (at_place class inside)
    ∙ other

pub returns : goal.returns
returns c =
    let is : ℕ → Bool = λ (n : ℕ). bytes_eq (colour_of n) c.args.text.now in
    let past : length (range_with_len 0 class_count) ≤ c.loop-class.class = omega (arith, c.loop-class-test.false) in
    sym c.loop-class.invariant ∙ ap (list_any is) (take_all c.loop-class.class (range_with_len 0 class_count) past)

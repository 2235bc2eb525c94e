use Rattle.std.proofs.Common.{◌≡◌, ◌∙◌, ◌++◌, ◌∷◌, [], ℤ, pos, map, take, get_or, sym, ap}
use Rattle.std.proofs.lemmas.List.{map-append, map_more, take_all}
use Rattle.toml.specs.Data.{array}
use Rattle.toml.specs.View.{view, items_of}
use Rattle.toml.proofs.Views.{view-Array}
use Rattle.net_text.specs.Written.{pair_data}
use Rattle.net_text.proofs.document.pairs_value.Goals as goal

pub loop-pair-preserved : goal.loop-pair-preserved
loop-pair-preserved c =
    let pairs = c.args.pairs.now in
    let i = c.loop-pair.pair-index in
    let none : ℤ × ℤ = (pos 0, pos 0) in
    let value : view c.in_ok-value.value ≡ pair_data (get_or pairs i none) = c.in_ok-value.ensures in
    rw c.in_ok-push.ensures.items
    (map-append view c.loop-pair.items.items (c.in_ok-value.value ∷ [])
    ∙ ap (λ ds. ds ++ view c.in_ok-value.value ∷ []) c.loop-pair.invariant
    ∙ ap (λ d. map pair_data (take i pairs) ++ d ∷ []) value
    ∙ sym (map_more pair_data pairs i none c.loop-pair-test.true))

pub returns : goal.returns
returns c =
    let pairs = c.args.pairs.now in
    view-Array c.loop-pair.items
    ∙ ap (λ ds. array (items_of ds)) (c.loop-pair.invariant ∙ ap (map pair_data) (take_all c.loop-pair.pair-index pairs c.loop-pair-test.false))

use Rattle.std.proofs.Common.{◌++◌, ◌∷◌, [], get_or, ap, sym, ◌∙◌}
use Rattle.std.proofs.lemmas.List.{take_more}
use Rattle.net_initial.proofs.field_sets.copied.Goals as goal

-- one set more
pub loop-set-preserved : goal.loop-set-preserved
loop-set-preserved c =
    let sets = c.args.sets.now in
    let i = c.loop-set.set-index in
    let set = c.set-item.result in
    let copies = c.loop-set.copies.items in
    c.in_ok-push.ensures.items ∙ ap (λ s. copies ++ s ∷ []) (c.in_ok-copy.ensures ∙ c.set-item.is) ∙ ap (λ ss. ss ++ get_or sets i set ∷ []) c.loop-set.invariant
    ∙ sym (take_more sets i set c.loop-set-test.true)

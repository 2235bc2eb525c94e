use Rattle.std.proofs.Common.{◌++◌, ◌∷◌, [], not, take, ap, sym, ◌∙◌}
use Rattle.std.specs.List.{list_any}
use Rattle.std.specs.Str.{bytes_eq}
use Rattle.std.proofs.lemmas.List.{take_more}
use Rattle.std.proofs.lemmas.List.Elements.{filter-append}
use Rattle.net_initial.specs.Opened.{kept_sets}
use Rattle.net_initial.proofs.field_sets.kept_sets.Goals as goal

-- one set more
pub loop-set-preserved : goal.loop-set-preserved
loop-set-preserved c =
    let sets = c.args.sets.now in
    let i = c.loop-set.set-index in
    let set = c.set-item.result in
    let kept = kept_sets c.args.cleared.now in
    let so_far = take_more sets i set c.loop-set-test.true ∙ ap (λ s. take i sets ++ s ∷ []) (sym c.set-item.is) in
    c.in_ok-put_kept.ensures.kept ∙ ap (λ ks. ks ++ kept (set ∷ [])) c.loop-set.invariant
    ∙ sym (ap kept so_far ∙ filter-append (λ s. not (list_any (bytes_eq s.name) c.args.cleared.now)) (take i sets) (set ∷ []))

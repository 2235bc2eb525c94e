use Rattle.std.proofs.Common.{◌≡◌, subst, IfOk, ◌∙◌}
use Rattle.import_links.proofs.MergeSteps.{next_link, all_put}
use Rattle.import_links.proofs.merging.merged.Goals as goal

pub loop-link-preserved : goal.loop-link-preserved
loop-link-preserved c = next_link c.args.kept c.args.links.now _ c.loop-link.link-index (0, 0, 0) c.loop-link.made.entries _ c.loop-link-test.true c.in_ok-put.ensures c.loop-link.invariant

pub returns : goal.returns
returns c =
    let put = all_put c.args.kept c.args.links.now _ c.loop-link.link-index c.loop-link.made.entries c.loop-link-test.false c.loop-link.invariant in
    let shown = c.as_slice.ensures ∙ c.values.ensures.rest ∙ put in
    record { merged = subst (λ x. IfOk c.from_slice.result (λ v. v.items ≡ x)) shown c.from_slice.ensures.items }

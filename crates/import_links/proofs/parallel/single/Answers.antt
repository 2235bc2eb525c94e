use Rattle.std.proofs.Common.{◌∙◌}
use Rattle.import_links.proofs.Fewer.{fewer_merged}
use Rattle.import_links.proofs.parallel.single.Goals as goal

pub returns-in_ok-merged-in-Merged-clause-few : goal.returns-in_ok-merged-in-Merged-clause-few
returns-in_ok-merged-in-Merged-clause-few c =
    fewer_merged c.in-Merged.kept c.args.links.now c.as_slice.result.now c.in_ok-merged-in-Merged.field-0.items (c.as_slice.ensures.value ∙ c.in_ok-plain.ensures) c.in_ok-merged-in-Merged.ensures.merged

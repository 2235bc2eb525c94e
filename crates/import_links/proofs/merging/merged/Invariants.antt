use Rattle.std.proofs.Common.{◌≡◌, drop}
use Rattle.import_links.specs.Merging.{merged}
use Rattle.import_links.proofs.MergeSteps.{absorbed}
use Rattle.import_links.proofs.merging.merged.Given as goal

abbrev pub invariant-loop-link : goal.invariant-loop-link
invariant-loop-link l = absorbed l.kept l.made.entries (drop l.link-index l.links) ≡ merged l.kept l.links

use Rattle.std.proofs.Common.{◌≡◌, ◌≤◌, count_by, take}
use Rattle.import_network.specs.Drafts.{is_rounded}
use Rattle.import_network.proofs.imported.count_rounded.Given as goal

abbrev pub invariant-loop-link : goal.invariant-loop-link
invariant-loop-link l = record {
  counted : l.rounded ≡ count_by is_rounded (take l.link-index l.links);
  few : l.rounded ≤ l.link-index;
}

use Rattle.std.proofs.Common.{◌≡◌, ◌++◌, codes, drop, take, string_bytes}
use Rattle.net_text.specs.Written.{link_lines, AllWeights}
use Rattle.net_text.proofs.link_lines.put_links.Given as goal

abbrev pub invariant-loop-link : goal.invariant-loop-link
invariant-loop-link l = record {
  text : string_bytes l.out ++ link_lines (drop l.link-index l.links) ≡ (string_bytes l.fn.out ++ codes "links = [") ++ link_lines l.links;
  weights : AllWeights (take l.link-index l.links);
}

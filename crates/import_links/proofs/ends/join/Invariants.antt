use Rattle.std.proofs.Common.{◌≡◌, ◌++◌, ◌≤◌, length, drop, take}
use Rattle.net_names.specs.Naming.{AreNames}
use Rattle.import_links.specs.Joining.{names_with, links_with}
use Rattle.import_links.proofs.ends.join.Given as goal

abbrev pub invariant-loop-edge : goal.invariant-loop-edge
invariant-loop-edge l = record {
  names : l.names ≡ names_with l.fn.names (take l.edge-index l.edges);
  rest : names_with l.names (drop l.edge-index l.edges) ≡ names_with l.fn.names l.edges;
  links : l.links.items ++ links_with l.names (drop l.edge-index l.edges) ≡ links_with l.fn.names l.edges;
  are : AreNames l.names;
  few : length l.fn.names ≤ l.fn.most → length l.names ≤ l.fn.most;
}

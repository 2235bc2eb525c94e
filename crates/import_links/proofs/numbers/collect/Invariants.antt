use Rattle.std.proofs.Common.{◌≡◌, drop}
use Rattle.import_links.specs.Numbering.{links_in, nodes_of}
use Rattle.import_links.proofs.NumberSteps.{with_front}
use Rattle.import_links.proofs.numbers.collect.Given as goal

abbrev pub invariant-loop-edge : goal.invariant-loop-edge
invariant-loop-edge l = record {
  read : with_front l.links.items (links_in l.fn.most (drop l.edge-index l.edges)) ≡ links_in l.fn.most l.edges;
  nodes : l.nodes ≡ nodes_of l.links.items;
}

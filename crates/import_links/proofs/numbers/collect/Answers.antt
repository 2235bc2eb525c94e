use Rattle.std.proofs.Common.{◌≡◌, ℕ, arith, ◌∷◌, ◌+◌, max, drop, sym, ap, ◌∙◌}
use Rattle.std.specs.Ordering.{ord_max, nat_cmp}
use Rattle.std.proofs.lemmas.Grind.{common_steps}
use Rattle.std.proofs.lemmas.List.{drop_more, drop_all}
use Rattle.import_links.specs.Numbering.{links_in}
use Rattle.import_links.proofs.NumberSteps.{links_more, links_all, nodes_more}
use Rattle.import_links.proofs.numbers.collect.Goals as goal

-- the greater of two numbers by their order
larger : (a b : ℕ) → ord_max nat_cmp a b ≡ max a b
larger a b = grind (arith, common_steps)

pub loop-edge-preserved : goal.loop-edge-preserved
loop-edge-preserved c =
    let edges = c.args.edges.now in
    let i = c.loop-edge.edge-index in
    let edge = c.edge-item.result in
    let rest = drop (i + 1) edges in
    let shape = drop_more edges i edge c.loop-edge-test.true ∙ ap (λ e. e ∷ rest) (sym c.edge-item.is) in
    let front = c.loop-edge.links.items in
    let put = c.in_ok-push.ensures.items in
    record {
      read = links_more c.args.most front c.push.new.self.items c.in_ok-placed.placed edge (drop i edges) rest put shape (sym c.in_ok-placed.ensures.link) ∙ c.loop-edge.invariant.read;
      nodes =
          let more = nodes_more front c.push.new.self.items c.in_ok-placed.placed put in
          c.max-nodes.ensures ∙ ap (λ n. max n (c.in_ok-placed.placed.link.1 + 1)) (c.max.ensures ∙ larger _ _ ∙ ap (λ n. max n (c.in_ok-placed.placed.link.0 + 1)) c.loop-edge.invariant.nodes) ∙ sym more;
    }

pub returns-clause-links : goal.returns-clause-links
returns-clause-links c =
    let edges = c.args.edges.now in
    links_all c.args.most c.loop-edge.links.items (drop c.loop-edge.edge-index edges) (links_in c.args.most edges) (drop_all c.loop-edge.edge-index edges c.loop-edge-test.false) c.loop-edge.invariant.read

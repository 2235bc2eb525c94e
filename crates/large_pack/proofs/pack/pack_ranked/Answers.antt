use Rattle.std.proofs.Common.{ap, length, arith}
use Rattle.std.proofs.lemmas.List.Sorted.{length_permutation}
use Rattle.large_pack.specs.Ranks.{kept_ranked}
use Rattle.large_pack.specs.Packing.{packing_in}
use Rattle.large_pack.proofs.Packs.{answers_by_fault, settled_within, straight_rise, straight_tied, straight_shorter, kept_shorter, repeat_answers, crowd_answers, network_answers}
use Rattle.large_pack.proofs.pack.pack_ranked.Goals as goal

pub settle-requires-clause-tied : goal.settle-requires-clause-tied
settle-requires-clause-tied c h = rw c.straighten.ensures (straight_tied c.args.options.now.self_loops c.args.edges.items (c.requires.tied h))

pub settle-requires-clause-rising : goal.settle-requires-clause-rising
settle-requires-clause-rising c = rw c.straighten.ensures (straight_rise c.args.options.now.self_loops c.args.edges.items c.requires.rising)

pub returns-in_err-settle : goal.returns-in_err-settle
returns-in_err-settle c = record {
  answer = λ es are count.
      answers_by_fault (packing_in c.args.options.now es) c.in_err-settle.field-0.0 c.from_residual.result c.from_residual.ensures.1
      (repeat_answers c.args.options.now es c.args.nodes c.args.edges.items c.straighten.new.edges.items c.settle.new.edges.items are c.straighten.ensures c.in_err-settle.field-0.0 c.in_err-settle.ensures.refused);
}

pub network_of_edges-requires-clause-within : goal.network_of_edges-requires-clause-within
network_of_edges-requires-clause-within c =
    settled_within c.args.nodes c.args.options.now.self_loops c.args.options.now.parallel c.args.edges.items c.straighten.new.edges.items c.settle.new.edges.items c.requires.within c.straighten.ensures c.in_ok-settle.ensures.kept

pub returns-in_err-network : goal.returns-in_err-network
returns-in_err-network c = record {
  answer = λ es are count.
      answers_by_fault (packing_in c.args.options.now es) c.in_err-network.field-0.0 c.from_residual-in_err-network.result c.from_residual-in_err-network.ensures.1
      (crowd_answers c.args.options.now es c.args.nodes c.args.edges.items c.straighten.new.edges.items c.settle.new.edges.items are c.straighten.ensures c.in_ok-settle.ensures.refused c.in_ok-settle.ensures.kept
      c.in_err-network.field-0.0 c.in_err-network.ensures.network c.in_err-network.ensures.few);
}

pub overflow_sub-result : goal.overflow_sub-result
overflow_sub-result c = omega (arith, ap length c.straighten.ensures, straight_shorter c.args.options.now.self_loops c.args.edges.items)

pub overflow_sub-result-2 : goal.overflow_sub-result-2
overflow_sub-result-2 c =
    omega (arith, length_permutation (kept_ranked c.args.options.now.parallel c.straighten.new.edges.items) c.settle.new.edges.items c.in_ok-settle.ensures.kept, kept_shorter c.args.options.now.parallel c.straighten.new.edges.items)

pub returns : goal.returns
returns c = record {
  answer = λ es are count.
      network_answers c.args.options.now es c.args.nodes c.args.edges.items c.straighten.new.edges.items c.settle.new.edges.items are c.straighten.ensures c.in_ok-settle.ensures.refused c.in_ok-settle.ensures.kept
      _ count c.in_ok-network.ensures.few c.in_ok-network.ensures.network (omega arith) (omega arith) (omega arith);
}

use Rattle.import_formats.proofs.dot.Chains.{chain_ends}
use Rattle.import_formats.proofs.dot.builder.push_chain.Goals as goal

pub returns : goal.returns
returns c = chain_ends c.loop-rest.edges.items _ c.args.weight c.loop-rest.rest.now c.in_default.len_below c.loop-rest.invariant
